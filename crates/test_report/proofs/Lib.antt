pub mod Parts
pub mod Suites
