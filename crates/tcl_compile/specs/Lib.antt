pub mod IfView
pub mod Outcome
pub mod Reads
