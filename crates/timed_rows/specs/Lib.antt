pub mod Rows
pub mod Tied
