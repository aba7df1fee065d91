pub mod Raised
pub mod Summing
