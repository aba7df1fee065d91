pub mod Steps
pub mod Words
pub mod Entries
pub mod Listed
pub mod Rows
pub mod Kept
