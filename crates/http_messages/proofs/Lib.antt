pub mod Short
mod Rows
mod Told
