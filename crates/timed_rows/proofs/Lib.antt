pub mod Expired
pub mod Seen
pub mod Ties
