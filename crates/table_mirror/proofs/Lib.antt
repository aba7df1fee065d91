pub mod Orders
pub mod Once
pub mod Holding
pub mod Going
pub mod Arriving
pub mod Offering
pub mod Telling
mod Rows
