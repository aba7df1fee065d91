pub mod Choices
pub mod Found
pub mod Holding
pub mod Moves
