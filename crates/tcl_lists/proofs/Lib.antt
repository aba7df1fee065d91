pub mod Again
pub mod Moves
pub mod Placed
pub mod Rows
pub mod Specials
pub mod Spelled
pub mod Splits
pub mod Steps
