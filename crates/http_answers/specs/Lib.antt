pub mod Answers
pub mod Laws
pub mod Limits
pub mod Options
pub mod Refusals
pub mod Seen
