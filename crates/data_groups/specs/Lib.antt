pub mod Groups
pub mod Index
pub mod Laws
pub mod Matches
pub mod Networks
