pub mod Sums
pub mod Table
pub mod Trees
pub mod Raising
pub mod Tallies
