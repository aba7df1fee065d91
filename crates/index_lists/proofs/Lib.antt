pub mod Leaves
pub mod Orders
pub mod Rings
pub mod Rows
pub mod Trees
pub mod Widened
