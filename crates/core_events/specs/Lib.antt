pub mod Edges
pub mod Kinds
pub mod Face
