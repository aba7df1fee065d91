pub mod Pieces
pub mod Serves
