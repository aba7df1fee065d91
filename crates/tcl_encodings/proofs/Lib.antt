mod Addrs
pub mod Networks
mod Pieces
mod Rows
mod Sizes
