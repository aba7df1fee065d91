mod EachCut
mod EachOrder
mod Growing
mod Loops
mod Members
mod Nexts
pub mod WholePieces
