pub mod Deeds
pub mod Due
pub mod Known
pub mod Moves
pub mod Stand
pub mod Told
