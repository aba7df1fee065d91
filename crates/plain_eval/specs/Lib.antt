pub mod Plain
pub mod End
pub mod Stand
pub mod Ran
