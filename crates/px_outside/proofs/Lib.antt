pub mod Alive
pub mod Causes
pub mod MemReads
pub mod ToldMore
