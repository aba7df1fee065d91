pub mod Bodies
pub mod ChunkLines
pub mod Cuttings
pub mod Looked
pub mod NextUnit
pub mod Parts
pub mod States
pub mod Units
