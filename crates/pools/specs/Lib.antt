pub mod Groups
pub mod Laws
pub mod Pools
pub mod Selection
