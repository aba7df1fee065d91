pub mod Connections
pub mod Laws
pub mod Messages
