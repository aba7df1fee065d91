pub mod Sources
pub mod Calls
pub mod Store
pub mod Laws
