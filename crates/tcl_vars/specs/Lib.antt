pub mod Scopes
pub mod Names
pub mod Tables
pub mod Faults
pub mod Appended
pub mod Changed
pub mod Indexes
pub mod Laws
