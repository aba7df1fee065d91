pub mod Deeds
pub mod Expectations
pub mod Faults
pub mod Files
pub mod Line
