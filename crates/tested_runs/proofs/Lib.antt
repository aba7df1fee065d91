pub mod Comes
pub mod Cuts
pub mod Kept
pub mod Schedules
pub mod Ways
