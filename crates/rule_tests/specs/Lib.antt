pub mod Named
pub mod Places
pub mod Results
pub mod Tests
pub mod Told
