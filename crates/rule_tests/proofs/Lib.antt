pub mod NamesTold
pub mod Results
pub mod Sources
pub mod Told
