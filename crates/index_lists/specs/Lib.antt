pub mod Wheel
pub mod Least
pub mod Ring
