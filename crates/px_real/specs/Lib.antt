pub mod Links
pub mod Real
