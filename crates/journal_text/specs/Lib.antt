pub mod Verb
pub mod Form
pub mod Reading
pub mod Line
pub mod Laws
pub mod Notes
