pub mod Exact
pub mod Unescaped
pub mod Words
pub mod Journal
pub mod Reading
