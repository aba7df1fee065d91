pub mod Cut
pub mod Element
pub mod Escape
pub mod Grammar
pub mod Laws
pub mod Read
pub mod Seen
pub mod Write
