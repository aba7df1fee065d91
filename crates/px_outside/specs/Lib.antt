pub mod MemFiles
pub mod MemSink
pub mod MemClock
pub mod MemLink
pub mod MemNet
pub mod Net
pub mod Outside
