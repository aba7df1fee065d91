pub mod Command
pub mod Event
pub mod Phase
