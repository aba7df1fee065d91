pub mod Got
pub mod Lines
pub mod Questions
pub mod Rows
pub mod Standing
pub mod Verdicts
