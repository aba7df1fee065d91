pub mod ByText
pub mod Found
pub mod Failing
pub mod FirstWord
pub mod ReadFields
pub mod OneEvent
pub mod FaultSpellsNone
pub mod Spacing
pub mod Clean
pub mod Addresses
pub mod Written
mod Rows
