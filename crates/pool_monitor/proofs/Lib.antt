mod Documents
mod Firsts
mod Found
mod History
mod NewMembers
mod Passes
mod Pumps
mod Soonest
pub mod WorkedRows
