pub mod ByName
pub mod Found
pub mod HaveEvents
