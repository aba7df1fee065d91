pub mod Faults
pub mod Loading
pub mod Names
pub mod NameSets
pub mod Order
pub mod ParameterLists
pub mod Rules
