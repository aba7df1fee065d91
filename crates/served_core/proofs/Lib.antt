pub mod Growing
pub mod ServerGrowing
pub mod Pieces
pub mod Promising
pub mod Breaking
pub mod Fronts
pub mod Risen
pub mod SendsInRuns
