mod BranchSteps
pub mod InBranches
pub mod InLoops
pub mod InQuick
pub mod InRows
pub mod InSwitches
pub mod LoopTurns
mod PartViews
mod RowSteps
mod ShortParts
mod TurnsMade
