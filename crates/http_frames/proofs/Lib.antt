mod Begun
mod Completions
mod EachUnit
mod Fronts
mod HexDigits
pub mod Lines
pub mod Longer
pub mod LookedOnce
pub mod NextUnits
mod Numbers
pub mod OneLength
pub mod OneUnit
mod Pairs
pub mod PartsStay
mod Reaches
mod Rows
mod Sizes
mod Snocs
pub mod SomeUnits
mod SplitPieces
pub mod Taken
mod WholeRuns
