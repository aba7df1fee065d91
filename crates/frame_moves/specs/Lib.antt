pub mod Ends
pub mod Prefixes
pub mod Reading
pub mod StillMoves
pub mod TurnParts
pub mod Turns
