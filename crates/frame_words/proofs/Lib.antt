pub mod FirstViews
pub mod InBegins
pub mod InCalls
pub mod InCatches
mod InCommands
pub mod InFronts
pub mod InPieces
pub mod InScripts
mod PieceSteps
mod Rests
pub mod ScriptMoves
mod WholeViews
mod WordGoes
mod WordMeans
pub mod WordOwes
mod WordPrices
