pub mod DocumentTypes
mod Documents
mod FirstTold
mod Firsts
pub mod Filling
mod Fitting
mod Found
mod Items
mod LineEnds
mod Marks
mod MayBeMembers
mod Migrating
mod MisplacedWords
mod OneReading
mod Readings
mod RowsAreTexts
mod RulesInTurn
mod WorkedRows
