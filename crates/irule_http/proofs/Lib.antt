pub mod KeptFields
pub mod KeptFraming
pub mod Lengths
pub mod Moves
pub mod Refusals
mod Rows
pub mod SentHeads
pub mod Sending
pub mod Quieting
pub mod Once
