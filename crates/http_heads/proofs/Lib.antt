pub mod FilterFields
mod FirstFields
pub mod ForwardedFields
pub mod Forwarding
pub mod FoundHeads
pub mod HeadsRead
pub mod HostFields
pub mod LastFields
mod LineEnds
pub mod LookedHeads
mod OneHead
pub mod PathsAre
pub mod ReadBack
mod ReadFields
pub mod ReadLengths
mod Readers
mod Rows
mod Sections
pub mod ShorterFields
mod StartLines
pub mod Targets
pub mod Trimmed
pub mod WrittenLengths
pub mod WrittenLines
