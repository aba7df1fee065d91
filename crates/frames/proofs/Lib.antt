pub mod Given
pub mod Heard
pub mod InMoves
pub mod InStills
pub mod LeafViews
mod NodePlaces
pub mod NodeViews
pub mod PriceViews
pub mod ShortCosts
pub mod SoundMoves
