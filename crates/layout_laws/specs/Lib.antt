pub mod FoundLayout
pub mod TilePass
pub mod ListPass
pub mod NodePass
