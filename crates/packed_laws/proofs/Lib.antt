pub mod NodeSays
pub mod PackedTexts
pub mod PackedTiles
pub mod PackedNodes
pub mod PackedFile
