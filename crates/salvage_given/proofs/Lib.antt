pub mod HeaderRead
pub mod ChunksRead
pub mod KeptRoom
pub mod KeptKids
pub mod PartGiven
