pub mod OffsetParts
pub mod Pieces
pub mod Faces
pub mod OffsetTests
