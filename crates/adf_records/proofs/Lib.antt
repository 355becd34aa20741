pub mod RowGroups
pub mod Pieces
pub mod Respelling
pub mod Rereading
pub mod Places
