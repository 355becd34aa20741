pub mod Shelf
pub mod Places
pub mod Calls
pub mod Entries
pub mod Edits
pub mod Library
