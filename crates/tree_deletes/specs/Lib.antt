pub mod Erased
pub mod Doomed
pub mod Given
pub mod Deleted
