pub mod Image
pub mod Spaces
pub mod Counts
pub mod Waits
