pub mod Chunks
pub mod Ranges
pub mod Runs
pub mod Fills
pub mod Sizes
pub mod Growing
