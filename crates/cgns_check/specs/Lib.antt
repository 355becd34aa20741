pub mod Level
pub mod Levels
pub mod Nexts
pub mod Looks
pub mod Words
pub mod Lines
pub mod Checked
pub mod Kept
