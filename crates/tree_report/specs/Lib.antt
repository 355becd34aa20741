pub mod Fields
pub mod Lines
pub mod Places
pub mod Level
pub mod Levels
pub mod Sights
pub mod Reports
