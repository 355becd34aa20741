pub mod Found
pub mod Becomes
pub mod Shaped
pub mod Puts
