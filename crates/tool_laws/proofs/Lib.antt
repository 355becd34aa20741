pub mod Devices
pub mod Ends
pub mod Listed
pub mod Decided
