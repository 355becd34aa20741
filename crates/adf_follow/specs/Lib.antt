pub mod Looking
pub mod Groups
pub mod Runs
