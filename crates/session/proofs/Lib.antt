pub mod Said
pub mod Reading
pub mod Running
pub mod Faults
