pub mod Input
pub mod Printed
pub mod Turns
pub mod Session
