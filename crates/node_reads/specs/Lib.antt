pub mod Reads
pub mod Headers
pub mod Entries
pub mod LaidOut
