pub mod Told
pub mod Headers
pub mod Hints
pub mod Entries
pub mod Causes
pub mod Known
pub mod Refusals
