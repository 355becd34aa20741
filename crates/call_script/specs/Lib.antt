pub mod Tokens
pub mod Causes
pub mod Fields
pub mod Lines
pub mod Plain
pub mod Replies
