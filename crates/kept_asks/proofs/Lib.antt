pub mod Meanings
pub mod KeptLists
pub mod Replies
pub mod Follows
pub mod KnownChildren
