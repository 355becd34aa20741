pub mod RunLists
pub mod Axes
