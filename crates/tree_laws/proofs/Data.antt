-- Shapes and data of nodes.
pub mod DataSwitched
pub mod DataFields
pub mod ShapeSet
pub mod DataEnded
pub mod DataApplied
