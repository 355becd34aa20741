-- The nodes that a walk over an image finds are those of a tree.
pub mod WalkRows
pub mod WalkNames
pub mod WalkNodes
pub mod WalkCounts
pub mod WalkTree
