-- Nodes that are deleted with all below them.
pub mod NodesLeft
pub mod SubtreeWalked
pub mod DeletedTree
pub mod SerialOrdered
