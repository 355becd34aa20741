-- Nodes that are moved.
pub mod MovedNodes
pub mod MovedTree
pub mod MovedOver
pub mod MovedLast
pub mod MovesWhole
pub mod PlanMove
pub mod MoveFits
