-- What edits leave of the tree, as a table of the nodes needs it.
pub mod ChangedInPlace
pub mod JoinedTree
pub mod TakenThenGiven
pub mod EditsTakeThenGive
pub mod StaysPlaced
