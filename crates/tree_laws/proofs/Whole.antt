-- Edits from their tests to what they leave.
pub mod Mid
pub mod Rest
pub mod Ends
pub mod Spares
pub mod Texts
pub mod Joins
pub mod Creates
pub mod CreatesFull
pub mod Deletes
pub mod Moves
pub mod MovesFull
pub mod MovesLastFull
pub mod Links
pub mod LinksFull
pub mod Sets
pub mod GroupsWhole
pub mod Reached
