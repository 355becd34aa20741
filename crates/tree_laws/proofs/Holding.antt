-- What a file holds in the midst of an edit, over each of its steps.
pub mod Frames
pub mod Steps
pub mod HeapMoves
pub mod HeapCalls
pub mod TakenWritten
pub mod NodeKept
pub mod NodeFields
pub mod OwnRanges
pub mod GiftsFolded
