pub mod ListLaws
pub mod Counts
pub mod Ties
pub mod UndoLaws
