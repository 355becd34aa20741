-- Each edit, and each group of edits, keeps a sound tree sound.
pub mod Keeps
pub mod Created
pub mod CreateKeeps
pub mod JoinedChild
pub mod CreatedChild
pub mod RenameKeeps
pub mod LinkKeeps
pub mod MoveKeeps
pub mod DeleteKeeps
pub mod DataKeeps
pub mod PartKeeps
pub mod EditsKeep
pub mod GroupKeeps
