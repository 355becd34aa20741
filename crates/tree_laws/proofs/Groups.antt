-- Groups of edits, on one file and on many.
pub mod GroupsGrow
pub mod TakesGrow
pub mod NeedsOfEdits
pub mod PartsMany
pub mod NeedsOfGroups
pub mod GroupLeft
pub mod FileGroups
pub mod GroupLoop
pub mod FileLoop
pub mod FileStops
pub mod Pays
