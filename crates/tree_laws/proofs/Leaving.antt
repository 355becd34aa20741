-- What each step of an edit leaves as it was.
pub mod LeavingLaws
pub mod LeavesDirect
pub mod ListLeaves
pub mod ListsLeave
pub mod TableLeaves
pub mod PartsKept
pub mod PlacedEnds
pub mod TailsKept
