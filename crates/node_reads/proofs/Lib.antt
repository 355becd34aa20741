pub mod HeaderLaws
pub mod EntryLaws
pub mod ReadLaws
pub mod LaidOut
