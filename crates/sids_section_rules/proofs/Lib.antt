pub mod OverlapLaws
pub mod SpanLaws
pub mod NoteLaws
pub mod EntryLaws
pub mod PartLaws
