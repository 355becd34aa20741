pub mod KindLaws
pub mod OffsetTestLaws
pub mod BrokenLaws
