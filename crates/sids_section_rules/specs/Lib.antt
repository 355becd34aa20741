pub mod Noted
pub mod Spans
pub mod Overlaps
pub mod Entries
pub mod SectionTests
pub mod Parts
