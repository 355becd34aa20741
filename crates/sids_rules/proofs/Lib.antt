pub mod Padding
pub mod Passes
pub mod Codes
pub mod Ranges
pub mod Decided
pub mod OffsetLaws
pub mod OffsetsDecided
pub mod ByKind
mod CheckCases
mod RuleCases
mod OffsetCases
