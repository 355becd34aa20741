pub mod FieldLaws
pub mod SightLaws
pub mod LevelLaws
pub mod ReportLaws
pub mod Opened
