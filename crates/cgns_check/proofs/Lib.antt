pub mod LevelLaws
pub mod LookLaws
pub mod WalkLaws
pub mod LineLaws
pub mod CheckLaws
pub mod PathLaws
pub mod MeetLaws
pub mod KeptLaws
