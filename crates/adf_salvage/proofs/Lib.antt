pub mod StartLaws
pub mod WayLaws
pub mod StepLaws
pub mod GoingLaws
pub mod PartLaws
pub mod WholeLaws
