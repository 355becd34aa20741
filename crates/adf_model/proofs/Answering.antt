-- What calls answer and leave: asks, openings, groups, runs, their causes and costs.
pub mod AskLaws
pub mod Asking
pub mod AsksThenEdits
pub mod StepLaws
pub mod LayoutLemmas
pub mod StandingLaws
pub mod GroupStands
pub mod RunLaws
pub mod FileGroupLaws
pub mod CostLaws
pub mod FaultBound
pub mod FaultCauses
pub mod RoomLaws
pub mod PlacingLemmas
pub mod RuleNames
pub mod EditCauses
