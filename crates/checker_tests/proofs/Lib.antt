pub mod PlainLaws
pub mod LinkLaws
