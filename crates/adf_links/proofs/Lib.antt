pub mod PathLaws
pub mod LinkLaws
