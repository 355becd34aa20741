pub mod Components
pub mod LinkParts
