pub mod PlainTrees
pub mod LinkRules
