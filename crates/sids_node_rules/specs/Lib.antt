pub mod NodeRules
pub mod Fields
pub mod KindTests
