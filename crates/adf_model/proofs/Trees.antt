-- Facts of sound trees: ancestors, lines of descent, subtrees, tree order and numbering.
pub mod AncestorLemmas
pub mod DifferLemmas
pub mod LineageLemmas
pub mod SubtreeLemmas
pub mod TreeOrder
pub mod Renumbered
pub mod NumberedLaidOut
