-- Labels, names, new nodes and links: from what is written to the tree that the file then holds.
pub mod LabelSet
pub mod LabelDone
pub mod NameChanged
pub mod NewNode
pub mod NodeJoined
pub mod NodeWithTable
pub mod EntryJoined
pub mod LinkFull
pub mod EditsPlaced
pub mod Plans
pub mod PlanNew
