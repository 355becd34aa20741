use Rattle.tree_laws.proofs.Facts.JoinedTree.{joined_in_its_tree}
use Rattle.tree_laws.proofs.fact_laws.joined_in_their_tree.Goals as goal

pub returns : goal.returns
returns c = joined_in_its_tree
