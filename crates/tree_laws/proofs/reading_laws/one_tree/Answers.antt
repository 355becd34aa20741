use Rattle.tree_laws.proofs.Reading.TreesRead.{one_tree}
use Rattle.tree_laws.proofs.Reading.OnePlacement.{one_placement}
use Rattle.tree_laws.proofs.reading_laws.one_tree.Goals as goal

pub returns-clause-tree : goal.returns-clause-tree
returns-clause-tree c = one_tree

pub returns-clause-placement : goal.returns-clause-placement
returns-clause-placement c = one_placement
