use Rattle.tree_laws.proofs.Facts.ChangedInPlace.{changed_in_its_tree}
use Rattle.tree_laws.proofs.fact_laws.changed_in_their_tree.Goals as goal

pub returns : goal.returns
returns c = changed_in_its_tree
