use Rattle.tree_laws.proofs.Moves.MovedTree.{moved_in_its_tree}
use Rattle.tree_laws.proofs.move_laws.moved_in_its_tree.Goals as goal

pub returns : goal.returns
returns c = moved_in_its_tree
