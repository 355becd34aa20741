use Rattle.tree_laws.proofs.Deletes.DeletedTree.{deleted_in_its_tree, deleted_above_it}
use Rattle.tree_laws.proofs.Deletes.SubtreeWalked.{walks_list_subtrees}
use Rattle.tree_laws.proofs.delete_laws.deletions_in_their_tree.Goals as goal

pub returns-clause-tree : goal.returns-clause-tree
returns-clause-tree c = deleted_in_its_tree

pub returns-clause-above : goal.returns-clause-above
returns-clause-above c = deleted_above_it

pub returns-clause-walks : goal.returns-clause-walks
returns-clause-walks c = walks_list_subtrees
