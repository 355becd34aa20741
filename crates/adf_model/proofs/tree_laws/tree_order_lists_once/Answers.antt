use Rattle.adf_model.proofs.Trees.TreeOrder.{listed_once}
use Rattle.adf_model.proofs.tree_laws.tree_order_lists_once.Goals as goal

pub returns : goal.returns
returns c = listed_once
