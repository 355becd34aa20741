use Rattle.adf_model.proofs.Keeping.CreatedChild.{serial_drawn, child_there, last_child, others_stay, above_stay, above_child, child_depth}
use Rattle.adf_model.proofs.edit_laws.created_child_in_its_tree.Goals as goal

pub returns-clause-serial : goal.returns-clause-serial
returns-clause-serial c = serial_drawn

pub returns-clause-node : goal.returns-clause-node
returns-clause-node c = child_there

pub returns-clause-last : goal.returns-clause-last
returns-clause-last c = last_child

pub returns-clause-others : goal.returns-clause-others
returns-clause-others c = others_stay

pub returns-clause-above : goal.returns-clause-above
returns-clause-above c = above_stay

pub returns-clause-parent : goal.returns-clause-parent
returns-clause-parent c = above_child

pub returns-clause-depth : goal.returns-clause-depth
returns-clause-depth c = child_depth
