use Rattle.tree_laws.proofs.Data.DataApplied.{nodes_are_spelled, set_dims_applies, put_all_applies, put_part_applies}
use Rattle.tree_laws.proofs.data_laws.data_edits_apply.Goals as goal

pub returns-clause-spelled : goal.returns-clause-spelled
returns-clause-spelled c = nodes_are_spelled

pub returns-clause-dims : goal.returns-clause-dims
returns-clause-dims c = set_dims_applies

pub returns-clause-all : goal.returns-clause-all
returns-clause-all c = put_all_applies

pub returns-clause-part : goal.returns-clause-part
returns-clause-part c = put_part_applies
