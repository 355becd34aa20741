use Rattle.tree_laws.proofs.Whole.Sets.{set_dims_is_whole, put_all_is_whole, put_part_is_whole}
use Rattle.tree_laws.proofs.whole_laws.data_are_whole.Goals as goal

pub returns-clause-shape : goal.returns-clause-shape
returns-clause-shape c = set_dims_is_whole

pub returns-clause-all : goal.returns-clause-all
returns-clause-all c = put_all_is_whole

pub returns-clause-part : goal.returns-clause-part
returns-clause-part c = put_part_is_whole
