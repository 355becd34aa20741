use Rattle.data_edit_laws.proofs.Whole.{set_dims_settles, put_all_settles, put_part_settles}
use Rattle.data_edit_laws.proofs.laws.data_settle.Goals as goal

pub returns-clause-shape : goal.returns-clause-shape
returns-clause-shape c = set_dims_settles

pub returns-clause-all : goal.returns-clause-all
returns-clause-all c = put_all_settles

pub returns-clause-part : goal.returns-clause-part
returns-clause-part c = put_part_settles
