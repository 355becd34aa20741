use Rattle.tree_laws.proofs.Data.ShapeSet.{shape_is_set, data_is_replaced, data_is_overwritten}
use Rattle.tree_laws.proofs.data_laws.data_is_set.Goals as goal

pub returns-clause-shape : goal.returns-clause-shape
returns-clause-shape c = shape_is_set

pub returns-clause-replaced : goal.returns-clause-replaced
returns-clause-replaced c = data_is_replaced

pub returns-clause-overwritten : goal.returns-clause-overwritten
returns-clause-overwritten c = data_is_overwritten
