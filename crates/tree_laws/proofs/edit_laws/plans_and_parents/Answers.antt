use Rattle.tree_laws.proofs.Tables.TableReplaced.{table_is_replaced}
use Rattle.tree_laws.proofs.Edits.PlanNew.{plans_create}
use Rattle.tree_laws.proofs.Edits.Plans.{plans_others, parents_by_lineage}
use Rattle.tree_laws.proofs.edit_laws.plans_and_parents.Goals as goal

pub returns-clause-plans : goal.returns-clause-plans
returns-clause-plans c = plans_others

pub returns-clause-creates : goal.returns-clause-creates
returns-clause-creates c = plans_create

pub returns-clause-parents : goal.returns-clause-parents
returns-clause-parents c = parents_by_lineage

pub returns-clause-table : goal.returns-clause-table
returns-clause-table c = table_is_replaced
