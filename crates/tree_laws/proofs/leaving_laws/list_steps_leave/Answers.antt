use Rattle.tree_laws.proofs.Leaving.TableLeaves.{longer_leave}
use Rattle.tree_laws.proofs.Leaving.ListLeaves.{deletion_leaves, join_leaves, table_join_leaves}
use Rattle.tree_laws.proofs.leaving_laws.list_steps_leave.Goals as goal

pub returns-clause-deletion : goal.returns-clause-deletion
returns-clause-deletion c = deletion_leaves

pub returns-clause-join : goal.returns-clause-join
returns-clause-join c = join_leaves

pub returns-clause-table : goal.returns-clause-table
returns-clause-table c = table_join_leaves

pub returns-clause-longer : goal.returns-clause-longer
returns-clause-longer c = longer_leave
