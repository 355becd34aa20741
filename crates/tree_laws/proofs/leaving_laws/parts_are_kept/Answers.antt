use Rattle.tree_laws.proofs.Leaving.PartsKept.{same_parts, new_parts, table_parts, erased_parts, parts_go_on, more_part}
use Rattle.tree_laws.proofs.leaving_laws.parts_are_kept.Goals as goal

pub returns-clause-same : goal.returns-clause-same
returns-clause-same c = same_parts

pub returns-clause-new : goal.returns-clause-new
returns-clause-new c = new_parts

pub returns-clause-table : goal.returns-clause-table
returns-clause-table c = table_parts

pub returns-clause-gone : goal.returns-clause-gone
returns-clause-gone c = erased_parts

pub returns-clause-steps : goal.returns-clause-steps
returns-clause-steps c = parts_go_on

pub returns-clause-more : goal.returns-clause-more
returns-clause-more c = more_part
