use Rattle.tree_laws.proofs.Whole.Rest.{rest_is_left}
use Rattle.tree_laws.proofs.Whole.Ends.{mid_ends}
use Rattle.tree_laws.proofs.whole_laws.edits_end.Goals as goal

pub returns-clause-rest : goal.returns-clause-rest
returns-clause-rest c = rest_is_left

pub returns-clause-done : goal.returns-clause-done
returns-clause-done c = mid_ends
