use Rattle.tree_laws.proofs.Leaving.LeavingLaws.{steps_leave, leaves_more}
use Rattle.tree_laws.proofs.leaving_laws.steps_leave_parts.Goals as goal

pub returns-clause-steps : goal.returns-clause-steps
returns-clause-steps c = steps_leave

pub returns-clause-more : goal.returns-clause-more
returns-clause-more c = leaves_more
