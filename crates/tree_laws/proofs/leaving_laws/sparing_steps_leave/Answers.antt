use Rattle.tree_laws.proofs.Leaving.LeavesDirect as direct
use Rattle.tree_laws.proofs.leaving_laws.sparing_steps_leave.Goals as goal

pub returns-clause-by : goal.returns-clause-by
returns-clause-by c = direct.leaves_by_sparing

pub returns-clause-take : goal.returns-clause-take
returns-clause-take c = direct.take_leaves

pub returns-clause-taken : goal.returns-clause-taken
returns-clause-taken c = direct.taken_leaves

pub returns-clause-gifts : goal.returns-clause-gifts
returns-clause-gifts c = direct.gifts_leave

pub returns-clause-data_edits : goal.returns-clause-data_edits
returns-clause-data_edits c = direct.data_leaves
