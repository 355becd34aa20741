use Rattle.tree_laws.proofs.Whole.Reached.{room_may_be_written, spared_lies}
use Rattle.tree_laws.proofs.reach_laws.edits_may_write.Goals as goal

pub returns-clause-room : goal.returns-clause-room
returns-clause-room c = room_may_be_written

pub returns-clause-spared : goal.returns-clause-spared
returns-clause-spared c = spared_lies
