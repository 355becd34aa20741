use Rattle.tree_laws.proofs.Moves.MovesWhole.{moves_last, moves_over, moves_last_longer, moves_over_longer, last_leave, over_leave, last_longer_leave, over_longer_leave}
use Rattle.tree_laws.proofs.move_laws.nodes_move.Goals as goal

pub returns-clause-over : goal.returns-clause-over
returns-clause-over c = moves_over

pub returns-clause-last : goal.returns-clause-last
returns-clause-last c = moves_last

pub returns-clause-over_longer : goal.returns-clause-over_longer
returns-clause-over_longer c = moves_over_longer

pub returns-clause-last_longer : goal.returns-clause-last_longer
returns-clause-last_longer c = moves_last_longer

pub returns-clause-over_leaves : goal.returns-clause-over_leaves
returns-clause-over_leaves c = over_leave

pub returns-clause-last_leaves : goal.returns-clause-last_leaves
returns-clause-last_leaves c = last_leave

pub returns-clause-over_longer_leaves : goal.returns-clause-over_longer_leaves
returns-clause-over_longer_leaves c = over_longer_leave

pub returns-clause-last_longer_leaves : goal.returns-clause-last_longer_leaves
returns-clause-last_longer_leaves c = last_longer_leave
