use Rattle.tree_laws.proofs.Whole.MovesFull.{move_is_whole_full}
use Rattle.tree_laws.proofs.Whole.MovesLastFull.{move_last_is_whole_full}
use Rattle.tree_laws.proofs.Whole.Moves.{move_is_whole, move_last_is_whole}
use Rattle.tree_laws.proofs.whole_laws.moves_are_whole.Goals as goal

pub returns-clause-over : goal.returns-clause-over
returns-clause-over c = move_is_whole

pub returns-clause-last : goal.returns-clause-last
returns-clause-last c = move_last_is_whole

pub returns-clause-over_full : goal.returns-clause-over_full
returns-clause-over_full c = move_is_whole_full

pub returns-clause-last_full : goal.returns-clause-last_full
returns-clause-last_full c = move_last_is_whole_full
