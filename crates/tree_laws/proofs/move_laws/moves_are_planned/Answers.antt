use Rattle.tree_laws.proofs.Moves.MoveFits.{deepest_decides}
use Rattle.tree_laws.proofs.Moves.PlanMove.{has_room, plans_move}
use Rattle.tree_laws.proofs.move_laws.moves_are_planned.Goals as goal

pub returns-clause-room : goal.returns-clause-room
returns-clause-room c = has_room

pub returns-clause-plan : goal.returns-clause-plan
returns-clause-plan c = plans_move

pub returns-clause-fits : goal.returns-clause-fits
returns-clause-fits c = deepest_decides
