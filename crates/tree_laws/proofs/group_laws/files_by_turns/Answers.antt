use Rattle.tree_laws.proofs.Groups.FileLoop.{files_go_on, files_stop, none_are_placed, one_more_is_placed}
use Rattle.tree_laws.proofs.group_laws.files_by_turns.Goals as goal

pub returns-clause-turn : goal.returns-clause-turn
returns-clause-turn c = files_go_on

pub returns-clause-stops : goal.returns-clause-stops
returns-clause-stops c = files_stop

pub returns-clause-begins : goal.returns-clause-begins
returns-clause-begins c = none_are_placed

pub returns-clause-placed : goal.returns-clause-placed
returns-clause-placed c = one_more_is_placed
