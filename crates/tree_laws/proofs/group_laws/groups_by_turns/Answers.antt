use Rattle.tree_laws.proofs.Groups.GroupLoop.{group_begins, group_goes_on, group_pays, group_stops, group_is_full, group_ends}
use Rattle.tree_laws.proofs.group_laws.groups_by_turns.Goals as goal

pub returns-clause-begins : goal.returns-clause-begins
returns-clause-begins c = group_begins

pub returns-clause-turn : goal.returns-clause-turn
returns-clause-turn c = group_goes_on

pub returns-clause-pays : goal.returns-clause-pays
returns-clause-pays c = group_pays

pub returns-clause-stops : goal.returns-clause-stops
returns-clause-stops c = group_stops

pub returns-clause-full : goal.returns-clause-full
returns-clause-full c = group_is_full

pub returns-clause-ends : goal.returns-clause-ends
returns-clause-ends c = group_ends
