use Rattle.tree_laws.proofs.Whole.GroupsWhole.{whole_group_begins, whole_group_goes_on}
use Rattle.tree_laws.proofs.whole_laws.groups_are_whole.Goals as goal

pub returns-clause-begins : goal.returns-clause-begins
returns-clause-begins c = whole_group_begins

pub returns-clause-turn : goal.returns-clause-turn
returns-clause-turn c = whole_group_goes_on
