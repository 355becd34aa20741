use Rattle.tree_laws.proofs.Whole.Reached.{reached_is_within, group_reaches_more}
use Rattle.tree_laws.proofs.reach_laws.groups_reach.Goals as goal

pub returns-clause-within : goal.returns-clause-within
returns-clause-within c = reached_is_within

pub returns-clause-turn : goal.returns-clause-turn
returns-clause-turn c = group_reaches_more
