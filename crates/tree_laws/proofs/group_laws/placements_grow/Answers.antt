use Rattle.tree_laws.proofs.Groups.GroupsGrow.{tree_grows, placement_grows, plans_grow, placement_is_left, touched_grow, shaped_grow, cost_grows, need_grows}
use Rattle.tree_laws.proofs.group_laws.placements_grow.Goals as goal

pub returns-clause-tree : goal.returns-clause-tree
returns-clause-tree c = tree_grows

pub returns-clause-placement : goal.returns-clause-placement
returns-clause-placement c = placement_grows

pub returns-clause-plans : goal.returns-clause-plans
returns-clause-plans c = plans_grow

pub returns-clause-left : goal.returns-clause-left
returns-clause-left c = placement_is_left

pub returns-clause-touched : goal.returns-clause-touched
returns-clause-touched c = touched_grow

pub returns-clause-shaped : goal.returns-clause-shaped
returns-clause-shaped c = shaped_grow

pub returns-clause-cost : goal.returns-clause-cost
returns-clause-cost c = cost_grows

pub returns-clause-need : goal.returns-clause-need
returns-clause-need c = need_grows
