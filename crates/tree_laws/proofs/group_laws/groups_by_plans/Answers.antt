use Rattle.tree_laws.proofs.Groups.FileGroups.{edit_by_plan, group_by_plans}
use Rattle.tree_laws.proofs.group_laws.groups_by_plans.Goals as goal

pub returns-clause-edit : goal.returns-clause-edit
returns-clause-edit c = edit_by_plan

pub returns-clause-group : goal.returns-clause-group
returns-clause-group c = group_by_plans
