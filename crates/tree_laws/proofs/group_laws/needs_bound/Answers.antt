use Rattle.tree_laws.proofs.Groups.NeedsOfEdits.{needs_bound}
use Rattle.tree_laws.proofs.Groups.PartsMany.{parts_are_many}
use Rattle.tree_laws.proofs.Groups.NeedsOfGroups.{group_needs_bound, group_stays_tree}
use Rattle.tree_laws.proofs.group_laws.needs_bound.Goals as goal

pub returns-clause-edit : goal.returns-clause-edit
returns-clause-edit c = needs_bound

pub returns-clause-parts : goal.returns-clause-parts
returns-clause-parts c = parts_are_many

pub returns-clause-group : goal.returns-clause-group
returns-clause-group c = group_needs_bound

pub returns-clause-stays : goal.returns-clause-stays
returns-clause-stays c = group_stays_tree
