use Rattle.tree_laws.proofs.Groups.GroupsGrow.{group_grows, group_is_done, done_grow, firsts_grow, are_done_grow}
use Rattle.tree_laws.proofs.group_laws.groups_grow.Goals as goal

pub returns-clause-group : goal.returns-clause-group
returns-clause-group c = group_grows

pub returns-clause-done : goal.returns-clause-done
returns-clause-done c = group_is_done

pub returns-clause-last : goal.returns-clause-last
returns-clause-last c = done_grow

pub returns-clause-firsts : goal.returns-clause-firsts
returns-clause-firsts c = firsts_grow

pub returns-clause-each : goal.returns-clause-each
returns-clause-each c = are_done_grow
