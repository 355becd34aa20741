use Rattle.std.proofs.Common.{◌≡◌, ◌+◌, ◌≤◌, drop}
use Rattle.sids_rules.specs.Rules.{count_points}
use Rattle.sids_node_rules.proofs.conditions.count_points.Given as goal

-- what is left of the children says the same as all of them
abbrev pub invariant-loop-child : goal.invariant-loop-child
invariant-loop-child l = record {
  within : l.count ≤ l.child-index;
  rest : l.count + count_points (drop l.child-index l.children) ≡ count_points l.children;
}
