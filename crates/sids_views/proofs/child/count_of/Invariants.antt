use Rattle.std.proofs.Common.{◌≡◌, ◌+◌, ◌≤◌, drop}
use Rattle.sids_views.specs.Views.{count_of}
use Rattle.sids_views.proofs.child.count_of.Given as goal

-- what is left of the children says the same as all of them
abbrev pub invariant-loop-child : goal.invariant-loop-child
invariant-loop-child l = record {
  within : l.count ≤ l.child-index;
  rest : l.count + count_of l.kind (drop l.child-index l.children) ≡ count_of l.kind l.children;
}
