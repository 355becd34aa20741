use Rattle.std.proofs.Common.{◌≡◌, drop}
use Rattle.sids_views.specs.Views.{first_of}
use Rattle.sids_views.proofs.child.first_of.Given as goal

-- what is left of the children says the same as all of them
abbrev pub invariant-loop-child : goal.invariant-loop-child
invariant-loop-child l = first_of l.kind (drop l.child-index l.children) ≡ first_of l.kind l.children
