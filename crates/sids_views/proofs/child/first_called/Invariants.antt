use Rattle.std.proofs.Common.{◌≡◌, drop}
use Rattle.sids_views.specs.Views.{first_called}
use Rattle.sids_views.proofs.child.first_called.Given as goal

-- what is left of the children says the same as all of them
abbrev pub invariant-loop-child : goal.invariant-loop-child
invariant-loop-child l = first_called l.name (drop l.child-index l.children) ≡ first_called l.name l.children
