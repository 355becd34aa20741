use Rattle.std.proofs.Common.{◌≡◌, ◌++◌, take}
use Rattle.layout_lint.specs.Owners.{owned_by}
use Rattle.layout_lint.proofs.owners.add_owned.Given as goal

abbrev pub invariant-loop-k : goal.invariant-loop-k
invariant-loop-k l = l.owned.items ≡ l.initial.owned.items ++ owned_by l.owner (take l.k l.extents)
