use Rattle.std.proofs.Common.{◌≡◌, map, take}
use Rattle.layout_lint.specs.Owners.{extent_of}
use Rattle.layout_lint.proofs.owners.extents_in.Given as goal

abbrev pub invariant-loop-k : goal.invariant-loop-k
invariant-loop-k l = l.extents.items ≡ map extent_of (take l.k l.owned)
