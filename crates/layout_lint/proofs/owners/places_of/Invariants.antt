use Rattle.std.proofs.Common.{◌≡◌, map, take}
use Rattle.layout_lint.specs.Owners.{place_of_node}
use Rattle.layout_lint.proofs.owners.places_of.Given as goal

abbrev pub invariant-loop-k : goal.invariant-loop-k
invariant-loop-k l = l.places.items ≡ map place_of_node (take l.k l.nodes)
