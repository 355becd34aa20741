use Rattle.std.proofs.Common.{◌≡◌, length}
use Rattle.std.specs.List.{list_any}
use Rattle.element_ranges.specs.Ranges.{touches, IsRising}
use Rattle.element_ranges.proofs.union.meets_some.Given as goal

-- what is left is in order, and says the same as all
abbrev pub invariant-loop-rest : goal.invariant-loop-rest
invariant-loop-rest l = record {
  rising : IsRising l.rest;
  same : list_any (touches l.fn.first l.fn.last) l.rest ≡ list_any (touches l.fn.first l.fn.last) l.fn.ranges;
}

abbrev pub decreases-loop-rest : goal.decreases-loop-rest
decreases-loop-rest l = length l.rest
