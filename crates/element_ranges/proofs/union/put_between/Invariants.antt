use Rattle.std.proofs.Common.{◌≡◌, ◌≤◌, ◌-◌, ◌++◌, ◌∷◌, take, drop}
use Rattle.element_ranges.proofs.union.put_between.Given as goal

-- the range stands before those that are still to be taken out
abbrev pub invariant-loop-left : goal.invariant-loop-left
invariant-loop-left l = record {
  few : l.left ≤ l.fn.ended - l.fn.begun;
  items : l.ranges.items ≡ take l.fn.begun l.fn.ranges.items ++ l.fn.range ∷ drop (l.fn.ended - l.left) l.fn.ranges.items;
}

abbrev pub decreases-loop-left : goal.decreases-loop-left
decreases-loop-left l = l.left
