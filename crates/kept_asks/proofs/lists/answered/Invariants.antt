use Rattle.std.proofs.Common.{◌≡◌, ◌-◌, ◌≤◌, length, map, take}
use Rattle.kept_asks.specs.Named.{answered_child}
use Rattle.kept_asks.proofs.lists.answered.Given as goal

-- the first children are answered
abbrev pub invariant-loop-entry : goal.invariant-loop-entry
invariant-loop-entry l =
    (length l.children.items ≤ length l.list) × (l.children.items ≡ map (answered_child l.file) (take (length l.children.items) l.list))

abbrev pub decreases-loop-entry : goal.decreases-loop-entry
decreases-loop-entry l = length l.list - length l.children.items
