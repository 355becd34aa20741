use Rattle.std.proofs.Common.{◌≡◌, ◌+◌, length}
use Rattle.std.specs.HashMap.{values}
use Rattle.std.specs.List.{sum_by}
use Rattle.kept_names.proofs.names.counted.Given as goal

abbrev pub invariant-loop-kept : goal.invariant-loop-kept
invariant-loop-kept l =
    (goal.iterator-loop-kept).can_next l.kept-iterator
    × (goal.iterator-loop-kept).is_finite l.kept-iterator
    × (l.count + sum_by (λ k. length k.list) l.kept-iterator ≡ sum_by (λ k. length k.list) (values l.lists))
