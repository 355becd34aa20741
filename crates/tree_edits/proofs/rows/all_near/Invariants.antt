use Rattle.std.proofs.Common.{◌+◌, ◌^◌, ◌≤◌, ◌<◌, ℕ, IfSome}
use Rattle.adf_format.specs.RecordFields.{node_length}
use Rattle.tree_edits.specs.declared.rows.Row.{Row}
use Rattle.tree_edits.specs.Rows.{row_of}
use Rattle.tree_edits.proofs.rows.all_near.Given as goal

abbrev pub invariant-loop-serial : goal.invariant-loop-serial
invariant-loop-serial l = (k : ℕ) → k < l.serial → IfSome (row_of l.rows k) (λ (r : Row). r.place + node_length l.wide ≤ 2 ^ 44)
