use Rattle.std.proofs.Common.{◌≡◌, ◌-◌, Some}
use Rattle.tree_moves.specs.Below.{climb_rows}
use Rattle.tree_moves.proofs.depths.climb.Given as goal

-- the steps that are left lead to the same
abbrev pub invariant-loop-step : goal.invariant-loop-step
invariant-loop-step l = climb_rows (l.steps - l.step) l.rows.items (Some l.at) ≡ climb_rows l.steps l.rows.items (Some l.serial)
