use Rattle.std.proofs.Common.{◌≡◌}
use Rattle.tree_moves.proofs.Shifted.{IsPartShifted}
use Rattle.tree_moves.proofs.depths.shift.Given as goal

abbrev pub invariant-loop-serial : goal.invariant-loop-serial
invariant-loop-serial l = IsPartShifted l.fn.rows.items l.rows.items l.top l.row.depth l.to l.serial × (l.rows.kept ≡ l.fn.rows.kept)
