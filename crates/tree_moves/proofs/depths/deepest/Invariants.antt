use Rattle.tree_moves.proofs.Climbs.{IsDeepestOf}
use Rattle.tree_moves.proofs.depths.deepest.Given as goal

abbrev pub invariant-loop-serial : goal.invariant-loop-serial
invariant-loop-serial l = IsDeepestOf l.rows.items l.top l.depth l.most l.serial
