use Rattle.std.proofs.Common.{◌∙◌, refl, sym, subst, arith}
use Rattle.tree_moves.specs.Below.{SamePlaces}
use Rattle.tree_moves.proofs.Climbs.{drawn}
use Rattle.tree_moves.proofs.Shifted.{shifted_none, still_fits, shifted_one, places_kept}
use Rattle.tree_moves.proofs.depths.shift.Goals as goal

pub loop-serial-init : goal.loop-serial-init
loop-serial-init c = (shifted_none c.args.rows.now.items c.args.top c.args.row.depth c.args.to, refl)

pub shift_one-requires-clause-drawn : goal.shift_one-requires-clause-drawn
shift_one-requires-clause-drawn c = let n = c.loop-serial.invariant.0.count in omega (arith, c.loop-serial-test.true, n, c.count-serial-end.ensures)

pub shift_one-requires-clause-fits : goal.shift_one-requires-clause-fits
shift_one-requires-clause-fits c = still_fits c.args.rows.now.items c.args.top c.args.row.depth c.args.to c.loop-serial.rows.items c.loop-serial.serial c.loop-serial.invariant.0 (c.requires.fits c.loop-serial.serial)

pub loop-serial-preserved : goal.loop-serial-preserved
loop-serial-preserved c = (
  shifted_one c.args.rows.now.items c.args.top c.args.row.depth c.args.to c.loop-serial.rows.items c.loop-serial.serial c.loop-serial.invariant.0 c.shift_one.new.rows.items c.in-Ok.ensures.set,
  c.shift_one.ensures.kept ∙ c.loop-serial.invariant.1,
)

pub returns-in-Err-clause-places : goal.returns-in-Err-clause-places
returns-in-Err-clause-places c =
    subst (SamePlaces c.args.rows.now.items) (sym c.in-Err.ensures.same) (places_kept c.args.rows.now.items c.args.top c.args.row.depth c.args.to c.loop-serial.rows.items c.loop-serial.serial c.loop-serial.invariant.0)

pub set_row-requires : goal.set_row-requires
set_row-requires c = let n = c.loop-serial.invariant.0.count in let lt = drawn c.args.rows.now.items c.args.top c.args.row c.requires.top in omega (arith, n, lt)
