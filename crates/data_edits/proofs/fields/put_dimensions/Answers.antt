use Rattle.std.proofs.Common.{rules, ◌^◌, ◌<◌, sym, subst, arith, get_or}
use Rattle.data_edits.proofs.Shapes.{dimension_fits}
use Rattle.data_edits.proofs.fields.put_dimensions.Goals as goal

pub put_number-end-requires-clause-fits : goal.put_number-end-requires-clause-fits
put_number-end-requires-clause-fits c =
    subst (λ n. get_or c.args.shape.now.dims c.loop-i.i 0 < 16 ^ n) (sym c.dimension_digits-digits.ensures)
    (dimension_fits c.args.wide c.args.shape.now c.loop-i.i (search rules) c.requires.few c.requires.fits (let lt = c.loop-i-test.true in let e = c.from-i-end.ensures in omega (arith, lt, e)))
