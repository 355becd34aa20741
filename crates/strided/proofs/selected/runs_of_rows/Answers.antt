use Rattle.std.proofs.Common.{◌≡◌, ◌≤◌, map, ap, sym, subst, ◌∙◌, arith}
use Rattle.std.specs.List.{flat_map}
use Rattle.std.proofs.lemmas.Result.{IfOk-weaker}
use Rattle.strided.specs.RunLists.{spread, AreMaximal}
use Rattle.strided.specs.Axes.{row_of, whole_rows}
use Rattle.strided.proofs.RowLaws.{whole_spread, whole_maximal}
use Rattle.strided.proofs.selected.runs_of_rows.Goals as goal

pub returns-then-is_whole-clause-spread : goal.returns-then-is_whole-clause-spread
returns-then-is_whole-clause-spread c =
    let axis = c.args.axis in
    IfOk-weaker c.runs_of_whole_rows.result (λ found. found.items ≡ map (whole_rows axis.dim) c.args.rows.now) (λ found. spread found.items ≡ flat_map (row_of axis) (spread c.args.rows.now))
    (λ found e. ap spread e ∙ whole_spread axis c.requires.fits (sym c.if-is_whole.ensures) c.args.rows.now) c.runs_of_whole_rows.ensures.value

pub returns-then-is_whole-clause-maximal : goal.returns-then-is_whole-clause-maximal
returns-then-is_whole-clause-maximal c =
    let axis = c.args.axis in
    let fits = c.requires.fits in
    let some : 1 ≤ axis.dim = omega (arith, fits.start, fits.ordered, fits.end) in
    IfOk-weaker c.runs_of_whole_rows.result (λ found. found.items ≡ map (whole_rows axis.dim) c.args.rows.now) (λ found. AreMaximal found.items)
    (λ found e. subst AreMaximal (sym e) (whole_maximal axis.dim some c.args.rows.now c.requires.maximal)) c.runs_of_whole_rows.ensures.value
