use Rattle.std.proofs.Common.{◌≡◌, ◌+◌, drop, false, length, sym, ap, ◌∙◌, arith}
use Rattle.std.specs.Prelude.{◌&&◌, ◌==◌}
use Rattle.adf_model.specs.Shapes.{dims_of}
use Rattle.adf_model.specs.Selection.{each_axis_fits}
use Rattle.strided.specs.Axes.{axis_fits}
use Rattle.strided.proofs.ElementLaws.{axis_at, fits_more, and-false}
use Rattle.strided.proofs.selected.selection_fits.Goals as goal

pub returns-then-not-fits : goal.returns-then-not-fits
returns-then-not-fits c =
    let shape = c.args.shape.now in
    let selection = c.args.selection.now in
    let i = c.loop-number.number in
    let at = axis_at c.of.result shape.dims selection.start selection.end selection.stride shape.rank i (omega arith) (omega arith) (omega arith) (omega arith) (omega arith) c.of.ensures.dim c.of.ensures.start c.of.ensures.end c.of.ensures.stride in
    let off : axis_fits c.of.result ≡ false = sym c.if-not-fits.ensures in
    let none : each_axis_fits (dims_of shape) selection.start selection.end selection.stride ≡ false =
    sym c.loop-number.invariant ∙ fits_more c.of.result (dims_of shape) selection.start selection.end selection.stride i at
    ∙ ap (λ t. t && each_axis_fits (drop (i + 1) (dims_of shape)) (drop (i + 1) selection.start) (drop (i + 1) selection.end) (drop (i + 1) selection.stride)) off in
    sym (ap (λ t. (selection.rank == length (dims_of shape)) && t) none ∙ and-false (selection.rank == length (dims_of shape)))
