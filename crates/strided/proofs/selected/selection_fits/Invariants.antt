use Rattle.std.proofs.Common.{◌≡◌, drop}
use Rattle.adf_model.specs.Shapes.{dims_of}
use Rattle.adf_model.specs.Selection.{each_axis_fits}
use Rattle.strided.proofs.selected.selection_fits.Given as goal

abbrev pub invariant-loop-number : goal.invariant-loop-number
invariant-loop-number l =
    each_axis_fits (drop l.number (dims_of l.shape)) (drop l.number l.selection.start) (drop l.number l.selection.end) (drop l.number l.selection.stride)
    ≡ each_axis_fits (dims_of l.shape) l.selection.start l.selection.end l.selection.stride
