use Rattle.std.proofs.Common.{◌≡◌, drop}
use Rattle.adf_model.specs.Shapes.{dims_of}
use Rattle.adf_model.specs.Selection.{elements_from}
use Rattle.strided.specs.RunLists.{spread, AreMaximal}
use Rattle.strided.proofs.selected.runs.Given as goal

-- the runs so far are those of the later dimensions
abbrev pub invariant-loop-number : goal.invariant-loop-number
invariant-loop-number l = record {
  spread : spread l.found.items ≡ elements_from (drop l.number (dims_of l.shape)) (drop l.number l.selection.start) (drop l.number l.selection.end) (drop l.number l.selection.stride);
  maximal : AreMaximal l.found.items;
}
