use Rattle.std.proofs.Common.{◌≤◌, length}
use Rattle.std.specs.Prelude.{map, reverse}
use Rattle.adf_model.specs.Causes.{OnlyAsks}
use Rattle.adf_model.specs.Slots.{IsTold}
use Rattle.tree_report.specs.Levels.{to_come}
use Rattle.tree_report.specs.Lines.{line_at, tree_lines}
use Rattle.tree_report.specs.Sights.{tree_in, AllThere}
use Rattle.tree_report.proofs.ReportLaws.{SoFar}
use Rattle.tree_report.proofs.report.tree.Given as goal

-- only questions were asked, and the lines so far, with those of the nodes to come, are those of the tree
abbrev pub invariant-nodes : goal.invariant-nodes
invariant-nodes g l =
    let files = g.C.TreeCalls.files in
    let devices = g.C.TreeCalls.devices in
    record {
      ready : g.C.TreeCalls.is_ready l.calls;
      only : OnlyAsks (files l.fn.calls) (devices l.fn.calls) (devices l.calls) (files l.calls);
      few : length l.frames.items ≤ 255;
      there : IsTold (files l.fn.calls) (devices l.fn.calls) → AllThere (files l.fn.calls) l.file (reverse l.frames.items);
      later : g.O.Sink.faults l.fn.sink ≤ g.O.Sink.faults l.sink;
      so : IsTold (files l.fn.calls) (devices l.fn.calls)
          → SoFar (tree_lines (tree_in (files l.fn.calls) l.file)) (map (line_at (tree_in (files l.fn.calls) l.file)) (to_come (tree_in (files l.fn.calls) l.file) (reverse l.frames.items))) (g.O.Sink.taken l.fn.sink) (g.O.Sink.taken l.sink);
    }
