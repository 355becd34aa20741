use Rattle.std.proofs.Common.{◌≡◌, ◌≤◌}
use Rattle.adf_model.specs.Causes.{OnlyAsks}
use Rattle.adf_model.specs.Slots.{IsTold}
use Rattle.cgns_check.specs.Checked.{MayGoOn, still_to_come}
use Rattle.cgns_check.proofs.CheckLaws.{SoFar}
use Rattle.cgns_check.proofs.file_check.check_by.Given as goal

-- only questions were asked, and the lines and findings of the nodes so far, with those of the nodes to come, are those of the file
abbrev pub invariant-nodes : goal.invariant-nodes
invariant-nodes g l =
    let files = g.C.TreeCalls.files in
    let devices = g.C.TreeCalls.devices in
    let tested = g.F.Finder.rules in
    record {
      ready : g.C.TreeCalls.is_ready l.calls;
      only : OnlyAsks (files l.fn.calls) (devices l.fn.calls) (devices l.calls) (files l.calls);
      rules : tested l.finder ≡ tested l.fn.finder;
      recalls : IsTold (files l.fn.calls) (devices l.fn.calls) → g.F.Finder.recalls l.finder (files l.fn.calls);
      stands : IsTold (files l.fn.calls) (devices l.fn.calls) → MayGoOn (files l.fn.calls) l.walk;
      later : g.O.Sink.faults l.fn.sink ≤ g.O.Sink.faults l.sink;
      so : IsTold (files l.fn.calls) (devices l.fn.calls)
          → SoFar (tested l.fn.finder) (files l.fn.calls) l.file l.found (still_to_come (files l.fn.calls) l.walk) (g.O.Sink.taken l.fn.sink) (g.O.Sink.taken l.sink);
    }
