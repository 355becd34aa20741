use Rattle.std.proofs.Common.{◌≤◌}
use Rattle.layout_report.proofs.ListedLaws.{SoFar}
use Rattle.layout_report.proofs.map.say_extents.Given as goal

abbrev pub invariant-loop-k : goal.invariant-loop-k
invariant-loop-k g l = record {
  so : SoFar l.nodes l.names l.owned l.k (g.O.Sink.taken l.initial.output) (g.O.Sink.taken l.output);
  later : g.O.Sink.faults l.initial.output ≤ g.O.Sink.faults l.output;
}
