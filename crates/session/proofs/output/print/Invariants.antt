use Rattle.std.proofs.Common.{◌≤◌, ◌-◌, length, take}
use Rattle.std.specs.Io.KnownBytes.{Appends}
use Rattle.session.proofs.output.print.Given as goal

-- the bytes so far were put
abbrev pub invariant-loop-done : goal.invariant-loop-done
invariant-loop-done g l = record {
  within : l.done ≤ length l.bytes;
  put : Appends (g.O.Sink.taken l.initial.output) (g.O.Sink.taken l.output) (take l.done l.bytes);
  later : g.O.Sink.faults l.initial.output ≤ g.O.Sink.faults l.output;
}

abbrev pub decreases-loop-done : goal.decreases-loop-done
decreases-loop-done g l = length l.bytes - l.done
