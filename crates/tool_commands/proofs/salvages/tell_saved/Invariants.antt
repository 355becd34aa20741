use Rattle.std.proofs.Common.{◌≤◌, take}
use Rattle.std.specs.Io.KnownBytes.{Appends}
use Rattle.tool_commands.specs.Salvages.{left_lines}
use Rattle.tool_commands.proofs.salvages.tell_saved.Given as goal

-- the lines of the first nodes were taken
abbrev pub invariant-loop-k : goal.invariant-loop-k
invariant-loop-k g l = record {
  took : Appends (g.O.Sink.taken l.initial.output) (g.O.Sink.taken l.output) (left_lines (take l.k l.left));
  later : g.O.Sink.faults l.initial.output ≤ g.O.Sink.faults l.output;
}
