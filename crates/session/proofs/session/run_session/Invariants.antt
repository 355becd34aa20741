use Rattle.std.proofs.Common.{◌≤◌, ◌+◌, ◌-◌, ◌^◌, ℕ, List, [], length}
use Rattle.std.specs.Io.KnownBytes.{prepend_known}
use Rattle.session.specs.Input.{Uses}
use Rattle.session.specs.Session.{HasGoneOn}
use Rattle.session.proofs.session.run_session.Given as goal

-- whole turns so far
abbrev pub invariant-turns : goal.invariant-turns
invariant-turns g l = record {
  ready : g.C.TreeCalls.is_ready l.calls;
  turns : HasGoneOn
      (record { files = g.C.TreeCalls.files l.fn.calls; devices = g.C.TreeCalls.devices l.fn.calls; text = g.I.Source.left l.fn.input; taken = g.O.Sink.taken l.fn.output })
      (record { files = g.C.TreeCalls.files l.calls; devices = g.C.TreeCalls.devices l.calls; text = prepend_known l.reader.input.pending (g.I.Source.left l.input); taken = g.O.Sink.taken l.output });
  uses : (used : List ℕ) × Uses (record { pending = []; taken = 0 }) l.reader.input (g.I.Source.left l.fn.input) (g.I.Source.left l.input) used;
  source_later : g.I.Source.faults l.fn.input ≤ g.I.Source.faults l.input;
  sink_later : g.O.Sink.faults l.fn.output ≤ g.O.Sink.faults l.output;
}

-- each turn uses up a byte
abbrev pub decreases-turns : goal.decreases-turns
decreases-turns g l = (2 ^ 40 - l.reader.input.taken) + length l.reader.input.pending
