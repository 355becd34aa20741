use Rattle.std.proofs.Common.{◌≤◌, ◌+◌, ◌-◌, ◌*◌, ◌^◌, length}
use Rattle.session.proofs.Reading.{Reads}
use Rattle.session.proofs.reader.Pieces.next_line.Given as goal

-- the line is read so far
abbrev pub invariant-parts : goal.invariant-parts
invariant-parts g l = record {
  short : length l.line.items ≤ 2 ^ 20;
  reads : Reads l.line.items l.is_long l.fn.self l.self (g.I.Source.left l.fn.input) (g.I.Source.left l.input);
  later : g.I.Source.faults l.fn.input ≤ g.I.Source.faults l.input;
}

-- each piece has a byte
abbrev pub decreases-parts : goal.decreases-parts
decreases-parts g l = 2 * (2 ^ 40 - l.self.taken) + length l.self.pending
