use Rattle.std.proofs.Common.{◌-◌, ◌≡◌, ◌*◌, ◌≤◌, ◌%◌, ◌⊎◌, length, None}
use Rattle.cg_io.specs.Blocks.{ReadsFew}
use Rattle.node_reads.specs.Entries.{pieces_of}
use Rattle.node_reads.proofs.EntryLaws.{FoundIn}
use Rattle.node_reads.proofs.find.find_entry.Given as goal

abbrev pub invariant-loop-from : goal.invariant-loop-from
invariant-loop-from g l = record {
  sound : g.R.ReadBytes.is_sound l.bytes;
  bytes : g.R.ReadBytes.image l.bytes ≡ g.R.ReadBytes.image l.initial.bytes;
  waits : g.R.ReadBytes.waiting l.bytes ≡ g.R.ReadBytes.waiting l.initial.bytes;
  reads : ReadsFew (2 * pieces_of l.from) (g.R.ReadBytes.state l.initial.bytes) (g.R.ReadBytes.state l.bytes);
  edge : (l.from % 93 ≡ 0) ⊎ (l.from ≡ l.table.count);
  within : l.from ≤ l.table.count;
  long : length l.piece ≡ 4092;
  none : FoundIn l.wanted (g.R.ReadBytes.image l.initial.bytes) l.table.place l.table.count 0 l.from None;
}

abbrev pub decreases-loop-from : goal.decreases-loop-from
decreases-loop-from g l = l.table.count - l.from
