use Rattle.std.proofs.Common.{◌-◌, ◌≡◌, ◌*◌, ◌≤◌, ◌%◌, ◌⊎◌, length}
use Rattle.cg_io.specs.Blocks.{ReadsFew}
use Rattle.node_reads.specs.Entries.{pieces_of}
use Rattle.tree_asks.specs.Entries.{AreChildren}
use Rattle.tree_asks.proofs.children.listed_in.Given as goal

abbrev pub invariant-loop-from : goal.invariant-loop-from
invariant-loop-from g l = record {
  sound : g.R.ReadBytes.is_sound l.bytes;
  bytes : g.R.ReadBytes.image l.bytes ≡ g.R.ReadBytes.image l.initial.bytes;
  waits : g.R.ReadBytes.waiting l.bytes ≡ g.R.ReadBytes.waiting l.initial.bytes;
  reads : ReadsFew (2 * pieces_of l.from) (g.R.ReadBytes.state l.initial.bytes) (g.R.ReadBytes.state l.bytes);
  edge : (l.from % 93 ≡ 0) ⊎ (l.from ≡ l.table.count);
  within : l.from ≤ l.table.count;
  long : length l.piece ≡ 4092;
  children : AreChildren l.core (g.R.ReadBytes.image l.initial.bytes) l.file l.table l.from l.children.items;
}

abbrev pub decreases-loop-from : goal.decreases-loop-from
decreases-loop-from g l = l.table.count - l.from
