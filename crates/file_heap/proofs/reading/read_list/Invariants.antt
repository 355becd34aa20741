use Rattle.std.proofs.Common.{◌≡◌, ◌*◌, ◌-◌, ◌≤◌, length}
use Rattle.std.specs.Prelude.{IfSome}
use Rattle.cg_io.specs.Blocks.{ReadsFew}
use Rattle.gap_tree.specs.Slots.{gaps_of}
use Rattle.file_heap.specs.Links.{HasHead, number_of}
use Rattle.file_heap.specs.Slots.{HasWalked}
use Rattle.file_heap.proofs.reading.read_list.Given as goal

abbrev pub invariant-loop-chunks : goal.invariant-loop-chunks
invariant-loop-chunks g l = record {
  sound : g.S.ReadBytes.is_sound l.space;
  image : g.S.ReadBytes.image l.space ≡ g.S.ReadBytes.image l.fn.space;
  waits : g.S.ReadBytes.waiting l.space ≡ g.S.ReadBytes.waiting l.fn.space;
  more : l.read.chunks ≤ l.chunks;
  effect : ReadsFew (2 * (l.chunks - l.read.chunks)) (g.S.ReadBytes.state l.fn.space) (g.S.ReadBytes.state l.space);
  head : HasHead l.front;
  gaps : gaps_of l.slots.value ≡ gaps_of l.read.slots.value;
  walked : IfSome (g.S.ReadBytes.image l.fn.space) (HasWalked (number_of l.list) (gaps_of l.read.slots.value) l.slots.value l.front l.chunks);
}
