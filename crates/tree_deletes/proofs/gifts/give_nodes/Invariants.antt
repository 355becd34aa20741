use Rattle.std.proofs.Common.{◌≡◌, ◌+◌, ◌≤◌, take}
use Rattle.std.specs.Prelude.{IfSome}
use Rattle.cg_io.specs.Answers.{OnlyReads}
use Rattle.cg_io.specs.Blocks.{Both}
use Rattle.file_heap.specs.Heap.{IsThreaded}
use Rattle.tree_edits.specs.Taken.{KeepsHeap}
use Rattle.tree_deletes.specs.Given.{NodesWait, gift_cost}
use Rattle.tree_deletes.proofs.GiftRounds.{Rounds}
use Rattle.cg_io.specs.Waits.{how_many}
use Rattle.tree_deletes.proofs.gifts.give_nodes.Given as goal

abbrev pub invariant-loop-node : goal.invariant-loop-node
invariant-loop-node g l = record {
  sound : g.S.ReadBytes.is_sound l.space;
  effect : OnlyReads (g.S.ReadBytes.state l.fn.space) (g.S.ReadBytes.state l.space);
  waits : how_many (g.S.ReadBytes.waiting l.space) ≤ how_many (g.S.ReadBytes.waiting l.fn.space) + gift_cost (take l.node-index l.nodes);
  threads : IfSome (g.S.ReadBytes.image l.space) (IsThreaded l.core.heap.work);
  heap : KeepsHeap l.fn.core.heap l.core.heap;
  rows : l.core.rows ≡ l.fn.core.rows;
  wide : l.core.wide ≡ l.fn.core.wide;
  writable : l.core.writable ≡ l.fn.core.writable;
  given : Both (Rounds l.fn.core.wide l.nodes l.node-index l.fn.core.heap.work l.core.heap.work) (g.S.ReadBytes.image l.fn.space) (g.S.ReadBytes.image l.space);
  room : IfSome (g.S.ReadBytes.image l.fn.space) (NodesWait l.fn.core.wide l.nodes l.fn.core.heap.work.heap l.core.heap.work.heap (g.S.ReadBytes.waiting l.fn.space) (g.S.ReadBytes.waiting l.space));
}
