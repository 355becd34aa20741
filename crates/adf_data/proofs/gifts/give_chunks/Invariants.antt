use Rattle.std.proofs.Common.{◌≡◌, ℕ, ◌+◌, ◌*◌, ◌≤◌, ◌++◌, take, drop}
use Rattle.std.specs.Prelude.{IfSome}
use Rattle.cg_io.specs.Blocks.{Both}
use Rattle.cg_io.specs.Answers.{OnlyReads}
use Rattle.adf_format.specs.Tiles.{cover}
use Rattle.adf_format.specs.Placement.{chunk_extents}
use Rattle.adf_format.specs.Changes.{heap_fields}
use Rattle.adf_format.specs.HeapRule.{give_all, pairs}
use Rattle.field_access.specs.Fields.{WaitsWhereTold}
use Rattle.file_heap.specs.Heap.{IsHeap, IsThreaded, ChangesOnly, MovesEnd, KeepsFillers}
use Rattle.adf_data.specs.Chunks.{parts_of}
use Rattle.adf_data.proofs.gifts.give_chunks.Given as goal
use Rattle.cg_io.specs.Waits.{how_many}

abbrev pub invariant-loop-i : goal.invariant-loop-i
invariant-loop-i g l = record {
  sound : g.S.ReadBytes.is_sound l.space;
  looks : OnlyReads (g.S.ReadBytes.state l.fn.space) (g.S.ReadBytes.state l.space);
  waits : how_many (g.S.ReadBytes.waiting l.space) ≤ how_many (g.S.ReadBytes.waiting l.fn.space) + 12 * l.i;
  kept : l.heap.kept ≡ l.fn.heap.kept;
  limit : l.heap.limit ≡ l.fn.heap.limit;
  heap : IsHeap l.heap.work.heap;
  pairs : pairs l.heap.work.heap.gaps ≤ pairs l.fn.heap.work.heap.gaps;
  threads : IfSome (g.S.ReadBytes.image l.space) (IsThreaded l.heap.work);
  gives : give_all (drop l.i (chunk_extents (parts_of l.chunks))) l.heap.work.heap ≡ give_all (chunk_extents (parts_of l.chunks)) l.fn.heap.work.heap;
  end : l.heap.work.heap.end ≡ l.fn.heap.work.heap.end;
  covers : (b : ℕ) → cover l.heap.work.heap.gaps b ≡ cover (take l.i (chunk_extents (parts_of l.chunks))) b + cover l.fn.heap.work.heap.gaps b;
  bytes : Both (ChangesOnly (heap_fields ++ chunk_extents (parts_of l.chunks) ++ l.fn.heap.work.heap.gaps)) (g.S.ReadBytes.image l.fn.space) (g.S.ReadBytes.image l.space);
  only : WaitsWhereTold (g.S.ReadBytes.image l.fn.space) (heap_fields ++ chunk_extents (parts_of l.chunks) ++ l.fn.heap.work.heap.gaps) (g.S.ReadBytes.waiting l.fn.space) (g.S.ReadBytes.waiting l.space);
  moves : Both (MovesEnd l.fn.heap.work.heap.end l.heap.work.heap.end) (g.S.ReadBytes.image l.fn.space) (g.S.ReadBytes.image l.space);
  fillers : Both (KeepsFillers l.fn.heap.work.heap.gaps l.heap.work.heap.gaps) (g.S.ReadBytes.image l.fn.space) (g.S.ReadBytes.image l.space);
}
