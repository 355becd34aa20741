use Rattle.std.proofs.Common.{◌⊎◌, ◌++◌, arith, ◌∙◌, ap}
use Rattle.adf_format.specs.Placement.{Heap, chunk_extents}
use Rattle.adf_format.specs.Changes.{heap_fields}
use Rattle.file_heap.specs.Heap.{MayGive}
use Rattle.cg_io.specs.Answers.{IsUntold}
use Rattle.cg_io.proofs.ReadLaws.{only_then, refused_later}
use Rattle.adf_data.specs.Chunks.{parts_of}
use Rattle.adf_data.specs.Sizes.{Ungivable}
use Rattle.adf_data.proofs.GiveLaws.{gives_more, covers_more, bytes_more, refusal_more}
use Rattle.adf_data.proofs.HeapWords.{end_then, fillers_then}
use Rattle.adf_data.proofs.WaitLaws.{next_waits}
use Rattle.adf_data.proofs.gifts.give_chunks.Goals as goal

pub returns-in-Err-clause-bytes : goal.returns-in-Err-clause-bytes
returns-in-Err-clause-bytes g c =
    bytes_more c.args.chunks.now c.loop-i.i c.chunk_of-chunk.result c.args.heap.now.work.heap c.loop-i.heap.work.heap (g.S.ReadBytes.image c.args.space.now) (g.S.ReadBytes.image c.loop-i.space) (g.S.ReadBytes.image c.give_range.new.space) c.loop-i-test.true c.chunk_of-chunk.ensures.part c.loop-i.invariant.covers
    c.loop-i.invariant.bytes c.give_range.ensures.bytes

pub returns-in-Err-clause-cause : goal.returns-in-Err-clause-cause
returns-in-Err-clause-cause g c =
    refused_later (IsUntold (g.S.ReadBytes.image c.loop-i.space) ⊎ (MayGive c.chunk_of-chunk.result.place c.chunk_of-chunk.result.length c.loop-i.heap.work.heap → ⊥)) (Ungivable (g.S.ReadBytes.image c.args.space.now) (chunk_extents (parts_of c.args.chunks.now)) c.args.heap.now.work.heap)
    (g.S.ReadBytes.state c.args.space.now).faults (g.S.ReadBytes.state c.loop-i.space).faults (g.S.ReadBytes.state c.give_range.new.space).faults c.in-Err.error c.loop-i.invariant.looks.faults
    (refusal_more c.args.chunks.now c.loop-i.i c.chunk_of-chunk.result c.args.heap.now.work.heap c.loop-i.heap.work.heap (g.S.ReadBytes.image c.args.space.now) (g.S.ReadBytes.image c.loop-i.space) (heap_fields ++ chunk_extents (parts_of c.args.chunks.now) ++ c.args.heap.now.work.heap.gaps)
    c.loop-i-test.true c.chunk_of-chunk.ensures.part c.loop-i.invariant.end c.loop-i.invariant.covers c.loop-i.invariant.bytes)
    c.in-Err.ensures.cause

pub loop-i-preserved : goal.loop-i-preserved
loop-i-preserved g c = record {
  sound = c.give_range.ensures.sound;
  looks = only_then (g.S.ReadBytes.state c.args.space.now) (g.S.ReadBytes.state c.loop-i.space) (g.S.ReadBytes.state c.give_range.new.space) c.loop-i.invariant.looks c.give_range.ensures.effect;
  waits = (let w = c.loop-i.invariant.waits in let v = c.give_range.ensures.waits in omega (arith, w, v));
  kept = c.give_range.ensures.kept ∙ c.loop-i.invariant.kept;
  limit = c.give_range.ensures.limit ∙ c.loop-i.invariant.limit;
  heap = c.give_range.ensures.heap;
  pairs = (let p = c.loop-i.invariant.pairs in let q = c.give_range.ensures.pairs in omega (arith, p, q));
  threads = c.in-Ok.ensures.threads;
  gives = gives_more c.args.chunks.now c.loop-i.i c.chunk_of-chunk.result _ c.loop-i.heap.work.heap c.give_range.new.heap.work.heap c.loop-i-test.true c.chunk_of-chunk.ensures.part c.loop-i.invariant.gives c.in-Ok.ensures.gives;
  end = ap (λ (h : Heap). h.end) c.in-Ok.ensures.gives ∙ c.loop-i.invariant.end;
  covers = covers_more c.args.chunks.now c.loop-i.i c.chunk_of-chunk.result c.args.heap.now.work.heap c.loop-i.heap.work.heap c.give_range.new.heap.work.heap c.loop-i-test.true c.chunk_of-chunk.ensures.part c.loop-i.invariant.covers c.in-Ok.ensures.gives;
  bytes = bytes_more c.args.chunks.now c.loop-i.i c.chunk_of-chunk.result c.args.heap.now.work.heap c.loop-i.heap.work.heap (g.S.ReadBytes.image c.args.space.now) (g.S.ReadBytes.image c.loop-i.space) (g.S.ReadBytes.image c.give_range.new.space) c.loop-i-test.true c.chunk_of-chunk.ensures.part c.loop-i.invariant.covers
      c.loop-i.invariant.bytes c.give_range.ensures.bytes;
  only = next_waits c.args.chunks.now c.loop-i.i c.chunk_of-chunk.result c.args.heap.now.work.heap c.loop-i.heap.work.heap (g.S.ReadBytes.image c.args.space.now) (g.S.ReadBytes.image c.loop-i.space) (g.S.ReadBytes.waiting c.args.space.now) (g.S.ReadBytes.waiting c.loop-i.space) (g.S.ReadBytes.waiting c.give_range.new.space) c.loop-i-test.true c.chunk_of-chunk.ensures.part c.loop-i.invariant.covers
      c.loop-i.invariant.bytes c.loop-i.invariant.only c.give_range.ensures.only;
  moves = end_then c.args.heap.now.work.heap.end c.loop-i.heap.work.heap.end c.give_range.new.heap.work.heap.end (g.S.ReadBytes.image c.args.space.now) (g.S.ReadBytes.image c.loop-i.space) (g.S.ReadBytes.image c.give_range.new.space) c.loop-i.invariant.moves c.in-Ok.ensures.end;
  fillers = fillers_then c.args.heap.now.work.heap.gaps c.loop-i.heap.work.heap.gaps c.give_range.new.heap.work.heap.gaps (g.S.ReadBytes.image c.args.space.now) (g.S.ReadBytes.image c.loop-i.space) (g.S.ReadBytes.image c.give_range.new.space) c.loop-i.invariant.fillers c.in-Ok.ensures.fillers;
}

pub returns-in-Err-clause-only : goal.returns-in-Err-clause-only
returns-in-Err-clause-only g c =
    next_waits c.args.chunks.now c.loop-i.i c.chunk_of-chunk.result c.args.heap.now.work.heap c.loop-i.heap.work.heap (g.S.ReadBytes.image c.args.space.now) (g.S.ReadBytes.image c.loop-i.space) (g.S.ReadBytes.waiting c.args.space.now) (g.S.ReadBytes.waiting c.loop-i.space) (g.S.ReadBytes.waiting c.give_range.new.space) c.loop-i-test.true c.chunk_of-chunk.ensures.part c.loop-i.invariant.covers
    c.loop-i.invariant.bytes c.loop-i.invariant.only c.give_range.ensures.only
