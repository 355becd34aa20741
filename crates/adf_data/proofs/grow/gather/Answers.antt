use Rattle.std.proofs.Common.{refl}
use Rattle.adf_format.proofs.HeapSteps.{take_end}
use Rattle.adf_data.specs.Chunks.{parts_of}
use Rattle.adf_data.specs.Sizes.{extents_in, Ungivable}
use Rattle.adf_data.specs.Growing.{room_of}
use Rattle.adf_data.proofs.HeapWords.{end_then, fillers_then, grow_later}
use Rattle.adf_data.proofs.ChunkLaws.{view_from}
use Rattle.adf_data.proofs.GatherLaws.{long_gathered, room_in_ranges, gathered_bytes, later_refused}
use Rattle.adf_data.proofs.BlockLaws.{chunk_blocks}
use Rattle.std.proofs.Common.{arith}
use Rattle.adf_data.proofs.WaitLaws.{room_waits, gathered_waits}
use Rattle.adf_data.proofs.grow.gather.Goals as goal

pub returns-in-Err-clause-bytes : goal.returns-in-Err-clause-bytes
returns-in-Err-clause-bytes g c = room_in_ranges (extents_in c.args.table (parts_of c.args.chunks.now)) c.args.heap.now.work.heap c.put_chunk.new.heap.work.heap (g.S.ReadBytes.image c.args.space.now) (g.S.ReadBytes.image c.put_chunk.new.space) c.put_chunk.ensures.bytes

pub returns-in-Err-give_data-clause-bytes : goal.returns-in-Err-give_data-clause-bytes
returns-in-Err-give_data-clause-bytes g c =
    gathered_bytes (extents_in c.args.table (parts_of c.args.chunks.now)) _ c.in-Ok.place c.args.heap.now.work.heap c.put_chunk.new.heap.work.heap c.give_data.new.heap.work.heap (g.S.ReadBytes.image c.args.space.now) (g.S.ReadBytes.image c.put_chunk.new.space) (g.S.ReadBytes.image c.give_data.new.space)
    c.requires.heap c.in-Ok.ensures.covers c.give_data.ensures.last c.put_chunk.ensures.bytes c.give_data.ensures.bytes

pub returns-clause-bytes : goal.returns-clause-bytes
returns-clause-bytes g c =
    gathered_bytes (extents_in c.args.table (parts_of c.args.chunks.now)) _ c.in-Ok.place c.args.heap.now.work.heap c.put_chunk.new.heap.work.heap c.give_data.new.heap.work.heap (g.S.ReadBytes.image c.args.space.now) (g.S.ReadBytes.image c.put_chunk.new.space) (g.S.ReadBytes.image c.give_data.new.space)
    c.requires.heap c.in-Ok.ensures.covers c.give_data.ensures.last c.put_chunk.ensures.bytes c.give_data.ensures.bytes

pub returns-in-Err-give_data-clause-cause : goal.returns-in-Err-give_data-clause-cause
returns-in-Err-give_data-clause-cause g c =
    grow_later (Ungivable (g.S.ReadBytes.image c.put_chunk.new.space) (extents_in c.args.table (parts_of c.args.chunks.now)) c.put_chunk.new.heap.work.heap) (Ungivable (g.S.ReadBytes.image c.args.space.now) (extents_in c.args.table (parts_of c.args.chunks.now)) c.args.heap.now.work.heap)
    (g.S.ReadBytes.state c.args.space.now).faults (g.S.ReadBytes.state c.put_chunk.new.space).faults (g.S.ReadBytes.state c.give_data.new.space).faults c.in-Err-give_data.error c.put_chunk.ensures.effect.faults
    (later_refused (extents_in c.args.table (parts_of c.args.chunks.now)) _ c.in-Ok.place c.args.heap.now.work.heap c.put_chunk.new.heap.work.heap (room_of c.args.heap.now.work.heap c.put_chunk.new.heap.work.heap) (g.S.ReadBytes.image c.args.space.now) (g.S.ReadBytes.image c.put_chunk.new.space)
    c.put_chunk.ensures.heap c.in-Ok.ensures.covers (take_end c.args.heap.now.limit _ c.args.heap.now.work.heap c.in-Ok.place c.put_chunk.new.heap.work.heap c.in-Ok.ensures.takes) c.put_chunk.ensures.bytes)
    c.in-Err-give_data.ensures.cause

pub returns-clause-gathers : goal.returns-clause-gathers
returns-clause-gathers g c =
    long_gathered c.args.heap.now.limit c.args.table (parts_of c.args.chunks.now) c.args.old c.args.new c.in-Ok.place _ c.args.heap.now.work.heap c.put_chunk.new.heap.work.heap c.give_data.new.heap.work
    c.requires.heap c.in-Ok-give_data.ensures.gives refl (view_from c.in-Ok.place c.from_place.result c.from_place.ensures)
    (g.S.ReadBytes.image c.args.space.now) (g.S.ReadBytes.image c.put_chunk.new.space) (g.S.ReadBytes.image c.give_data.new.space) c.chunk_length.result c.chunk_length.ensures
    c.in-Ok.ensures.covers c.in-Ok.ensures.within c.in-Ok.ensures.takes c.in-Ok.ensures.puts c.give_data.ensures.bytes c.in-Ok-give_data.ensures.threads
    (end_then c.args.heap.now.work.heap.end c.put_chunk.new.heap.work.heap.end c.give_data.new.heap.work.heap.end (g.S.ReadBytes.image c.args.space.now) (g.S.ReadBytes.image c.put_chunk.new.space) (g.S.ReadBytes.image c.give_data.new.space) c.in-Ok.ensures.end c.in-Ok-give_data.ensures.end)
    (fillers_then c.args.heap.now.work.heap.gaps c.put_chunk.new.heap.work.heap.gaps c.give_data.new.heap.work.heap.gaps (g.S.ReadBytes.image c.args.space.now) (g.S.ReadBytes.image c.put_chunk.new.space) (g.S.ReadBytes.image c.give_data.new.space) c.in-Ok.ensures.fillers c.in-Ok-give_data.ensures.fillers)

pub returns-clause-waits : goal.returns-clause-waits
returns-clause-waits g c =
    let p = c.in-Ok.ensures.waits in let w = c.give_data.ensures.waits in let n = chunk_blocks c.args.new in let l = c.chunk_length.ensures in omega (arith, p, w, n, l)

pub returns-in-Err-clause-only : goal.returns-in-Err-clause-only
returns-in-Err-clause-only g c = room_waits (extents_in c.args.table (parts_of c.args.chunks.now)) c.args.heap.now.work.heap c.put_chunk.new.heap.work.heap (g.S.ReadBytes.image c.args.space.now) (g.S.ReadBytes.waiting c.args.space.now) (g.S.ReadBytes.waiting c.put_chunk.new.space) c.put_chunk.ensures.only

pub returns-in-Err-give_data-clause-only : goal.returns-in-Err-give_data-clause-only
returns-in-Err-give_data-clause-only g c =
    gathered_waits (extents_in c.args.table (parts_of c.args.chunks.now)) _ c.in-Ok.place c.args.heap.now.work.heap c.put_chunk.new.heap.work.heap c.give_data.new.heap.work.heap (g.S.ReadBytes.image c.args.space.now) (g.S.ReadBytes.image c.put_chunk.new.space) (g.S.ReadBytes.waiting c.args.space.now) (g.S.ReadBytes.waiting c.put_chunk.new.space) (g.S.ReadBytes.waiting c.give_data.new.space)
    c.requires.heap c.in-Ok.ensures.covers c.give_data.ensures.last c.put_chunk.ensures.bytes c.put_chunk.ensures.only c.give_data.ensures.only

pub returns-clause-only : goal.returns-clause-only
returns-clause-only g c =
    gathered_waits (extents_in c.args.table (parts_of c.args.chunks.now)) _ c.in-Ok.place c.args.heap.now.work.heap c.put_chunk.new.heap.work.heap c.give_data.new.heap.work.heap (g.S.ReadBytes.image c.args.space.now) (g.S.ReadBytes.image c.put_chunk.new.space) (g.S.ReadBytes.waiting c.args.space.now) (g.S.ReadBytes.waiting c.put_chunk.new.space) (g.S.ReadBytes.waiting c.give_data.new.space)
    c.requires.heap c.in-Ok.ensures.covers c.give_data.ensures.last c.put_chunk.ensures.bytes c.put_chunk.ensures.only c.give_data.ensures.only
