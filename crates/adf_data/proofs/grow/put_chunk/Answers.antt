use Rattle.adf_data.specs.Chunks.{parts_of}
use Rattle.adf_data.proofs.HeapWords.{end_then, fillers_then}
use Rattle.adf_data.proofs.RoomLaws.{taken_in_room, threads_stay, end_stays, fillers_stay, written_in_room}
use Rattle.adf_data.proofs.GrowLaws.{all_put}
use Rattle.adf_data.proofs.BlockLaws.{counted_range}
use Rattle.std.proofs.Common.{arith}
use Rattle.adf_data.proofs.WaitLaws.{take_waits, put_waits}
use Rattle.adf_data.proofs.grow.put_chunk.Goals as goal

pub returns-in-Err-clause-bytes : goal.returns-in-Err-clause-bytes
returns-in-Err-clause-bytes g c = taken_in_room c.args.heap.now.work.heap c.take_range.new.heap.work.heap (g.S.ReadBytes.image c.args.space.now) (g.S.ReadBytes.image c.take_range.new.space) c.take_range.ensures.bytes

pub returns-in-Ok-write_chunk-clause-puts : goal.returns-in-Ok-write_chunk-clause-puts
returns-in-Ok-write_chunk-clause-puts g c =
    all_put (parts_of c.args.chunks.now) c.args.kept c.args.n c.in-Ok.place c.args.heap.now.work.heap c.take_range.new.heap.work.heap c.requires.heap c.in-Ok.ensures.covers c.in-Ok.ensures.within
    (g.S.ReadBytes.image c.args.space.now) (g.S.ReadBytes.image c.take_range.new.space) (g.S.ReadBytes.image c.write_chunk.new.space) c.take_range.ensures.bytes c.in-Ok-write_chunk.ensures.made

pub returns-in-Ok-write_chunk-clause-threads : goal.returns-in-Ok-write_chunk-clause-threads
returns-in-Ok-write_chunk-clause-threads g c =
    threads_stay c.args.n c.in-Ok.place c.args.heap.now.work.heap c.take_range.new.heap.work c.requires.heap c.in-Ok.ensures.covers c.in-Ok.ensures.within
    (g.S.ReadBytes.image c.take_range.new.space) (g.S.ReadBytes.image c.write_chunk.new.space) c.write_chunk.ensures.bytes c.in-Ok.ensures.threads

pub returns-in-Ok-write_chunk-clause-bytes : goal.returns-in-Ok-write_chunk-clause-bytes
returns-in-Ok-write_chunk-clause-bytes g c =
    written_in_room c.args.n c.in-Ok.place c.args.heap.now.work.heap c.take_range.new.heap.work.heap c.requires.heap c.in-Ok.ensures.covers c.in-Ok.ensures.within
    (g.S.ReadBytes.image c.args.space.now) (g.S.ReadBytes.image c.take_range.new.space) (g.S.ReadBytes.image c.write_chunk.new.space) c.take_range.ensures.bytes c.write_chunk.ensures.bytes

pub returns-in-Err-write_chunk-clause-bytes : goal.returns-in-Err-write_chunk-clause-bytes
returns-in-Err-write_chunk-clause-bytes g c =
    written_in_room c.args.n c.in-Ok.place c.args.heap.now.work.heap c.take_range.new.heap.work.heap c.requires.heap c.in-Ok.ensures.covers c.in-Ok.ensures.within
    (g.S.ReadBytes.image c.args.space.now) (g.S.ReadBytes.image c.take_range.new.space) (g.S.ReadBytes.image c.write_chunk.new.space) c.take_range.ensures.bytes c.write_chunk.ensures.bytes

pub returns-in-Ok-write_chunk-clause-end : goal.returns-in-Ok-write_chunk-clause-end
returns-in-Ok-write_chunk-clause-end g c =
    end_then c.args.heap.now.work.heap.end c.take_range.new.heap.work.heap.end c.take_range.new.heap.work.heap.end (g.S.ReadBytes.image c.args.space.now) (g.S.ReadBytes.image c.take_range.new.space) (g.S.ReadBytes.image c.write_chunk.new.space) c.in-Ok.ensures.end
    (end_stays c.args.n c.in-Ok.place c.args.heap.now.work.heap c.take_range.new.heap.work c.requires.heap c.in-Ok.ensures.covers c.in-Ok.ensures.within
    (g.S.ReadBytes.image c.take_range.new.space) (g.S.ReadBytes.image c.write_chunk.new.space) c.write_chunk.ensures.bytes c.in-Ok.ensures.threads)

pub returns-in-Ok-write_chunk-clause-fillers : goal.returns-in-Ok-write_chunk-clause-fillers
returns-in-Ok-write_chunk-clause-fillers g c =
    fillers_then c.args.heap.now.work.heap.gaps c.take_range.new.heap.work.heap.gaps c.take_range.new.heap.work.heap.gaps (g.S.ReadBytes.image c.args.space.now) (g.S.ReadBytes.image c.take_range.new.space) (g.S.ReadBytes.image c.write_chunk.new.space) c.in-Ok.ensures.fillers
    (fillers_stay c.args.n c.in-Ok.place c.args.heap.now.work.heap c.take_range.new.heap.work c.requires.heap c.in-Ok.ensures.covers c.in-Ok.ensures.within
    (g.S.ReadBytes.image c.take_range.new.space) (g.S.ReadBytes.image c.write_chunk.new.space) c.write_chunk.ensures.bytes c.in-Ok.ensures.threads)

pub returns-in-Ok-write_chunk-clause-waits : goal.returns-in-Ok-write_chunk-clause-waits
returns-in-Ok-write_chunk-clause-waits g c =
    let t = c.take_range.ensures.waits in let w = counted_range c.in-Ok.place c.args.n (g.S.ReadBytes.waiting c.take_range.new.space) (g.S.ReadBytes.waiting c.write_chunk.new.space) c.write_chunk.ensures.only in omega (arith, t, w)

pub returns-in-Err-clause-only : goal.returns-in-Err-clause-only
returns-in-Err-clause-only g c = take_waits c.args.heap.now.work.heap c.take_range.new.heap.work.heap (g.S.ReadBytes.image c.args.space.now) (g.S.ReadBytes.waiting c.args.space.now) (g.S.ReadBytes.waiting c.take_range.new.space) c.take_range.ensures.only

pub returns-in-Ok-write_chunk-clause-only : goal.returns-in-Ok-write_chunk-clause-only
returns-in-Ok-write_chunk-clause-only g c =
    put_waits c.args.n c.in-Ok.place c.args.heap.now.work.heap c.take_range.new.heap.work.heap c.requires.heap c.in-Ok.ensures.covers c.in-Ok.ensures.within
    (g.S.ReadBytes.image c.args.space.now) (g.S.ReadBytes.image c.take_range.new.space) (g.S.ReadBytes.waiting c.args.space.now) (g.S.ReadBytes.waiting c.take_range.new.space) (g.S.ReadBytes.waiting c.write_chunk.new.space) c.take_range.ensures.bytes c.take_range.ensures.only c.write_chunk.ensures.only

pub returns-in-Err-write_chunk-clause-only : goal.returns-in-Err-write_chunk-clause-only
returns-in-Err-write_chunk-clause-only g c =
    put_waits c.args.n c.in-Ok.place c.args.heap.now.work.heap c.take_range.new.heap.work.heap c.requires.heap c.in-Ok.ensures.covers c.in-Ok.ensures.within
    (g.S.ReadBytes.image c.args.space.now) (g.S.ReadBytes.image c.take_range.new.space) (g.S.ReadBytes.waiting c.args.space.now) (g.S.ReadBytes.waiting c.take_range.new.space) (g.S.ReadBytes.waiting c.write_chunk.new.space) c.take_range.ensures.bytes c.take_range.ensures.only c.write_chunk.ensures.only
