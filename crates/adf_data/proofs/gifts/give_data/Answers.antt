use Rattle.cg_io.proofs.ReadLaws.{refused_for, refused_later}
use Rattle.adf_data.specs.Chunks.{parts_of}
use Rattle.adf_data.specs.Sizes.{extents_in, Ungivable}
use Rattle.adf_data.proofs.HeapWords.{end_then, fillers_then}
use Rattle.adf_data.proofs.ReleaseLaws.{tables_of, extents_of, table_alone, both_given, table_not_given, chunks_not_given}
use Rattle.adf_data.proofs.WaitLaws.{table_gift_waits, gifts_wait}
use Rattle.adf_data.proofs.gifts.give_data.Goals as goal

pub returns-in-Err-clause-bytes : goal.returns-in-Err-clause-bytes
returns-in-Err-clause-bytes g c = table_alone c.args.table c.args.chunks.now c.args.heap.now.work.heap.gaps (g.S.ReadBytes.image c.args.space.now) (g.S.ReadBytes.image c.give_table.new.space) c.give_table.ensures.bytes

pub returns-in-Err-clause-cause : goal.returns-in-Err-clause-cause
returns-in-Err-clause-cause g c =
    refused_for (Ungivable (g.S.ReadBytes.image c.args.space.now) (tables_of c.args.table c.args.chunks.now) c.args.heap.now.work.heap) (Ungivable (g.S.ReadBytes.image c.args.space.now) (extents_in c.args.table (parts_of c.args.chunks.now)) c.args.heap.now.work.heap)
    (g.S.ReadBytes.state c.args.space.now).faults (g.S.ReadBytes.state c.give_table.new.space).faults c.in-Err.error (table_not_given c.args.table c.args.chunks.now c.args.heap.now.work.heap (g.S.ReadBytes.image c.args.space.now)) c.in-Err.ensures.cause

pub returns-in-Ok-give_chunks-clause-bytes : goal.returns-in-Ok-give_chunks-clause-bytes
returns-in-Ok-give_chunks-clause-bytes g c =
    both_given c.args.table c.args.chunks.now c.args.heap.now.work.heap c.give_table.new.heap.work.heap (g.S.ReadBytes.image c.args.space.now) (g.S.ReadBytes.image c.give_table.new.space) (g.S.ReadBytes.image c.give_chunks.new.space)
    c.in-Ok.ensures.gives c.give_table.ensures.bytes c.give_chunks.ensures.bytes

pub returns-in-Ok-give_chunks-clause-end : goal.returns-in-Ok-give_chunks-clause-end
returns-in-Ok-give_chunks-clause-end g c =
    end_then c.args.heap.now.work.heap.end c.give_table.new.heap.work.heap.end c.give_chunks.new.heap.work.heap.end (g.S.ReadBytes.image c.args.space.now) (g.S.ReadBytes.image c.give_table.new.space) (g.S.ReadBytes.image c.give_chunks.new.space) c.in-Ok.ensures.end c.in-Ok-give_chunks.ensures.end

pub returns-in-Ok-give_chunks-clause-fillers : goal.returns-in-Ok-give_chunks-clause-fillers
returns-in-Ok-give_chunks-clause-fillers g c =
    fillers_then c.args.heap.now.work.heap.gaps c.give_table.new.heap.work.heap.gaps c.give_chunks.new.heap.work.heap.gaps (g.S.ReadBytes.image c.args.space.now) (g.S.ReadBytes.image c.give_table.new.space) (g.S.ReadBytes.image c.give_chunks.new.space)
    c.in-Ok.ensures.fillers c.in-Ok-give_chunks.ensures.fillers

pub returns-in-Err-give_chunks-clause-bytes : goal.returns-in-Err-give_chunks-clause-bytes
returns-in-Err-give_chunks-clause-bytes g c =
    both_given c.args.table c.args.chunks.now c.args.heap.now.work.heap c.give_table.new.heap.work.heap (g.S.ReadBytes.image c.args.space.now) (g.S.ReadBytes.image c.give_table.new.space) (g.S.ReadBytes.image c.give_chunks.new.space)
    c.in-Ok.ensures.gives c.give_table.ensures.bytes c.give_chunks.ensures.bytes

pub returns-in-Err-give_chunks-clause-cause : goal.returns-in-Err-give_chunks-clause-cause
returns-in-Err-give_chunks-clause-cause g c =
    refused_later (Ungivable (g.S.ReadBytes.image c.give_table.new.space) (extents_of c.args.table c.args.chunks.now) c.give_table.new.heap.work.heap) (Ungivable (g.S.ReadBytes.image c.args.space.now) (extents_in c.args.table (parts_of c.args.chunks.now)) c.args.heap.now.work.heap)
    (g.S.ReadBytes.state c.args.space.now).faults (g.S.ReadBytes.state c.give_table.new.space).faults (g.S.ReadBytes.state c.give_chunks.new.space).faults c.in-Err-give_chunks.error c.give_table.ensures.effect.faults
    (chunks_not_given c.args.table c.args.chunks.now c.args.heap.now.work.heap c.give_table.new.heap.work.heap (g.S.ReadBytes.image c.args.space.now) (g.S.ReadBytes.image c.give_table.new.space) c.in-Ok.ensures.gives c.give_table.ensures.bytes) c.in-Err-give_chunks.ensures.cause

pub returns-in-Err-clause-only : goal.returns-in-Err-clause-only
returns-in-Err-clause-only g c = table_gift_waits c.args.table c.args.chunks.now c.args.heap.now.work.heap.gaps (g.S.ReadBytes.image c.args.space.now) (g.S.ReadBytes.waiting c.args.space.now) (g.S.ReadBytes.waiting c.give_table.new.space) c.give_table.ensures.only

pub returns-in-Ok-give_chunks-clause-only : goal.returns-in-Ok-give_chunks-clause-only
returns-in-Ok-give_chunks-clause-only g c =
    gifts_wait c.args.table c.args.chunks.now c.args.heap.now.work.heap c.give_table.new.heap.work.heap (g.S.ReadBytes.image c.args.space.now) (g.S.ReadBytes.image c.give_table.new.space) (g.S.ReadBytes.waiting c.args.space.now) (g.S.ReadBytes.waiting c.give_table.new.space) (g.S.ReadBytes.waiting c.give_chunks.new.space)
    c.in-Ok.ensures.gives c.give_table.ensures.bytes c.give_table.ensures.only c.give_chunks.ensures.only

pub returns-in-Err-give_chunks-clause-only : goal.returns-in-Err-give_chunks-clause-only
returns-in-Err-give_chunks-clause-only g c =
    gifts_wait c.args.table c.args.chunks.now c.args.heap.now.work.heap c.give_table.new.heap.work.heap (g.S.ReadBytes.image c.args.space.now) (g.S.ReadBytes.image c.give_table.new.space) (g.S.ReadBytes.waiting c.args.space.now) (g.S.ReadBytes.waiting c.give_table.new.space) (g.S.ReadBytes.waiting c.give_chunks.new.space)
    c.in-Ok.ensures.gives c.give_table.ensures.bytes c.give_table.ensures.only c.give_chunks.ensures.only
