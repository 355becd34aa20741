use Rattle.std.proofs.Common.{◌≡◌, ◌+◌, ◌-◌, ◌*◌, ◌++◌, length, arith, refl, sym, subst, ap, ◌∙◌}
use Rattle.std.proofs.lemmas.List.{length-map}
use Rattle.std.specs.Prelude.{Ok}
use Rattle.cg_io.specs.Blocks.{Both}
use Rattle.adf_format.specs.Changes.{heap_fields}
use Rattle.adf_format.specs.Placement.{chunk_table_extents}
use Rattle.adf_format.specs.HeapRule.{heap_take, give_all}
use Rattle.file_heap.specs.Heap.{ChangesOnly}
use Rattle.adf_data.specs.Chunks.{part_of, parts_of}
use Rattle.adf_data.specs.Fills.{ZeroesBytes}
use Rattle.adf_data.specs.Sizes.{extents_in, Ungivable}
use Rattle.adf_data.specs.Growing.{room_of}
use Rattle.adf_data.proofs.HeapWords.{end_then, fillers_then, grow_later}
use Rattle.adf_data.proofs.ChunkLaws.{view_from}
use Rattle.adf_data.proofs.ReleaseLaws.{tables_of, extents_of, split, table_not_given}
use Rattle.adf_data.proofs.GatherLaws.{room_in_ranges, later_refused}
use Rattle.adf_data.proofs.ZeroLaws.{all_changes_chunks}
use Rattle.adf_data.proofs.ExtendLaws.{long_extended, two_calls, three_calls, four_calls}
use Rattle.adf_data.proofs.BlockLaws.{chunk_blocks, counted_data}
use Rattle.adf_data.proofs.WaitLaws.{room_waits, two_wait, three_wait, four_wait, chunks_wait}
use Rattle.adf_data.proofs.grow.extend.Goals as goal

pub returns-in-Err-clause-bytes : goal.returns-in-Err-clause-bytes
returns-in-Err-clause-bytes g c = room_in_ranges (extents_in c.args.table (parts_of c.args.chunks.now)) c.args.heap.now.work.heap c.put_chunk.new.heap.work.heap (g.S.ReadBytes.image c.args.space.now) (g.S.ReadBytes.image c.put_chunk.new.space) c.put_chunk.ensures.bytes

pub returns-in-Err-put_table-clause-bytes : goal.returns-in-Err-put_table-clause-bytes
returns-in-Err-put_table-clause-bytes g c =
    two_calls (extents_in c.args.table (parts_of c.args.chunks.now)) c.args.heap.now.work.heap c.put_chunk.new.heap.work.heap c.put_table.new.heap.work.heap c.put_table.new.heap.work.heap _ c.in-Ok.place c.in-Ok.ensures.covers c.put_chunk.ensures.grows c.put_table.ensures.grows refl (g.S.ReadBytes.image c.args.space.now) (g.S.ReadBytes.image c.put_chunk.new.space) (g.S.ReadBytes.image c.put_table.new.space) c.put_chunk.ensures.bytes c.put_table.ensures.bytes

pub returns-in-Err-give_table-clause-bytes : goal.returns-in-Err-give_table-clause-bytes
returns-in-Err-give_table-clause-bytes g c =
    three_calls (extents_in c.args.table (parts_of c.args.chunks.now)) c.args.heap.now.work.heap c.put_chunk.new.heap.work.heap c.put_table.new.heap.work.heap c.give_table.new.heap.work.heap _ c.in-Ok.place c.in-Ok.ensures.covers c.put_chunk.ensures.grows c.put_table.ensures.grows c.give_table.ensures.last (tables_of c.args.table c.args.chunks.now) (extents_of c.args.table c.args.chunks.now) (split c.args.table c.args.chunks.now) _ c.in-Ok-put_table.list c.in-Ok-put_table.ensures.covers
    (g.S.ReadBytes.image c.args.space.now) (g.S.ReadBytes.image c.put_chunk.new.space) (g.S.ReadBytes.image c.put_table.new.space) (g.S.ReadBytes.image c.give_table.new.space) c.put_chunk.ensures.bytes c.put_table.ensures.bytes c.give_table.ensures.bytes

pub returns-in-Err-zero_range-clause-bytes : goal.returns-in-Err-zero_range-clause-bytes
returns-in-Err-zero_range-clause-bytes g c =
    four_calls (extents_in c.args.table (parts_of c.args.chunks.now)) c.args.heap.now.work.heap c.put_chunk.new.heap.work.heap c.put_table.new.heap.work.heap c.give_table.new.heap.work.heap _ c.in-Ok.place c.in-Ok.ensures.covers c.put_chunk.ensures.grows c.put_table.ensures.grows c.give_table.ensures.last (tables_of c.args.table c.args.chunks.now) (extents_of c.args.table c.args.chunks.now) (split c.args.table c.args.chunks.now) _ c.in-Ok-put_table.list c.in-Ok-put_table.ensures.covers
    (g.S.ReadBytes.image c.args.space.now) (g.S.ReadBytes.image c.put_chunk.new.space) (g.S.ReadBytes.image c.put_table.new.space) (g.S.ReadBytes.image c.give_table.new.space) (g.S.ReadBytes.image c.zero_range.new.space) c.put_chunk.ensures.bytes c.put_table.ensures.bytes c.give_table.ensures.bytes
    (all_changes_chunks (parts_of c.args.chunks.now) c.args.old (c.args.have - c.args.old) (g.S.ReadBytes.image c.give_table.new.space) (g.S.ReadBytes.image c.zero_range.new.space) (let h = c.requires.have in let w = c.requires.was in omega (arith, h, w)) c.zero_range.ensures.bytes)

pub returns-clause-bytes : goal.returns-clause-bytes
returns-clause-bytes g c =
    four_calls (extents_in c.args.table (parts_of c.args.chunks.now)) c.args.heap.now.work.heap c.put_chunk.new.heap.work.heap c.put_table.new.heap.work.heap c.give_table.new.heap.work.heap _ c.in-Ok.place c.in-Ok.ensures.covers c.put_chunk.ensures.grows c.put_table.ensures.grows c.give_table.ensures.last (tables_of c.args.table c.args.chunks.now) (extents_of c.args.table c.args.chunks.now) (split c.args.table c.args.chunks.now) _ c.in-Ok-put_table.list c.in-Ok-put_table.ensures.covers
    (g.S.ReadBytes.image c.args.space.now) (g.S.ReadBytes.image c.put_chunk.new.space) (g.S.ReadBytes.image c.put_table.new.space) (g.S.ReadBytes.image c.give_table.new.space) (g.S.ReadBytes.image c.zero_range.new.space) c.put_chunk.ensures.bytes c.put_table.ensures.bytes c.give_table.ensures.bytes
    (all_changes_chunks (parts_of c.args.chunks.now) c.args.old (c.args.have - c.args.old) (g.S.ReadBytes.image c.give_table.new.space) (g.S.ReadBytes.image c.zero_range.new.space) (let h = c.requires.have in let w = c.requires.was in omega (arith, h, w)) c.zero_range.ensures.bytes)

pub returns-in-Err-give_table-clause-cause : goal.returns-in-Err-give_table-clause-cause
returns-in-Err-give_table-clause-cause g c =
    grow_later (Ungivable (g.S.ReadBytes.image c.put_table.new.space) (tables_of c.args.table c.args.chunks.now) c.put_table.new.heap.work.heap) (Ungivable (g.S.ReadBytes.image c.args.space.now) (extents_in c.args.table (parts_of c.args.chunks.now)) c.args.heap.now.work.heap) (g.S.ReadBytes.state c.args.space.now).faults (g.S.ReadBytes.state c.put_table.new.space).faults (g.S.ReadBytes.state c.give_table.new.space).faults c.in-Err-give_table.error
    (let p = c.put_chunk.ensures.effect.faults in let q = c.put_table.ensures.effect.faults in omega (arith, p, q))
    (λ u. later_refused (extents_in c.args.table (parts_of c.args.chunks.now)) _ c.in-Ok.place c.args.heap.now.work.heap c.put_chunk.new.heap.work.heap (room_of c.args.heap.now.work.heap c.put_chunk.new.heap.work.heap) (g.S.ReadBytes.image c.args.space.now) (g.S.ReadBytes.image c.put_chunk.new.space) c.put_chunk.ensures.heap c.in-Ok.ensures.covers c.put_chunk.ensures.grows c.put_chunk.ensures.bytes
    (later_refused (extents_in c.args.table (parts_of c.args.chunks.now)) _ c.in-Ok-put_table.list c.put_chunk.new.heap.work.heap c.put_table.new.heap.work.heap (room_of c.put_chunk.new.heap.work.heap c.put_table.new.heap.work.heap) (g.S.ReadBytes.image c.put_chunk.new.space) (g.S.ReadBytes.image c.put_table.new.space) c.put_table.ensures.heap c.in-Ok-put_table.ensures.covers c.put_table.ensures.grows c.put_table.ensures.bytes
    (table_not_given c.args.table c.args.chunks.now c.put_table.new.heap.work.heap (g.S.ReadBytes.image c.put_table.new.space) u)))
    c.in-Err-give_table.ensures.cause

pub returns-clause-extends : goal.returns-clause-extends
returns-clause-extends g c =
    let l = length-map c.args.chunks.now part_of in
    let few = c.requires.few in
    long_extended c.args.heap.now.limit c.args.table (parts_of c.args.chunks.now) c.args.old c.args.added c.in-Ok.place c.in-Ok-put_table.list _ c.args.heap.now.work.heap c.put_chunk.new.heap.work.heap c.put_table.new.heap.work.heap c.give_table.new.heap.work c.requires.heap c.put_chunk.ensures.heap c.put_table.ensures.heap
    (c.in-Ok-give_table.ensures.gives ∙ ap (λ n. give_all (chunk_table_extents c.args.table n) c.put_table.new.heap.work.heap) (sym l)) (omega (arith, l, few)) (view_from c.in-Ok-put_table.list c.from_place.result c.from_place.ensures)
    c.chunk_length-length.result _ c.chunk_length-length.ensures (omega (arith, l)) c.in-Ok.ensures.takes c.in-Ok.ensures.covers c.in-Ok.ensures.within
    (subst (λ k. heap_take k (44 + 24 * length c.args.chunks.now) c.put_chunk.new.heap.work.heap ≡ Ok (c.in-Ok-put_table.list, c.put_table.new.heap.work.heap)) c.put_chunk.ensures.limit c.in-Ok-put_table.ensures.takes) c.in-Ok-put_table.ensures.covers c.in-Ok-put_table.ensures.within
    (g.S.ReadBytes.image c.args.space.now) (g.S.ReadBytes.image c.put_chunk.new.space) (g.S.ReadBytes.image c.put_table.new.space) (g.S.ReadBytes.image c.give_table.new.space) (g.S.ReadBytes.image c.zero_range.new.space) c.in-Ok.ensures.puts c.put_chunk.ensures.bytes c.in-Ok-put_table.ensures.puts c.put_table.ensures.bytes
    (subst (λ n. Both (ChangesOnly (heap_fields ++ chunk_table_extents c.args.table n ++ c.put_table.new.heap.work.heap.gaps)) (g.S.ReadBytes.image c.put_table.new.space) (g.S.ReadBytes.image c.give_table.new.space)) (sym l) c.give_table.ensures.bytes) c.in-Ok-give_table.ensures.threads
    (end_then c.args.heap.now.work.heap.end c.put_table.new.heap.work.heap.end c.give_table.new.heap.work.heap.end (g.S.ReadBytes.image c.args.space.now) (g.S.ReadBytes.image c.put_table.new.space) (g.S.ReadBytes.image c.give_table.new.space) (end_then c.args.heap.now.work.heap.end c.put_chunk.new.heap.work.heap.end c.put_table.new.heap.work.heap.end (g.S.ReadBytes.image c.args.space.now) (g.S.ReadBytes.image c.put_chunk.new.space) (g.S.ReadBytes.image c.put_table.new.space) c.in-Ok.ensures.end c.in-Ok-put_table.ensures.end) c.in-Ok-give_table.ensures.end)
    (fillers_then c.args.heap.now.work.heap.gaps c.put_table.new.heap.work.heap.gaps c.give_table.new.heap.work.heap.gaps (g.S.ReadBytes.image c.args.space.now) (g.S.ReadBytes.image c.put_table.new.space) (g.S.ReadBytes.image c.give_table.new.space) (fillers_then c.args.heap.now.work.heap.gaps c.put_chunk.new.heap.work.heap.gaps c.put_table.new.heap.work.heap.gaps (g.S.ReadBytes.image c.args.space.now) (g.S.ReadBytes.image c.put_chunk.new.space) (g.S.ReadBytes.image c.put_table.new.space) c.in-Ok.ensures.fillers c.in-Ok-put_table.ensures.fillers) c.in-Ok-give_table.ensures.fillers)
    (subst (λ k. Both (ZeroesBytes (parts_of c.args.chunks.now) c.args.old (k - c.args.old)) (g.S.ReadBytes.image c.give_table.new.space) (g.S.ReadBytes.image c.zero_range.new.space)) c.requires.have c.in-Ok-zero_range.ensures.zeroed)

pub returns-clause-waits : goal.returns-clause-waits
returns-clause-waits g c =
    let p = c.in-Ok.ensures.waits in let t = c.in-Ok-put_table.ensures.waits in let w = c.give_table.ensures.waits in let n = chunk_blocks c.args.added in let l = c.chunk_length-length.ensures in let m = length-map c.args.chunks.now part_of in
    let z = counted_data (parts_of c.args.chunks.now) c.args.old (c.args.have - c.args.old) (g.S.ReadBytes.waiting c.give_table.new.space) (g.S.ReadBytes.waiting c.zero_range.new.space) c.zero_range.ensures.only in
    let few = c.requires.few in omega (arith, p, t, w, n, l, m, z, few)

pub returns-in-Err-clause-only : goal.returns-in-Err-clause-only
returns-in-Err-clause-only g c = room_waits (extents_in c.args.table (parts_of c.args.chunks.now)) c.args.heap.now.work.heap c.put_chunk.new.heap.work.heap (g.S.ReadBytes.image c.args.space.now) (g.S.ReadBytes.waiting c.args.space.now) (g.S.ReadBytes.waiting c.put_chunk.new.space) c.put_chunk.ensures.only

pub returns-in-Err-put_table-clause-only : goal.returns-in-Err-put_table-clause-only
returns-in-Err-put_table-clause-only g c =
    two_wait (extents_in c.args.table (parts_of c.args.chunks.now)) c.args.heap.now.work.heap c.put_chunk.new.heap.work.heap c.put_table.new.heap.work.heap c.put_table.new.heap.work.heap _ c.in-Ok.place c.in-Ok.ensures.covers c.put_chunk.ensures.grows c.put_table.ensures.grows refl
    (g.S.ReadBytes.image c.args.space.now) (g.S.ReadBytes.image c.put_chunk.new.space) (g.S.ReadBytes.image c.put_table.new.space) (g.S.ReadBytes.waiting c.args.space.now) (g.S.ReadBytes.waiting c.put_chunk.new.space) (g.S.ReadBytes.waiting c.put_table.new.space) c.put_chunk.ensures.bytes c.put_chunk.ensures.only c.put_table.ensures.only

pub returns-in-Err-give_table-clause-only : goal.returns-in-Err-give_table-clause-only
returns-in-Err-give_table-clause-only g c =
    three_wait (extents_in c.args.table (parts_of c.args.chunks.now)) c.args.heap.now.work.heap c.put_chunk.new.heap.work.heap c.put_table.new.heap.work.heap c.give_table.new.heap.work.heap _ c.in-Ok.place c.in-Ok.ensures.covers c.put_chunk.ensures.grows c.put_table.ensures.grows c.give_table.ensures.last
    (g.S.ReadBytes.image c.args.space.now) (g.S.ReadBytes.image c.put_chunk.new.space) (g.S.ReadBytes.image c.put_table.new.space) (g.S.ReadBytes.waiting c.args.space.now) (g.S.ReadBytes.waiting c.put_chunk.new.space) (g.S.ReadBytes.waiting c.put_table.new.space) c.put_chunk.ensures.bytes c.put_chunk.ensures.only c.put_table.ensures.only
    (tables_of c.args.table c.args.chunks.now) (extents_of c.args.table c.args.chunks.now) (split c.args.table c.args.chunks.now) _ c.in-Ok-put_table.list c.in-Ok-put_table.ensures.covers (g.S.ReadBytes.image c.give_table.new.space) (g.S.ReadBytes.waiting c.give_table.new.space) c.put_table.ensures.bytes c.give_table.ensures.only

pub returns-in-Err-zero_range-clause-only : goal.returns-in-Err-zero_range-clause-only
returns-in-Err-zero_range-clause-only g c =
    four_wait (extents_in c.args.table (parts_of c.args.chunks.now)) c.args.heap.now.work.heap c.put_chunk.new.heap.work.heap c.put_table.new.heap.work.heap c.give_table.new.heap.work.heap _ c.in-Ok.place c.in-Ok.ensures.covers c.put_chunk.ensures.grows c.put_table.ensures.grows c.give_table.ensures.last
    (g.S.ReadBytes.image c.args.space.now) (g.S.ReadBytes.image c.put_chunk.new.space) (g.S.ReadBytes.image c.put_table.new.space) (g.S.ReadBytes.waiting c.args.space.now) (g.S.ReadBytes.waiting c.put_chunk.new.space) (g.S.ReadBytes.waiting c.put_table.new.space) c.put_chunk.ensures.bytes c.put_chunk.ensures.only c.put_table.ensures.only
    (tables_of c.args.table c.args.chunks.now) (extents_of c.args.table c.args.chunks.now) (split c.args.table c.args.chunks.now) _ c.in-Ok-put_table.list c.in-Ok-put_table.ensures.covers (g.S.ReadBytes.image c.give_table.new.space) (g.S.ReadBytes.waiting c.give_table.new.space) c.put_table.ensures.bytes c.give_table.ensures.only
    (g.S.ReadBytes.waiting c.zero_range.new.space) c.give_table.ensures.bytes (chunks_wait (parts_of c.args.chunks.now) c.args.old (c.args.have - c.args.old) (g.S.ReadBytes.waiting c.give_table.new.space) (g.S.ReadBytes.waiting c.zero_range.new.space) c.zero_range.ensures.only)

pub returns-clause-only : goal.returns-clause-only
returns-clause-only g c =
    four_wait (extents_in c.args.table (parts_of c.args.chunks.now)) c.args.heap.now.work.heap c.put_chunk.new.heap.work.heap c.put_table.new.heap.work.heap c.give_table.new.heap.work.heap _ c.in-Ok.place c.in-Ok.ensures.covers c.put_chunk.ensures.grows c.put_table.ensures.grows c.give_table.ensures.last
    (g.S.ReadBytes.image c.args.space.now) (g.S.ReadBytes.image c.put_chunk.new.space) (g.S.ReadBytes.image c.put_table.new.space) (g.S.ReadBytes.waiting c.args.space.now) (g.S.ReadBytes.waiting c.put_chunk.new.space) (g.S.ReadBytes.waiting c.put_table.new.space) c.put_chunk.ensures.bytes c.put_chunk.ensures.only c.put_table.ensures.only
    (tables_of c.args.table c.args.chunks.now) (extents_of c.args.table c.args.chunks.now) (split c.args.table c.args.chunks.now) _ c.in-Ok-put_table.list c.in-Ok-put_table.ensures.covers (g.S.ReadBytes.image c.give_table.new.space) (g.S.ReadBytes.waiting c.give_table.new.space) c.put_table.ensures.bytes c.give_table.ensures.only
    (g.S.ReadBytes.waiting c.zero_range.new.space) c.give_table.ensures.bytes (chunks_wait (parts_of c.args.chunks.now) c.args.old (c.args.have - c.args.old) (g.S.ReadBytes.waiting c.give_table.new.space) (g.S.ReadBytes.waiting c.zero_range.new.space) c.zero_range.ensures.only)
