use Rattle.std.proofs.Common.{◌≡◌, ◌+◌, ◌*◌, ◌++◌, ◌∷◌, [], length, arith, ◌∙◌, ap, subst}
use Rattle.std.proofs.lemmas.List.{length-map, length-append}
use Rattle.cg_io.specs.Blocks.{Both, KeepsOutside}
use Rattle.adf_data.specs.Chunks.{part_of, parts_of}
use Rattle.adf_data.proofs.HeapWords.{end_then, fillers_then}
use Rattle.adf_data.proofs.RoomLaws.{taken_in_room, threads_stay, end_stays, fillers_stay, written_in_room}
use Rattle.adf_data.proofs.GrowLaws.{all_tables}
use Rattle.adf_data.proofs.BlockLaws.{few_blocks}
use Rattle.cg_io.specs.Waits.{IsTouched, WaitsOnly}
use Rattle.adf_data.proofs.WaitLaws.{take_waits, put_waits}
use Rattle.adf_data.proofs.grow.put_table.Goals as goal

pub returns-in-Err-clause-bytes : goal.returns-in-Err-clause-bytes
returns-in-Err-clause-bytes g c = taken_in_room c.args.heap.now.work.heap c.take_range.new.heap.work.heap (g.S.ReadBytes.image c.args.space.now) (g.S.ReadBytes.image c.take_range.new.space) c.take_range.ensures.bytes

pub returns-in-Err-table_text-clause-bytes : goal.returns-in-Err-table_text-clause-bytes
returns-in-Err-table_text-clause-bytes g c = taken_in_room c.args.heap.now.work.heap c.take_range.new.heap.work.heap (g.S.ReadBytes.image c.args.space.now) (g.S.ReadBytes.image c.take_range.new.space) c.take_range.ensures.bytes

pub returns-in-Ok-store-clause-puts : goal.returns-in-Ok-store-clause-puts
returns-in-Ok-store-clause-puts g c =
    let l = length-map c.args.chunks.now part_of in
    let n = length-append (parts_of c.args.chunks.now) (part_of c.args.last ∷ []) in
    let some = c.requires.some in let w = c.in-Ok.ensures.within.1 in let h = c.take_range.ensures.heap.high in
    all_tables (parts_of c.args.chunks.now ++ part_of c.args.last ∷ []) c.in-Ok.place c.deref.result.now (g.S.ReadBytes.image c.take_range.new.space) (g.S.ReadBytes.image c.store.new.space)
    (omega (arith, l, n, some)) (omega (arith, l, n, w, h)) (c.deref.ensures.value ∙ c.in-Ok-table_text.ensures.text) c.in-Ok-store.ensures.written

pub returns-in-Ok-store-clause-threads : goal.returns-in-Ok-store-clause-threads
returns-in-Ok-store-clause-threads g c =
    threads_stay (44 + 24 * length c.args.chunks.now) c.in-Ok.place c.args.heap.now.work.heap c.take_range.new.heap.work c.requires.heap c.in-Ok.ensures.covers c.in-Ok.ensures.within
    (g.S.ReadBytes.image c.take_range.new.space) (g.S.ReadBytes.image c.store.new.space) (subst (λ m. Both (KeepsOutside c.in-Ok.place m) (g.S.ReadBytes.image c.take_range.new.space) (g.S.ReadBytes.image c.store.new.space)) (ap length c.deref.ensures.value ∙ c.in-Ok-table_text.ensures.long) c.store.ensures.bytes) c.in-Ok.ensures.threads

pub returns-in-Ok-store-clause-bytes : goal.returns-in-Ok-store-clause-bytes
returns-in-Ok-store-clause-bytes g c =
    written_in_room (44 + 24 * length c.args.chunks.now) c.in-Ok.place c.args.heap.now.work.heap c.take_range.new.heap.work.heap c.requires.heap c.in-Ok.ensures.covers c.in-Ok.ensures.within
    (g.S.ReadBytes.image c.args.space.now) (g.S.ReadBytes.image c.take_range.new.space) (g.S.ReadBytes.image c.store.new.space) c.take_range.ensures.bytes (subst (λ m. Both (KeepsOutside c.in-Ok.place m) (g.S.ReadBytes.image c.take_range.new.space) (g.S.ReadBytes.image c.store.new.space)) (ap length c.deref.ensures.value ∙ c.in-Ok-table_text.ensures.long) c.store.ensures.bytes)

pub returns-in-Ok-store-clause-end : goal.returns-in-Ok-store-clause-end
returns-in-Ok-store-clause-end g c =
    end_then c.args.heap.now.work.heap.end c.take_range.new.heap.work.heap.end c.take_range.new.heap.work.heap.end (g.S.ReadBytes.image c.args.space.now) (g.S.ReadBytes.image c.take_range.new.space) (g.S.ReadBytes.image c.store.new.space) c.in-Ok.ensures.end
    (end_stays (44 + 24 * length c.args.chunks.now) c.in-Ok.place c.args.heap.now.work.heap c.take_range.new.heap.work c.requires.heap c.in-Ok.ensures.covers c.in-Ok.ensures.within
    (g.S.ReadBytes.image c.take_range.new.space) (g.S.ReadBytes.image c.store.new.space) (subst (λ m. Both (KeepsOutside c.in-Ok.place m) (g.S.ReadBytes.image c.take_range.new.space) (g.S.ReadBytes.image c.store.new.space)) (ap length c.deref.ensures.value ∙ c.in-Ok-table_text.ensures.long) c.store.ensures.bytes) c.in-Ok.ensures.threads)

pub returns-in-Ok-store-clause-fillers : goal.returns-in-Ok-store-clause-fillers
returns-in-Ok-store-clause-fillers g c =
    fillers_then c.args.heap.now.work.heap.gaps c.take_range.new.heap.work.heap.gaps c.take_range.new.heap.work.heap.gaps (g.S.ReadBytes.image c.args.space.now) (g.S.ReadBytes.image c.take_range.new.space) (g.S.ReadBytes.image c.store.new.space) c.in-Ok.ensures.fillers
    (fillers_stay (44 + 24 * length c.args.chunks.now) c.in-Ok.place c.args.heap.now.work.heap c.take_range.new.heap.work c.requires.heap c.in-Ok.ensures.covers c.in-Ok.ensures.within
    (g.S.ReadBytes.image c.take_range.new.space) (g.S.ReadBytes.image c.store.new.space) (subst (λ m. Both (KeepsOutside c.in-Ok.place m) (g.S.ReadBytes.image c.take_range.new.space) (g.S.ReadBytes.image c.store.new.space)) (ap length c.deref.ensures.value ∙ c.in-Ok-table_text.ensures.long) c.store.ensures.bytes) c.in-Ok.ensures.threads)

pub returns-clause-bytes : goal.returns-clause-bytes
returns-clause-bytes g c =
    written_in_room (44 + 24 * length c.args.chunks.now) c.in-Ok.place c.args.heap.now.work.heap c.take_range.new.heap.work.heap c.requires.heap c.in-Ok.ensures.covers c.in-Ok.ensures.within
    (g.S.ReadBytes.image c.args.space.now) (g.S.ReadBytes.image c.take_range.new.space) (g.S.ReadBytes.image c.store.new.space) c.take_range.ensures.bytes (subst (λ m. Both (KeepsOutside c.in-Ok.place m) (g.S.ReadBytes.image c.take_range.new.space) (g.S.ReadBytes.image c.store.new.space)) (ap length c.deref.ensures.value ∙ c.in-Ok-table_text.ensures.long) c.store.ensures.bytes)

pub returns-in-Ok-store-clause-waits : goal.returns-in-Ok-store-clause-waits
returns-in-Ok-store-clause-waits g c =
    let long : length c.deref.result.now ≡ 44 + 24 * length c.args.chunks.now = ap length c.deref.ensures.value ∙ c.in-Ok-table_text.ensures.long in
    let t = c.take_range.ensures.waits in let w = c.store.ensures.waits in let f = few_blocks c.in-Ok.place (length c.deref.result.now) in omega (arith, t, w, f, long)

pub returns-in-Err-clause-only : goal.returns-in-Err-clause-only
returns-in-Err-clause-only g c = take_waits c.args.heap.now.work.heap c.take_range.new.heap.work.heap (g.S.ReadBytes.image c.args.space.now) (g.S.ReadBytes.waiting c.args.space.now) (g.S.ReadBytes.waiting c.take_range.new.space) c.take_range.ensures.only

pub returns-in-Err-table_text-clause-only : goal.returns-in-Err-table_text-clause-only
returns-in-Err-table_text-clause-only g c = take_waits c.args.heap.now.work.heap c.take_range.new.heap.work.heap (g.S.ReadBytes.image c.args.space.now) (g.S.ReadBytes.waiting c.args.space.now) (g.S.ReadBytes.waiting c.take_range.new.space) c.take_range.ensures.only

pub returns-in-Ok-store-clause-only : goal.returns-in-Ok-store-clause-only
returns-in-Ok-store-clause-only g c =
    put_waits (44 + 24 * length c.args.chunks.now) c.in-Ok.place c.args.heap.now.work.heap c.take_range.new.heap.work.heap c.requires.heap c.in-Ok.ensures.covers c.in-Ok.ensures.within
    (g.S.ReadBytes.image c.args.space.now) (g.S.ReadBytes.image c.take_range.new.space) (g.S.ReadBytes.waiting c.args.space.now) (g.S.ReadBytes.waiting c.take_range.new.space) (g.S.ReadBytes.waiting c.store.new.space) c.take_range.ensures.bytes c.take_range.ensures.only
    (subst (λ m. WaitsOnly (IsTouched c.in-Ok.place m) (g.S.ReadBytes.waiting c.take_range.new.space) (g.S.ReadBytes.waiting c.store.new.space)) (ap length c.deref.ensures.value ∙ c.in-Ok-table_text.ensures.long) c.store.ensures.only)

pub returns-clause-only : goal.returns-clause-only
returns-clause-only g c =
    put_waits (44 + 24 * length c.args.chunks.now) c.in-Ok.place c.args.heap.now.work.heap c.take_range.new.heap.work.heap c.requires.heap c.in-Ok.ensures.covers c.in-Ok.ensures.within
    (g.S.ReadBytes.image c.args.space.now) (g.S.ReadBytes.image c.take_range.new.space) (g.S.ReadBytes.waiting c.args.space.now) (g.S.ReadBytes.waiting c.take_range.new.space) (g.S.ReadBytes.waiting c.store.new.space) c.take_range.ensures.bytes c.take_range.ensures.only
    (subst (λ m. WaitsOnly (IsTouched c.in-Ok.place m) (g.S.ReadBytes.waiting c.take_range.new.space) (g.S.ReadBytes.waiting c.store.new.space)) (ap length c.deref.ensures.value ∙ c.in-Ok-table_text.ensures.long) c.store.ensures.only)
