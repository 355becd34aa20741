use Rattle.std.proofs.Common.{◌≡◌, ◌≤◌, ◌∙◌, List, length, refl, sym, ap, subst, arith}
use Rattle.std.specs.List.{All}
use Rattle.cg_io.specs.Blocks.{Both}
use Rattle.adf_format.specs.HeapRule.{chunk_length_for}
use Rattle.adf_model.specs.declared.lists.Run.{Run}
use Rattle.adf_data.specs.Runs.{EndsIn, fresh_elements}
use Rattle.adf_data.specs.Growing.{PutsData}
use Rattle.adf_data.proofs.PartLaws.{elements_long}
use Rattle.adf_data.proofs.HeapWords.{end_then, fillers_then}
use Rattle.adf_data.proofs.RoomLaws.{taken_in_room, threads_stay, end_stays, fillers_stay, written_in_room}
use Rattle.adf_data.proofs.ChunkLaws.{view_from}
use Rattle.adf_data.proofs.BlockLaws.{counted_range, chunk_blocks}
use Rattle.adf_model.specs.declared.error.AdfError.TheVariants as error
use Rattle.adf_data.proofs.SizeLaws.{same_refusal}
use Rattle.adf_data.proofs.WholeLaws.{all_put, whole_full}
use Rattle.adf_data.proofs.WaitLaws.{take_waits, put_waits}
use Rattle.adf_data.proofs.whole.put_part.Goals as goal

pub returns-in-Err-clause-changes : goal.returns-in-Err-clause-changes
returns-in-Err-clause-changes g c = taken_in_room c.args.heap.now.work.heap c.take_range.new.heap.work.heap (g.S.ReadBytes.image c.args.space.now) (g.S.ReadBytes.image c.take_range.new.space) c.take_range.ensures.bytes

pub returns-in-Err-clause-full : goal.returns-in-Err-clause-full
returns-in-Err-clause-full g c = λ asked end is. whole_full c.args.heap.now.limit c.args.size c.chunk_length-n.result c.args.heap.now.work.heap _ c.requires.some c.chunk_length-n.ensures (c.in-Err.ensures.full asked end (same_refusal c.in-Err.error (error.Full asked end) is))

pub returns-in-Ok-write_elements-clause-put : goal.returns-in-Ok-write_elements-clause-put
returns-in-Ok-write_elements-clause-put g c =
    let long : length (fresh_elements c.args.size c.args.element c.items.result.now c.args.bytes.now) ≡ c.args.size = elements_long c.args.size c.args.element c.items.result.now c.args.bytes.now (subst (All (EndsIn c.args.element c.args.size)) (sym c.items.ensures) c.requires.ends) in
    subst (λ (rs : List Run). Both (PutsData c.args.heap.now.limit (fresh_elements c.args.size c.args.element rs c.args.bytes.now) (record { count = 1; pointer = c.from_place.result }) c.args.heap.now.work.heap c.take_range.new.heap.work) (g.S.ReadBytes.image c.args.space.now) (g.S.ReadBytes.image c.write_elements.new.space)) c.items.ensures
    (all_put c.args.heap.now.limit (fresh_elements c.args.size c.args.element c.items.result.now c.args.bytes.now) c.chunk_length-n.result c.in-Ok.place _ c.args.heap.now.work.heap c.take_range.new.heap.work (subst (λ m. 1 ≤ m) (sym long) c.requires.some) (c.chunk_length-n.ensures ∙ ap chunk_length_for (sym long)) c.in-Ok.ensures.takes refl (view_from c.in-Ok.place c.from_place.result c.from_place.ensures)
    (g.S.ReadBytes.image c.args.space.now) (g.S.ReadBytes.image c.take_range.new.space) (g.S.ReadBytes.image c.write_elements.new.space) c.in-Ok-write_elements.ensures.made
    (threads_stay c.chunk_length-n.result c.in-Ok.place c.args.heap.now.work.heap c.take_range.new.heap.work c.requires.heap c.in-Ok.ensures.covers c.in-Ok.ensures.within (g.S.ReadBytes.image c.take_range.new.space) (g.S.ReadBytes.image c.write_elements.new.space) c.write_elements.ensures.changes c.in-Ok.ensures.threads)
    (end_then c.args.heap.now.work.heap.end c.take_range.new.heap.work.heap.end c.take_range.new.heap.work.heap.end (g.S.ReadBytes.image c.args.space.now) (g.S.ReadBytes.image c.take_range.new.space) (g.S.ReadBytes.image c.write_elements.new.space) c.in-Ok.ensures.end
    (end_stays c.chunk_length-n.result c.in-Ok.place c.args.heap.now.work.heap c.take_range.new.heap.work c.requires.heap c.in-Ok.ensures.covers c.in-Ok.ensures.within (g.S.ReadBytes.image c.take_range.new.space) (g.S.ReadBytes.image c.write_elements.new.space) c.write_elements.ensures.changes c.in-Ok.ensures.threads))
    (fillers_then c.args.heap.now.work.heap.gaps c.take_range.new.heap.work.heap.gaps c.take_range.new.heap.work.heap.gaps (g.S.ReadBytes.image c.args.space.now) (g.S.ReadBytes.image c.take_range.new.space) (g.S.ReadBytes.image c.write_elements.new.space) c.in-Ok.ensures.fillers
    (fillers_stay c.chunk_length-n.result c.in-Ok.place c.args.heap.now.work.heap c.take_range.new.heap.work c.requires.heap c.in-Ok.ensures.covers c.in-Ok.ensures.within (g.S.ReadBytes.image c.take_range.new.space) (g.S.ReadBytes.image c.write_elements.new.space) c.write_elements.ensures.changes c.in-Ok.ensures.threads)))

pub returns-in-Ok-write_elements-clause-changes : goal.returns-in-Ok-write_elements-clause-changes
returns-in-Ok-write_elements-clause-changes g c = written_in_room c.chunk_length-n.result c.in-Ok.place c.args.heap.now.work.heap c.take_range.new.heap.work.heap c.requires.heap c.in-Ok.ensures.covers c.in-Ok.ensures.within (g.S.ReadBytes.image c.args.space.now) (g.S.ReadBytes.image c.take_range.new.space) (g.S.ReadBytes.image c.write_elements.new.space) c.take_range.ensures.bytes c.write_elements.ensures.changes

pub returns-in-Err-write_elements-clause-changes : goal.returns-in-Err-write_elements-clause-changes
returns-in-Err-write_elements-clause-changes g c = written_in_room c.chunk_length-n.result c.in-Ok.place c.args.heap.now.work.heap c.take_range.new.heap.work.heap c.requires.heap c.in-Ok.ensures.covers c.in-Ok.ensures.within (g.S.ReadBytes.image c.args.space.now) (g.S.ReadBytes.image c.take_range.new.space) (g.S.ReadBytes.image c.write_elements.new.space) c.take_range.ensures.bytes c.write_elements.ensures.changes

pub returns-in-Ok-write_elements-clause-waits : goal.returns-in-Ok-write_elements-clause-waits
returns-in-Ok-write_elements-clause-waits g c =
    let t = c.take_range.ensures.waits in let w = counted_range c.in-Ok.place c.chunk_length-n.result (g.S.ReadBytes.waiting c.take_range.new.space) (g.S.ReadBytes.waiting c.write_elements.new.space) c.write_elements.ensures.only in
    let n = chunk_blocks c.args.size in let l = c.chunk_length-n.ensures in omega (arith, t, w, n, l)

pub returns-in-Err-clause-only : goal.returns-in-Err-clause-only
returns-in-Err-clause-only g c = take_waits c.args.heap.now.work.heap c.take_range.new.heap.work.heap (g.S.ReadBytes.image c.args.space.now) (g.S.ReadBytes.waiting c.args.space.now) (g.S.ReadBytes.waiting c.take_range.new.space) c.take_range.ensures.only

pub returns-in-Ok-write_elements-clause-only : goal.returns-in-Ok-write_elements-clause-only
returns-in-Ok-write_elements-clause-only g c =
    put_waits c.chunk_length-n.result c.in-Ok.place c.args.heap.now.work.heap c.take_range.new.heap.work.heap c.requires.heap c.in-Ok.ensures.covers c.in-Ok.ensures.within
    (g.S.ReadBytes.image c.args.space.now) (g.S.ReadBytes.image c.take_range.new.space) (g.S.ReadBytes.waiting c.args.space.now) (g.S.ReadBytes.waiting c.take_range.new.space) (g.S.ReadBytes.waiting c.write_elements.new.space) c.take_range.ensures.bytes c.take_range.ensures.only c.write_elements.ensures.only

pub returns-in-Err-write_elements-clause-only : goal.returns-in-Err-write_elements-clause-only
returns-in-Err-write_elements-clause-only g c =
    put_waits c.chunk_length-n.result c.in-Ok.place c.args.heap.now.work.heap c.take_range.new.heap.work.heap c.requires.heap c.in-Ok.ensures.covers c.in-Ok.ensures.within
    (g.S.ReadBytes.image c.args.space.now) (g.S.ReadBytes.image c.take_range.new.space) (g.S.ReadBytes.waiting c.args.space.now) (g.S.ReadBytes.waiting c.take_range.new.space) (g.S.ReadBytes.waiting c.write_elements.new.space) c.take_range.ensures.bytes c.take_range.ensures.only c.write_elements.ensures.only
