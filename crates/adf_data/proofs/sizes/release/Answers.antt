use Rattle.std.proofs.Common.{◌≡◌, ◌++◌, ℕ, List, sym, subst, ap, ◌∙◌}
use Rattle.std.specs.Prelude.{Option}
use Rattle.cg_io.specs.Blocks.{Both}
use Rattle.cg_io.proofs.ReadLaws.{refused_for, refused_later}
use Rattle.adf_format.specs.declared.types.Extent.{Extent}
use Rattle.adf_format.specs.Changes.{heap_fields}
use Rattle.adf_format.specs.Placement.{NodeParts}
use Rattle.adf_format.specs.HeapRule.{give_all, data_extents}
use Rattle.file_heap.specs.Heap.{ChangesOnly}
use Rattle.adf_data.specs.declared.chunks.Chunk.{Chunk}
use Rattle.adf_data.specs.Chunks.{parts_of, Named, NoneNamed}
use Rattle.adf_data.specs.Sizes.{extents_in, MayGiveAll, Ungivable}
use Rattle.adf_data.proofs.ReleaseLaws.{named_extents, release_refused}
use Rattle.field_access.proofs.WaitLaws.{waits_same}
use Rattle.adf_data.proofs.WaitLaws.{named_waits}
use Rattle.adf_data.proofs.sizes.release.Goals as goal

pub give_data-requires-clause-few : goal.give_data-requires-clause-few
give_data-requires-clause-few g c = rw c.deref.ensures.value c.in-Ok.ensures.few

pub returns-in-Err-clause-cause : goal.returns-in-Err-clause-cause
returns-in-Err-clause-cause g c =
    refused_for (NoneNamed c.args.at.now (g.S.ReadBytes.image c.args.space.now)) ((parts : NodeParts) → Named c.args.at.now parts (g.S.ReadBytes.image c.args.space.now) → MayGiveAll (data_extents parts) c.args.heap.now.work.heap → ⊥)
    (g.S.ReadBytes.state c.args.space.now).faults (g.S.ReadBytes.state c.list_chunks.new.space).faults c.in-Err.error (λ none parts n may. none parts n) c.in-Err.ensures.cause

pub returns-in-Err-give_data-clause-bytes : goal.returns-in-Err-give_data-clause-bytes
returns-in-Err-give_data-clause-bytes g c = λ parts n.
    subst (λ (es : List Extent). Both (ChangesOnly (heap_fields ++ es ++ c.args.heap.now.work.heap.gaps)) (g.S.ReadBytes.image c.args.space.now) (g.S.ReadBytes.image c.give_data.new.space))
    (named_extents c.args.at.now c.deref.result.now c.table_in.result (g.S.ReadBytes.image c.args.space.now) (subst (λ (cs : List Chunk). (parts : NodeParts) → Named c.args.at.now parts (g.S.ReadBytes.image c.args.space.now) → parts_of cs ≡ parts.chunks) (sym c.deref.ensures.value) c.in-Ok.ensures.says) (λ q m. c.table_in.ensures.says q (g.S.ReadBytes.image c.args.space.now) m) parts n)
    (subst (λ (i : Option (List ℕ)). Both (ChangesOnly (heap_fields ++ extents_in c.table_in.result (parts_of c.deref.result.now) ++ c.args.heap.now.work.heap.gaps)) i (g.S.ReadBytes.image c.give_data.new.space)) c.list_chunks.ensures.image c.give_data.ensures.bytes)

pub returns-clause-bytes : goal.returns-clause-bytes
returns-clause-bytes g c = λ parts n.
    subst (λ (es : List Extent). Both (ChangesOnly (heap_fields ++ es ++ c.args.heap.now.work.heap.gaps)) (g.S.ReadBytes.image c.args.space.now) (g.S.ReadBytes.image c.give_data.new.space))
    (named_extents c.args.at.now c.deref.result.now c.table_in.result (g.S.ReadBytes.image c.args.space.now) (subst (λ (cs : List Chunk). (parts : NodeParts) → Named c.args.at.now parts (g.S.ReadBytes.image c.args.space.now) → parts_of cs ≡ parts.chunks) (sym c.deref.ensures.value) c.in-Ok.ensures.says) (λ q m. c.table_in.ensures.says q (g.S.ReadBytes.image c.args.space.now) m) parts n)
    (subst (λ (i : Option (List ℕ)). Both (ChangesOnly (heap_fields ++ extents_in c.table_in.result (parts_of c.deref.result.now) ++ c.args.heap.now.work.heap.gaps)) i (g.S.ReadBytes.image c.give_data.new.space)) c.list_chunks.ensures.image c.give_data.ensures.bytes)

pub returns-clause-gives : goal.returns-clause-gives
returns-clause-gives g c = λ parts n.
    c.in-Ok-give_data.ensures.gives
    ∙ ap (λ (es : List Extent). give_all es c.args.heap.now.work.heap) (named_extents c.args.at.now c.deref.result.now c.table_in.result (g.S.ReadBytes.image c.args.space.now) (subst (λ (cs : List Chunk). (parts : NodeParts) → Named c.args.at.now parts (g.S.ReadBytes.image c.args.space.now) → parts_of cs ≡ parts.chunks) (sym c.deref.ensures.value) c.in-Ok.ensures.says) (λ q m. c.table_in.ensures.says q (g.S.ReadBytes.image c.args.space.now) m) parts n)

pub returns-in-Err-give_data-clause-cause : goal.returns-in-Err-give_data-clause-cause
returns-in-Err-give_data-clause-cause g c =
    refused_later (Ungivable (g.S.ReadBytes.image c.list_chunks.new.space) (extents_in c.table_in.result (parts_of c.deref.result.now)) c.args.heap.now.work.heap) ((parts : NodeParts) → Named c.args.at.now parts (g.S.ReadBytes.image c.args.space.now) → MayGiveAll (data_extents parts) c.args.heap.now.work.heap → ⊥)
    (g.S.ReadBytes.state c.args.space.now).faults (g.S.ReadBytes.state c.list_chunks.new.space).faults (g.S.ReadBytes.state c.give_data.new.space).faults c.in-Err-give_data.error c.list_chunks.ensures.effect.faults
    (λ u. release_refused c.args.at.now (g.S.ReadBytes.image c.args.space.now) (extents_in c.table_in.result (parts_of c.deref.result.now)) c.args.heap.now.work.heap
    (named_extents c.args.at.now c.deref.result.now c.table_in.result (g.S.ReadBytes.image c.args.space.now) (subst (λ (cs : List Chunk). (parts : NodeParts) → Named c.args.at.now parts (g.S.ReadBytes.image c.args.space.now) → parts_of cs ≡ parts.chunks) (sym c.deref.ensures.value) c.in-Ok.ensures.says) (λ q m. c.table_in.ensures.says q (g.S.ReadBytes.image c.args.space.now) m))
    (subst (λ (i : Option (List ℕ)). Ungivable i (extents_in c.table_in.result (parts_of c.deref.result.now)) c.args.heap.now.work.heap) c.list_chunks.ensures.image u))
    c.in-Err-give_data.ensures.cause

pub returns-in-Err-clause-only : goal.returns-in-Err-clause-only
returns-in-Err-clause-only g c = λ parts n. waits_same _ (g.S.ReadBytes.waiting c.args.space.now) (g.S.ReadBytes.waiting c.list_chunks.new.space) c.list_chunks.ensures.waits

pub returns-in-Err-give_data-clause-only : goal.returns-in-Err-give_data-clause-only
returns-in-Err-give_data-clause-only g c =
    named_waits c.args.at.now c.deref.result.now c.table_in.result (g.S.ReadBytes.image c.args.space.now) (g.S.ReadBytes.image c.list_chunks.new.space) c.list_chunks.ensures.image (subst (λ (cs : List Chunk). (parts : NodeParts) → Named c.args.at.now parts (g.S.ReadBytes.image c.args.space.now) → parts_of cs ≡ parts.chunks) (sym c.deref.ensures.value) c.in-Ok.ensures.says)
    (λ q m. c.table_in.ensures.says q (g.S.ReadBytes.image c.args.space.now) m) (λ es. heap_fields ++ es ++ c.args.heap.now.work.heap.gaps) (g.S.ReadBytes.waiting c.args.space.now) (g.S.ReadBytes.waiting c.list_chunks.new.space) (g.S.ReadBytes.waiting c.give_data.new.space) c.list_chunks.ensures.waits c.give_data.ensures.only

pub returns-clause-only : goal.returns-clause-only
returns-clause-only g c =
    named_waits c.args.at.now c.deref.result.now c.table_in.result (g.S.ReadBytes.image c.args.space.now) (g.S.ReadBytes.image c.list_chunks.new.space) c.list_chunks.ensures.image (subst (λ (cs : List Chunk). (parts : NodeParts) → Named c.args.at.now parts (g.S.ReadBytes.image c.args.space.now) → parts_of cs ≡ parts.chunks) (sym c.deref.ensures.value) c.in-Ok.ensures.says)
    (λ q m. c.table_in.ensures.says q (g.S.ReadBytes.image c.args.space.now) m) (λ es. heap_fields ++ es ++ c.args.heap.now.work.heap.gaps) (g.S.ReadBytes.waiting c.args.space.now) (g.S.ReadBytes.waiting c.list_chunks.new.space) (g.S.ReadBytes.waiting c.give_data.new.space) c.list_chunks.ensures.waits c.give_data.ensures.only
