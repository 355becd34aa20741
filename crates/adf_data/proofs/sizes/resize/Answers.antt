use Rattle.std.proofs.Common.{◌≡◌, ◌≤◌, ◌+◌, ◌-◌, ℕ, List, length, ap, arith, sym, subst, ◌∙◌}
use Rattle.std.specs.Prelude.{Option}
use Rattle.file_heap.proofs.Effects.{on_ok}
use Rattle.adf_format.specs.Placement.{NodeParts}
use Rattle.adf_format.specs.HeapRule.{payload_length}
use Rattle.adf_model.specs.declared.error.AdfError.TheVariants as error
use Rattle.adf_data.specs.declared.chunks.Chunk.{Chunk}
use Rattle.adf_data.specs.Chunks.{part_of, parts_of, Named, NoneNamed}
use Rattle.adf_data.specs.Sizes.{extents_in, Ungivable}
use Rattle.adf_data.specs.Growing.{changed_ranges, Owns, WaitsToGrow}
use Rattle.adf_data.proofs.HeapWords.{grow_later, grown_later}
use Rattle.adf_data.proofs.SizeLaws.{owns_named, too_short, unowned, full_for, sized_bytes, cleared_bytes, all_resize, all_cleared, same_refusal}
use Rattle.adf_data.proofs.BlockLaws.{counted_data}
use Rattle.cg_io.specs.Waits.{how_many}
use Rattle.std.proofs.lemmas.List.{length-map}
use Rattle.field_access.proofs.WaitLaws.{waits_same}
use Rattle.adf_data.proofs.WaitLaws.{named_waits, cleared_waits}
use Rattle.adf_data.proofs.sizes.resize.Goals as goal

pub returns-in-Err-clause-cause : goal.returns-in-Err-clause-cause
returns-in-Err-clause-cause g c =
    grow_later (NoneNamed c.args.at.now (g.S.ReadBytes.image c.args.space.now)) ((parts : NodeParts) (bytes : Option (List ℕ)) → Owns c.args.at.now c.args.old parts bytes c.args.heap.now.work.heap (g.S.ReadBytes.image c.args.space.now) → ⊥) (g.S.ReadBytes.state c.args.space.now).faults (g.S.ReadBytes.state c.args.space.now).faults (g.S.ReadBytes.state c.list_chunks.new.space).faults c.in-Err.error (omega arith)
    (λ none parts bytes own. none parts (owns_named c.args.at.now c.args.old parts bytes c.args.heap.now.work.heap (g.S.ReadBytes.image c.args.space.now) own)) c.in-Err.ensures.cause

pub returns-then-have-old-clause-cause : goal.returns-then-have-old-clause-cause
returns-then-have-old-clause-cause g c =
    ((omega arith, omega arith), too_short c.args.at.now c.deref.result.now c.table_in-table.result (g.S.ReadBytes.image c.args.space.now) (g.S.ReadBytes.image c.list_chunks.new.space) c.list_chunks.ensures.image (subst (λ (cs : List Chunk). (parts : NodeParts) → Named c.args.at.now parts (g.S.ReadBytes.image c.args.space.now) → parts_of cs ≡ parts.chunks) (sym c.deref.ensures.value) c.in-Ok.ensures.says) (λ q m. c.table_in-table.ensures.says q (g.S.ReadBytes.image c.args.space.now) m) c.args.old c.args.heap.now.work.heap c.payload_total-have.result c.payload_total-have.ensures c.if-have-old.true)

pub returns-then-new-have-clause-resized : goal.returns-then-new-have-clause-resized
returns-then-new-have-clause-resized g c =
    on_ok c.clear_between.result
    (λ z. all_cleared c.args.at.now c.deref-then-new-have.result.now c.table_in-table.result (g.S.ReadBytes.image c.args.space.now) (g.S.ReadBytes.image c.list_chunks.new.space) c.list_chunks.ensures.image (subst (λ (cs : List Chunk). (parts : NodeParts) → Named c.args.at.now parts (g.S.ReadBytes.image c.args.space.now) → parts_of cs ≡ parts.chunks) (sym c.deref-then-new-have.ensures.value) c.in-Ok.ensures.says) (λ q m. c.table_in-table.ensures.says q (g.S.ReadBytes.image c.args.space.now) m) c.args.old c.args.heap.now.work c.args.heap.now.limit c.args.new (g.S.ReadBytes.image c.clear_between.new.space)
    c.requires.size.0 (subst (λ (cs : List Chunk). c.args.new ≤ payload_length (parts_of cs)) (c.deref.ensures.value ∙ sym c.deref-then-new-have.ensures.value) (let h = c.payload_total-have.ensures in let n = c.if-new-have.true in omega (arith, h, n))) c.requires.threads z)
    c.clear_between.ensures.zeroed

pub returns-then-new-have-clause-bytes : goal.returns-then-new-have-clause-bytes
returns-then-new-have-clause-bytes g c =
    sized_bytes c.args.at.now c.deref-then-new-have.result.now c.table_in-table.result (g.S.ReadBytes.image c.args.space.now) (g.S.ReadBytes.image c.list_chunks.new.space) c.list_chunks.ensures.image (subst (λ (cs : List Chunk). (parts : NodeParts) → Named c.args.at.now parts (g.S.ReadBytes.image c.args.space.now) → parts_of cs ≡ parts.chunks) (sym c.deref-then-new-have.ensures.value) c.in-Ok.ensures.says) (λ q m. c.table_in-table.ensures.says q (g.S.ReadBytes.image c.args.space.now) m) c.args.old c.args.heap.now.work.heap c.args.heap.now.work.heap (g.S.ReadBytes.image c.clear_between.new.space)
    (cleared_bytes c.args.at.now c.deref-then-new-have.result.now c.table_in-table.result (g.S.ReadBytes.image c.args.space.now) (g.S.ReadBytes.image c.list_chunks.new.space) c.list_chunks.ensures.image (subst (λ (cs : List Chunk). (parts : NodeParts) → Named c.args.at.now parts (g.S.ReadBytes.image c.args.space.now) → parts_of cs ≡ parts.chunks) (sym c.deref-then-new-have.ensures.value) c.in-Ok.ensures.says) (λ q m. c.table_in-table.ensures.says q (g.S.ReadBytes.image c.args.space.now) m) c.args.old c.args.heap.now.work.heap c.args.new (g.S.ReadBytes.image c.clear_between.new.space)
    (subst (λ (cs : List Chunk). c.args.old + (c.args.new - c.args.old) ≤ payload_length (parts_of cs)) (c.deref.ensures.value ∙ sym c.deref-then-new-have.ensures.value) (let h = c.payload_total-have.ensures in let n = c.if-new-have.true in let o = c.if-have-old.false in omega (arith, h, n, o))) c.clear_between.ensures.bytes)

pub returns-in-Ok-grow-clause-resized : goal.returns-in-Ok-grow-clause-resized
returns-in-Ok-grow-clause-resized g c =
    all_resize c.args.at.now c.deref-2.result.now c.table_in-table.result (g.S.ReadBytes.image c.args.space.now) (g.S.ReadBytes.image c.list_chunks.new.space) c.list_chunks.ensures.image (subst (λ (cs : List Chunk). (parts : NodeParts) → Named c.args.at.now parts (g.S.ReadBytes.image c.args.space.now) → parts_of cs ≡ parts.chunks) (sym c.deref-2.ensures.value) c.in-Ok.ensures.says) (λ q m. c.table_in-table.ensures.says q (g.S.ReadBytes.image c.args.space.now) m) c.args.old c.args.heap.now.work.heap c.args.heap.now.limit c.args.new c.in-Ok-grow.now c.grow.new.heap.work (g.S.ReadBytes.image c.grow.new.space) c.in-Ok-grow.ensures.grows

pub returns-in-Ok-grow-clause-bytes : goal.returns-in-Ok-grow-clause-bytes
returns-in-Ok-grow-clause-bytes g c = sized_bytes c.args.at.now c.deref-2.result.now c.table_in-table.result (g.S.ReadBytes.image c.args.space.now) (g.S.ReadBytes.image c.list_chunks.new.space) c.list_chunks.ensures.image (subst (λ (cs : List Chunk). (parts : NodeParts) → Named c.args.at.now parts (g.S.ReadBytes.image c.args.space.now) → parts_of cs ≡ parts.chunks) (sym c.deref-2.ensures.value) c.in-Ok.ensures.says) (λ q m. c.table_in-table.ensures.says q (g.S.ReadBytes.image c.args.space.now) m) c.args.old c.args.heap.now.work.heap c.grow.new.heap.work.heap (g.S.ReadBytes.image c.grow.new.space) c.grow.ensures.bytes

pub returns-clause-bytes : goal.returns-clause-bytes
returns-clause-bytes g c = sized_bytes c.args.at.now c.deref-2.result.now c.table_in-table.result (g.S.ReadBytes.image c.args.space.now) (g.S.ReadBytes.image c.list_chunks.new.space) c.list_chunks.ensures.image (subst (λ (cs : List Chunk). (parts : NodeParts) → Named c.args.at.now parts (g.S.ReadBytes.image c.args.space.now) → parts_of cs ≡ parts.chunks) (sym c.deref-2.ensures.value) c.in-Ok.ensures.says) (λ q m. c.table_in-table.ensures.says q (g.S.ReadBytes.image c.args.space.now) m) c.args.old c.args.heap.now.work.heap c.grow.new.heap.work.heap (g.S.ReadBytes.image c.grow.new.space) c.grow.ensures.bytes

pub returns-clause-exact : goal.returns-clause-exact
returns-clause-exact g c = λ asked end e.
    full_for c.args.at.now c.deref-2.result.now c.table_in-table.result (g.S.ReadBytes.image c.args.space.now) (g.S.ReadBytes.image c.list_chunks.new.space) c.list_chunks.ensures.image (subst (λ (cs : List Chunk). (parts : NodeParts) → Named c.args.at.now parts (g.S.ReadBytes.image c.args.space.now) → parts_of cs ≡ parts.chunks) (sym c.deref-2.ensures.value) c.in-Ok.ensures.says) (λ q m. c.table_in-table.ensures.says q (g.S.ReadBytes.image c.args.space.now) m) c.args.old c.args.heap.now.work.heap c.args.heap.now.limit c.args.new (record { asked = asked; end = end }) (c.in-Err-grow.ensures.full asked end (same_refusal c.in-Err-grow.error (error.Full asked end) e))

pub returns-clause-cause : goal.returns-clause-cause
returns-clause-cause g c =
    grown_later (Ungivable (g.S.ReadBytes.image c.list_chunks.new.space) (extents_in c.table_in-table.result (parts_of c.deref-2.result.now)) c.args.heap.now.work.heap) ((parts : NodeParts) (bytes : Option (List ℕ)) → Owns c.args.at.now c.args.old parts bytes c.args.heap.now.work.heap (g.S.ReadBytes.image c.args.space.now) → ⊥) (g.S.ReadBytes.state c.args.space.now).faults (g.S.ReadBytes.state c.list_chunks.new.space).faults (g.S.ReadBytes.state c.grow.new.space).faults c.in-Err-grow.error c.list_chunks.ensures.effect.faults
    (unowned c.args.at.now c.deref-2.result.now c.table_in-table.result (g.S.ReadBytes.image c.args.space.now) (g.S.ReadBytes.image c.list_chunks.new.space) c.list_chunks.ensures.image (subst (λ (cs : List Chunk). (parts : NodeParts) → Named c.args.at.now parts (g.S.ReadBytes.image c.args.space.now) → parts_of cs ≡ parts.chunks) (sym c.deref-2.ensures.value) c.in-Ok.ensures.says) (λ q m. c.table_in-table.ensures.says q (g.S.ReadBytes.image c.args.space.now) m) c.args.old c.args.heap.now.work.heap) c.in-Err-grow.ensures.cause

pub returns-then-new-have-clause-waits : goal.returns-then-new-have-clause-waits
returns-then-new-have-clause-waits g c =
    let z = counted_data (parts_of c.deref-then-new-have.result.now) c.args.old (c.args.new - c.args.old) (g.S.ReadBytes.waiting c.list_chunks.new.space) (g.S.ReadBytes.waiting c.clear_between.new.space) c.clear_between.ensures.only in
    let m = length-map c.deref-then-new-have.result.now part_of in let k = ap length c.deref-then-new-have.ensures.value ∙ c.in-Ok.ensures.count in let s = ap how_many c.list_chunks.ensures.waits in
    on_ok c.clear_between.result (λ _. ((λ few. omega (arith, z, m, k, s)), omega (arith, z, m, k, s))) c.clear_between.ensures.zeroed

pub returns-in-Ok-grow-clause-waits : goal.returns-in-Ok-grow-clause-waits
returns-in-Ok-grow-clause-waits g c =
    subst (λ (blocks : List ℕ). WaitsToGrow c.args.at.now.count c.args.old c.args.new blocks (g.S.ReadBytes.waiting c.grow.new.space)) c.list_chunks.ensures.waits
    (subst (λ n. WaitsToGrow n c.args.old c.args.new (g.S.ReadBytes.waiting c.list_chunks.new.space) (g.S.ReadBytes.waiting c.grow.new.space)) (ap length c.deref-2.ensures.value ∙ c.in-Ok.ensures.count) c.in-Ok-grow.ensures.waits)

pub returns-in-Err-clause-only : goal.returns-in-Err-clause-only
returns-in-Err-clause-only g c = λ parts n. waits_same _ (g.S.ReadBytes.waiting c.args.space.now) (g.S.ReadBytes.waiting c.list_chunks.new.space) c.list_chunks.ensures.waits

pub returns-then-have-old-clause-only : goal.returns-then-have-old-clause-only
returns-then-have-old-clause-only g c = λ parts n. waits_same _ (g.S.ReadBytes.waiting c.args.space.now) (g.S.ReadBytes.waiting c.list_chunks.new.space) c.list_chunks.ensures.waits

pub returns-then-new-have-clause-only : goal.returns-then-new-have-clause-only
returns-then-new-have-clause-only g c =
    named_waits c.args.at.now c.deref-then-new-have.result.now c.table_in-table.result (g.S.ReadBytes.image c.args.space.now) (g.S.ReadBytes.image c.list_chunks.new.space) c.list_chunks.ensures.image (subst (λ (cs : List Chunk). (parts : NodeParts) → Named c.args.at.now parts (g.S.ReadBytes.image c.args.space.now) → parts_of cs ≡ parts.chunks) (sym c.deref-then-new-have.ensures.value) c.in-Ok.ensures.says)
    (λ q m. c.table_in-table.ensures.says q (g.S.ReadBytes.image c.args.space.now) m) (λ es. changed_ranges es c.args.heap.now.work.heap c.args.heap.now.work.heap) (g.S.ReadBytes.waiting c.args.space.now) (g.S.ReadBytes.waiting c.list_chunks.new.space) (g.S.ReadBytes.waiting c.clear_between.new.space) c.list_chunks.ensures.waits
    (cleared_waits c.table_in-table.result (parts_of c.deref-then-new-have.result.now) c.args.heap.now.work.heap c.args.old (c.args.new - c.args.old) (g.S.ReadBytes.image c.list_chunks.new.space) (g.S.ReadBytes.waiting c.list_chunks.new.space) (g.S.ReadBytes.waiting c.clear_between.new.space) c.clear_between.ensures.only)

pub returns-in-Ok-grow-clause-only : goal.returns-in-Ok-grow-clause-only
returns-in-Ok-grow-clause-only g c =
    named_waits c.args.at.now c.deref-2.result.now c.table_in-table.result (g.S.ReadBytes.image c.args.space.now) (g.S.ReadBytes.image c.list_chunks.new.space) c.list_chunks.ensures.image (subst (λ (cs : List Chunk). (parts : NodeParts) → Named c.args.at.now parts (g.S.ReadBytes.image c.args.space.now) → parts_of cs ≡ parts.chunks) (sym c.deref-2.ensures.value) c.in-Ok.ensures.says)
    (λ q m. c.table_in-table.ensures.says q (g.S.ReadBytes.image c.args.space.now) m) (λ es. changed_ranges es c.args.heap.now.work.heap c.grow.new.heap.work.heap) (g.S.ReadBytes.waiting c.args.space.now) (g.S.ReadBytes.waiting c.list_chunks.new.space) (g.S.ReadBytes.waiting c.grow.new.space) c.list_chunks.ensures.waits c.grow.ensures.only

pub returns-clause-only : goal.returns-clause-only
returns-clause-only g c =
    named_waits c.args.at.now c.deref-2.result.now c.table_in-table.result (g.S.ReadBytes.image c.args.space.now) (g.S.ReadBytes.image c.list_chunks.new.space) c.list_chunks.ensures.image (subst (λ (cs : List Chunk). (parts : NodeParts) → Named c.args.at.now parts (g.S.ReadBytes.image c.args.space.now) → parts_of cs ≡ parts.chunks) (sym c.deref-2.ensures.value) c.in-Ok.ensures.says)
    (λ q m. c.table_in-table.ensures.says q (g.S.ReadBytes.image c.args.space.now) m) (λ es. changed_ranges es c.args.heap.now.work.heap c.grow.new.heap.work.heap) (g.S.ReadBytes.waiting c.args.space.now) (g.S.ReadBytes.waiting c.list_chunks.new.space) (g.S.ReadBytes.waiting c.grow.new.space) c.list_chunks.ensures.waits c.grow.ensures.only
