use Rattle.std.proofs.Common.{◌≡◌, ◌^◌, List, length, ap, ◌∙◌, arith, sym, subst}
use Rattle.std.specs.List.{All}
use Rattle.cg_io.specs.Blocks.{Both}
use Rattle.adf_format.specs.Placement.{NodeParts}
use Rattle.adf_format.specs.HeapRule.{payload_length}
use Rattle.adf_model.specs.declared.lists.Run.{Run}
use Rattle.adf_data.specs.declared.chunks.Chunk.{Chunk}
use Rattle.adf_data.specs.Chunks.{part_of, parts_of, Named, NoneNamed}
use Rattle.adf_data.specs.Runs.{EndsIn, NoRuns, WritesRuns}
use Rattle.file_heap.proofs.Effects.{on_ok}
use Rattle.cg_io.proofs.ReadLaws.{refused_for, all_refused_later}
use Rattle.adf_data.proofs.DataLaws.{unnamed_runs, unread_runs}
use Rattle.adf_data.proofs.StayLaws.{elements_written, alone_changes}
use Rattle.adf_data.proofs.BlockLaws.{counted_data}
use Rattle.cg_io.specs.Waits.{how_many}
use Rattle.std.proofs.lemmas.List.{length-map}
use Rattle.field_access.proofs.WaitLaws.{waits_same}
use Rattle.adf_data.proofs.WaitLaws.{alone_waits}
use Rattle.adf_data.proofs.runs.write_runs.Goals as goal

pub returns-in-Err-clause-cause : goal.returns-in-Err-clause-cause
returns-in-Err-clause-cause g c =
    refused_for (NoneNamed c.args.at.now (g.S.ReadBytes.image c.args.space.now)) (NoRuns c.args.at.now c.args.element c.args.runs.now (g.S.ReadBytes.image c.args.space.now)) (g.S.ReadBytes.state c.args.space.now).faults (g.S.ReadBytes.state c.list_chunks.new.space).faults
    c.in-Err.error (unnamed_runs c.args.at.now c.args.element c.args.runs.now (g.S.ReadBytes.image c.args.space.now)) c.in-Err.ensures.cause

pub returns-clause-written : goal.returns-clause-written
returns-clause-written g c =
    on_ok c.write_bytes.result
    (λ w. elements_written c.args.at.now c.deref.result.now c.args.element c.args.runs.now c.args.bytes.now (g.S.ReadBytes.image c.args.space.now) (g.S.ReadBytes.image c.list_chunks.new.space) (g.S.ReadBytes.image c.write_bytes.new.space) c.list_chunks.ensures.image
    (subst (λ (cs : List Chunk). (parts : NodeParts) → Named c.args.at.now parts (g.S.ReadBytes.image c.args.space.now) → parts_of cs ≡ parts.chunks) (sym c.deref.ensures.value) c.in-Ok.ensures.says)
    (subst (λ (rs : List Run). Both (WritesRuns (parts_of c.deref.result.now) c.args.element rs c.args.bytes.now) (g.S.ReadBytes.image c.list_chunks.new.space) (g.S.ReadBytes.image c.write_bytes.new.space)) c.items.ensures w))
    c.write_bytes.ensures.written

pub returns-clause-alone : goal.returns-clause-alone
returns-clause-alone g c =
    alone_changes c.args.at.now c.deref.result.now (g.S.ReadBytes.image c.args.space.now) (g.S.ReadBytes.image c.list_chunks.new.space) (g.S.ReadBytes.image c.write_bytes.new.space) c.list_chunks.ensures.image
    (subst (λ (cs : List Chunk). (parts : NodeParts) → Named c.args.at.now parts (g.S.ReadBytes.image c.args.space.now) → parts_of cs ≡ parts.chunks) (sym c.deref.ensures.value) c.in-Ok.ensures.says) c.write_bytes.ensures.changes

pub returns-clause-cause : goal.returns-clause-cause
returns-clause-cause g c =
    all_refused_later (All (EndsIn c.args.element (payload_length (parts_of c.deref.result.now))) c.items.result.now → ⊥) (NoRuns c.args.at.now c.args.element c.args.runs.now (g.S.ReadBytes.image c.args.space.now))
    (g.S.ReadBytes.state c.args.space.now).faults (g.S.ReadBytes.state c.list_chunks.new.space).faults (g.S.ReadBytes.state c.write_bytes.new.space).faults c.write_bytes.result c.list_chunks.ensures.effect.faults
    (λ none. unread_runs c.args.at.now c.args.element c.args.runs.now c.deref.result.now (g.S.ReadBytes.image c.args.space.now)
    (subst (λ (cs : List Chunk). (parts : NodeParts) → Named c.args.at.now parts (g.S.ReadBytes.image c.args.space.now) → parts_of cs ≡ parts.chunks) (sym c.deref.ensures.value) c.in-Ok.ensures.says)
    (λ all. none (subst (All (EndsIn c.args.element (payload_length (parts_of c.deref.result.now)))) (sym c.items.ensures) all)))
    c.write_bytes.ensures.cause

pub returns-clause-waits : goal.returns-clause-waits
returns-clause-waits g c = λ limit ends.
    let z = counted_data (parts_of c.deref.result.now) 0 limit (g.S.ReadBytes.waiting c.list_chunks.new.space) (g.S.ReadBytes.waiting c.write_bytes.new.space) (c.write_bytes.ensures.only limit (subst (All (EndsIn c.args.element limit)) (sym c.items.ensures) ends)) in
    let m = length-map c.deref.result.now part_of in let k = ap length c.deref.ensures.value ∙ c.in-Ok.ensures.count in let s = ap how_many c.list_chunks.ensures.waits in omega (arith, z, m, k, s)

pub returns-in-Err-clause-only : goal.returns-in-Err-clause-only
returns-in-Err-clause-only g c = λ parts n. waits_same _ (g.S.ReadBytes.waiting c.args.space.now) (g.S.ReadBytes.waiting c.list_chunks.new.space) c.list_chunks.ensures.waits

pub returns-clause-only : goal.returns-clause-only
returns-clause-only g c =
    alone_waits c.args.at.now c.deref.result.now (g.S.ReadBytes.image c.args.space.now) (subst (λ (cs : List Chunk). (parts : NodeParts) → Named c.args.at.now parts (g.S.ReadBytes.image c.args.space.now) → parts_of cs ≡ parts.chunks) (sym c.deref.ensures.value) c.in-Ok.ensures.says)
    (2 ^ 30) (g.S.ReadBytes.waiting c.args.space.now) (g.S.ReadBytes.waiting c.list_chunks.new.space) (g.S.ReadBytes.waiting c.write_bytes.new.space) c.list_chunks.ensures.waits (c.write_bytes.ensures.only (2 ^ 30) (subst (All (EndsIn c.args.element (2 ^ 30))) (sym c.items.ensures) c.requires.small))
