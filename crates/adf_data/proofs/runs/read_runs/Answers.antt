use Rattle.std.proofs.Common.{◌≡◌, ℕ, List, length, ◌∙◌, ap, sym, subst}
use Rattle.std.specs.Prelude.{Option}
use Rattle.adf_format.specs.Placement.{NodeParts}
use Rattle.adf_model.specs.declared.lists.Run.{Run}
use Rattle.adf_data.specs.declared.chunks.Chunk.{Chunk}
use Rattle.std.specs.List.{All}
use Rattle.adf_format.specs.HeapRule.{payload_length}
use Rattle.adf_data.specs.Chunks.{parts_of, Named, NoneNamed}
use Rattle.adf_data.specs.Runs.{EndsIn, NoRuns, RunsRead, run_bytes}
use Rattle.cg_io.proofs.ReadLaws.{refused_for, refused_later}
use Rattle.adf_data.proofs.WriteLaws.{bytes_of_spread}
use Rattle.adf_data.proofs.DataLaws.{unnamed_runs, unread_runs, elements_read}
use Rattle.adf_data.proofs.runs.read_runs.Goals as goal

pub returns-in-Err-clause-cause : goal.returns-in-Err-clause-cause
returns-in-Err-clause-cause g c =
    refused_for (NoneNamed c.args.at.now (g.S.ReadBytes.image c.args.space.now)) (NoRuns c.args.at.now c.args.element c.args.runs.now (g.S.ReadBytes.image c.args.space.now)) (g.S.ReadBytes.state c.args.space.now).faults (g.S.ReadBytes.state c.list_chunks.new.space).faults
    c.in-Err.error (unnamed_runs c.args.at.now c.args.element c.args.runs.now (g.S.ReadBytes.image c.args.space.now)) c.in-Err.ensures.cause

pub read_text-requires-clause-few : goal.read_text-requires-clause-few
read_text-requires-clause-few g c = rw c.deref.ensures.value c.in-Ok.ensures.few

pub returns-in-Ok-read_text-clause-read : goal.returns-in-Ok-read_text-clause-read
returns-in-Ok-read_text-clause-read g c = λ parts data' h all.
    c.new.ensures ∙ elements_read c.args.at.now c.deref.result.now c.args.element c.args.runs.now c.in-Ok-read_text.text.items (g.S.ReadBytes.image c.args.space.now)
    (subst (λ (cs : List Chunk). (parts : NodeParts) → Named c.args.at.now parts (g.S.ReadBytes.image c.args.space.now) → parts_of cs ≡ parts.chunks) (sym c.deref.ensures.value) c.in-Ok.ensures.says)
    (subst (λ (i : Option (List ℕ)). RunsRead (parts_of c.deref.result.now) c.args.element c.args.runs.now c.in-Ok-read_text.text.items i) c.list_chunks.ensures.image
    (subst (λ (rs : List Run). RunsRead (parts_of c.deref.result.now) c.args.element rs c.in-Ok-read_text.text.items (g.S.ReadBytes.image c.list_chunks.new.space)) c.items.ensures c.in-Ok-read_text.ensures.read))
    parts data' h all

pub returns-in-Ok-read_text-clause-long : goal.returns-in-Ok-read_text-clause-long
returns-in-Ok-read_text-clause-long g c =
    ap length c.new.ensures ∙ c.in-Ok-read_text.ensures.long ∙ ap (run_bytes c.args.element) c.items.ensures ∙ sym (bytes_of_spread c.args.element c.args.runs.now)

pub returns-clause-cause : goal.returns-clause-cause
returns-clause-cause g c =
    refused_later (All (EndsIn c.args.element (payload_length (parts_of c.deref.result.now))) c.items.result.now → ⊥) (NoRuns c.args.at.now c.args.element c.args.runs.now (g.S.ReadBytes.image c.args.space.now))
    (g.S.ReadBytes.state c.args.space.now).faults (g.S.ReadBytes.state c.list_chunks.new.space).faults (g.S.ReadBytes.state c.read_text.new.space).faults c.in-Err-read_text.error c.list_chunks.ensures.effect.faults
    (λ none. unread_runs c.args.at.now c.args.element c.args.runs.now c.deref.result.now (g.S.ReadBytes.image c.args.space.now)
    (subst (λ (cs : List Chunk). (parts : NodeParts) → Named c.args.at.now parts (g.S.ReadBytes.image c.args.space.now) → parts_of cs ≡ parts.chunks) (sym c.deref.ensures.value) c.in-Ok.ensures.says)
    (λ all. none (subst (All (EndsIn c.args.element (payload_length (parts_of c.deref.result.now)))) (sym c.items.ensures) all)))
    c.in-Err-read_text.ensures.cause
