use Rattle.std.proofs.Common.{◌+◌, ◌*◌, ◌∙◌, ap, false, length, map, refl, subst, sym}
use Rattle.std.specs.Map.{keys_of}
use Rattle.std.specs.Prelude.{IfSome, None}
use Rattle.tree_edits.specs.declared.memory.Core.{Core}
use Rattle.adf_tree.specs.declared.file.AdfFile.{AdfFile}
use Rattle.adf_format.specs.LaysOut.{ThreadsFreeChunks}
use Rattle.adf_model.specs.Counts.{OnlyReads}
use Rattle.adf_model.specs.Steps.{Stored}
use Rattle.block_cache.specs.Cache.{device_in}
use Rattle.block_draft.specs.Draft.{blocks_below, shown_in}
use Rattle.cg_io.specs.Answers.{IsRefusal, IsUntold}
use Rattle.cg_io.specs.Blocks.{ReadsFew}
use Rattle.layout_lint.specs.Walks.{node_place}
use Rattle.cg_io.proofs.ReadLaws.{few_only, only_none}
use Rattle.adf_tree.proofs.OpenedFile.{all_rows_of, lacks_memory, refused_with, shape_heap, stored_file, stored_stands, unread_refused, verdict_threads}
use Rattle.adf_tree.proofs.OpenedReads.{none_listed, some_listed}
use Rattle.adf_tree.proofs.opening.opened.Goals as goal

pub new-requires-clause-heap : goal.new-requires-clause-heap
new-requires-clause-heap g c = shape_heap _ _ _ _ c.requires.shape

pub new-requires-clause-threads : goal.new-requires-clause-threads
new-requires-clause-threads g c =
    let v = c.args.verdict in
    subst (λ held. IfSome held (λ bytes. ThreadsFreeChunks bytes v.gaps)) (sym c.new-draft.ensures.image)
    (verdict_threads (g.D.Device.state (device_in c.args.cache)).held v.nodes v.gaps v.end v.wide c.requires.verdict)

pub returns-clause-sound : goal.returns-clause-sound
returns-clause-sound g c =
    let state = g.D.Device.state in
    let v = c.args.verdict in
    let r = c.in-Ok-new.ensures.reads in
    stored_file state (state (device_in c.args.cache)) _ v.nodes v.gaps v.end c.args.limit r.sound (r.bytes ∙ c.new-draft.ensures.image) (r.waits ∙ ap keys_of c.new-draft.ensures.empty)
    (subst (λ cache. OnlyReads (state (device_in cache)) (state (device_in (blocks_below c.new.new.space)))) c.new-draft.ensures.blocks (few_only _ _ _ r.effect))
    c.no_steps.ensures refl c.in-Ok-new.ensures.ok c.in-Ok-new.ensures.accepted c.in-Ok-new.ensures.limit (all_rows_of _ _ v.nodes c.items.ensures c.in-Ok.ensures.rows) c.in-Ok-new.ensures.threads c.requires.shape c.requires.verdict c.no_names.ensures

pub returns-clause-opened : goal.returns-clause-opened
returns-clause-opened g c =
    let state = g.D.Device.state in
    let v = c.args.verdict in
    let r = c.in-Ok-new.ensures.reads in
    let core : Core = record { heap = c.in-Ok-new.heap; rows = c.in-Ok.rows; wide = v.wide; writable = c.args.writable } in
    let file : AdfFile g.row.D.Denot = record { draft = c.new.new.space; core = core; hints = None; names = c.no_names.result; steps = c.no_steps.result; broken = false; alloc = c.args.alloc } in
    stored_stands state (state (device_in c.args.cache)) file v.nodes v.gaps v.end c.args.limit r.sound (r.bytes ∙ c.new-draft.ensures.image) (r.waits ∙ ap keys_of c.new-draft.ensures.empty)
    (subst (λ cache. OnlyReads (state (device_in cache)) (state (device_in (blocks_below c.new.new.space)))) c.new-draft.ensures.blocks (few_only _ _ _ r.effect))
    c.no_steps.ensures refl c.in-Ok-new.ensures.ok c.in-Ok-new.ensures.accepted c.in-Ok-new.ensures.limit (all_rows_of _ _ v.nodes c.items.ensures c.in-Ok.ensures.rows) c.in-Ok-new.ensures.threads c.requires.shape c.requires.verdict

pub returns-in-Err-clause-refused : goal.returns-in-Err-clause-refused
returns-in-Err-clause-refused g c =
    let state = g.D.Device.state in
    refused_with (Stored c.args.writable) _ (state (device_in c.args.cache)) _ c.in-Err.error _ (ap state c.refused.ensures.device) c.refused.ensures.error
    (lacks_memory (Stored c.args.writable) _ _ c.in-Err.error c.in-Err.ensures.cause (only_none (state (device_in c.args.cache))))

pub returns-in-Err-new-clause-refused : goal.returns-in-Err-new-clause-refused
returns-in-Err-new-clause-refused g c =
    let state = g.D.Device.state in
    let r = c.in-Err-new.ensures.reads in
    let below = state (device_in (blocks_below c.new.new.space)) in
    refused_with (Stored c.args.writable) _ below _ c.in-Err-new.error _
    (ap state c.refused-in-Err-new.ensures.device ∙ ap (λ cache. state (device_in cache)) c.into_blocks.ensures) c.refused-in-Err-new.ensures.error
    (unread_refused c.args.writable (state (device_in c.args.cache)) below _ c.in-Err-new.error c.new-draft.ensures.image
    (subst (λ cache. OnlyReads (state (device_in cache)) below) c.new-draft.ensures.blocks (few_only _ _ _ r.effect))
    (subst (λ cache. IsRefusal (IsUntold (shown_in (λ inner. state (device_in inner)) c.new-draft.result)) (state (device_in cache)).faults below.faults c.in-Err-new.error) c.new-draft.ensures.blocks r.cause))

pub returns-in-Err-clause-bound : goal.returns-in-Err-clause-bound
returns-in-Err-clause-bound g c =
    let state = g.D.Device.state in
    none_listed (state (device_in c.args.cache)) _ (ap state c.refused.ensures.device)

pub returns-in-Err-new-clause-bound : goal.returns-in-Err-new-clause-bound
returns-in-Err-new-clause-bound g c =
    let state = g.D.Device.state in
    let v = c.args.verdict in
    let below = state (device_in (blocks_below c.new.new.space)) in
    some_listed (state (device_in c.args.cache)) below _ v.nodes v.gaps v.end v.wide c.requires.verdict (map node_place v.nodes) c.requires.shape
    (ap state c.refused-in-Err-new.ensures.device ∙ ap (λ cache. state (device_in cache)) c.into_blocks.ensures)
    (subst (λ cache. ReadsFew (2 * (length v.gaps + 3)) (state (device_in cache)) below) c.new-draft.ensures.blocks c.in-Err-new.ensures.reads.effect)
