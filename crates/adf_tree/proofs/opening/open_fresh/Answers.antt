use Rattle.std.proofs.Common.{◌∙◌, ap, arith, false, refl, subst, sym}
use Rattle.std.specs.Map.{keys_of}
use Rattle.std.specs.Option.{option_map}
use Rattle.std.specs.Prelude.{IfSome, None}
use Rattle.adf_tree.specs.declared.file.AdfFile.{AdfFile}
use Rattle.adf_format.specs.Fresh.{fresh_block, fresh_placement}
use Rattle.adf_format.specs.Tree.{fresh_tree}
use Rattle.adf_model.specs.Steps.{Fresh}
use Rattle.adf_model.specs.declared.error.AdfError.TheVariants as error
use Rattle.block_cache.specs.Cache.{device_in}
use Rattle.block_draft.specs.Draft.{blocks_below, changes_in, shown_in}
use Rattle.cg_io.specs.Answers.{IsUntold, OnlyReads}
use Rattle.cg_io.specs.Blocks.{ReadsFew}
use Rattle.cg_io.specs.Waits.{how_many}
use Rattle.cg_io.proofs.ReadLaws.{few_only, reads_then}
use Rattle.tree_edits.specs.Edits.{memory_of}
use Rattle.tree_edits.specs.Rows.{Means}
use Rattle.adf_tree.specs.Fresh.{IsFreshCause}
use Rattle.adf_tree.specs.Opening.{IsEmpty}
use Rattle.adf_tree.proofs.FreshFile.{empty_same, fresh_file, fresh_opens, fresh_refused, not_empty_refused, torn_refused}
use Rattle.adf_tree.proofs.OpenedFile.{refused_with}
use Rattle.adf_tree.proofs.OpenedReads.{fresh_within}
use Rattle.adf_tree.proofs.opening.open_fresh.Goals as goal

pub fresh_core-requires-clause-empty : goal.fresh_core-requires-clause-empty
fresh_core-requires-clause-empty g c =
    let state = g.D.Device.state in
    subst IsEmpty (sym c.new-draft.ensures.image)
    (empty_same (state (device_in c.args.cache)).held (state (device_in c.check_empty.new.cache)).held c.check_empty.ensures.effect.held c.in-Ok.ensures.empty)

pub returns-in-Err-clause-refused : goal.returns-in-Err-clause-refused
returns-in-Err-clause-refused g c =
    let state = g.D.Device.state in
    let old = state (device_in c.args.cache) in
    let new = state (device_in c.check_empty.new.cache) in
    refused_with (Fresh c.args.wide) old new _ c.in-Err.error _ (ap state c.refused.ensures.device) c.refused.ensures.error
    (not_empty_refused c.args.wide old new c.in-Err.error (few_only _ _ _ c.check_empty.ensures.effect) c.in-Err.ensures.cause)

pub returns-in-Err-fresh_core-clause-refused : goal.returns-in-Err-fresh_core-clause-refused
returns-in-Err-fresh_core-clause-refused g c =
    let state = g.D.Device.state in
    let old = state (device_in c.args.cache) in
    let mid = state (device_in c.check_empty.new.cache) in
    let new = state (device_in (blocks_below c.fresh_core.new.space)) in
    let w = c.in-Err-fresh_core.ensures.writes in
    refused_with (Fresh c.args.wide) old new _ c.in-Err-fresh_core.error _
    (ap state c.refused-in-Err-fresh_core.ensures.device ∙ ap (λ cache. state (device_in cache)) c.into_blocks.ensures) c.refused-in-Err-fresh_core.ensures.error
    (fresh_refused c.args.wide old mid new c.in-Err-fresh_core.error (few_only _ _ _ c.check_empty.ensures.effect)
    (subst (λ cache. OnlyReads (state (device_in cache)) new) c.new-draft.ensures.blocks (few_only _ _ _ w.effect))
    _ (c.new-draft.ensures.image ∙ c.check_empty.ensures.effect.held)
    (subst (λ cache. IsFreshCause (IsUntold (shown_in (λ below. state (device_in below)) c.new-draft.result)) (state (device_in cache)).faults new.faults c.in-Err-fresh_core.error) c.new-draft.ensures.blocks w.cause))

pub returns-in-Ok-commit-clause-sound : goal.returns-in-Ok-commit-clause-sound
returns-in-Ok-commit-clause-sound g c =
    let state = g.D.Device.state in
    let old = state (device_in c.args.cache) in
    let mid = state (device_in (blocks_below c.fresh_core.new.space)) in
    let w = c.in-Ok-fresh_core.ensures.writes in
    let reads = subst (λ cache. ReadsFew 7 (state (device_in cache)) mid) c.new-draft.ensures.blocks w.effect in
    fresh_file state old mid _ c.args.wide c.args.limit _ (reads_then 1 7 8 _ _ _ c.check_empty.ensures.effect reads (omega arith)) c.in-Ok.ensures.empty
    c.in-Ok-fresh_core.ensures.core c.commit.ensures.empty c.no_steps.ensures refl c.commit.ensures.sound
    (c.in-Ok-commit.ensures.written ∙ c.in-Ok-fresh_core.ensures.image ∙ ap (option_map (λ none. fresh_block c.args.wide)) (c.new-draft.ensures.image ∙ sym reads.held))
    (subst (λ held. IfSome held (λ bytes. Means bytes (fresh_tree c.args.wide) (fresh_placement c.args.wide) (memory_of c.in-Ok-fresh_core.core))) (sym c.in-Ok-commit.ensures.written) c.in-Ok-fresh_core.ensures.means)
    c.commit.ensures.cause.later c.commit.ensures.lost.later c.commit.ensures.reads c.in-Ok-commit.ensures.count
    (omega (arith, c.commit.ensures.few, w.waits, ap (λ changes. how_many (keys_of changes)) c.new-draft.ensures.empty)) c.no_names.ensures

pub returns-in-Ok-commit-clause-opened : goal.returns-in-Ok-commit-clause-opened
returns-in-Ok-commit-clause-opened g c =
    let state = g.D.Device.state in
    let old = state (device_in c.args.cache) in
    let mid = state (device_in (blocks_below c.fresh_core.new.space)) in
    let w = c.in-Ok-fresh_core.ensures.writes in
    let reads = subst (λ cache. ReadsFew 7 (state (device_in cache)) mid) c.new-draft.ensures.blocks w.effect in
    let file : AdfFile g.row.D.Denot = record { draft = c.commit.new.self; core = c.in-Ok-fresh_core.core; hints = None; names = c.no_names.result; steps = c.no_steps.result; broken = false; alloc = c.args.alloc } in
    fresh_opens state old mid file c.args.wide c.args.limit _ (reads_then 1 7 8 _ _ _ c.check_empty.ensures.effect reads (omega arith)) c.in-Ok.ensures.empty
    c.in-Ok-fresh_core.ensures.core c.commit.ensures.empty c.no_steps.ensures refl c.commit.ensures.sound
    (c.in-Ok-commit.ensures.written ∙ c.in-Ok-fresh_core.ensures.image ∙ ap (option_map (λ none. fresh_block c.args.wide)) (c.new-draft.ensures.image ∙ sym reads.held))
    (subst (λ held. IfSome held (λ bytes. Means bytes (fresh_tree c.args.wide) (fresh_placement c.args.wide) (memory_of c.in-Ok-fresh_core.core))) (sym c.in-Ok-commit.ensures.written) c.in-Ok-fresh_core.ensures.means)
    c.commit.ensures.cause.later c.commit.ensures.lost.later c.commit.ensures.reads c.in-Ok-commit.ensures.count
    (omega (arith, c.commit.ensures.few, w.waits, ap (λ changes. how_many (keys_of changes)) c.new-draft.ensures.empty))

pub returns-in-Err-commit-clause-refused : goal.returns-in-Err-commit-clause-refused
returns-in-Err-commit-clause-refused g c =
    let state = g.D.Device.state in
    let old = state (device_in c.args.cache) in
    let mid = state (device_in (blocks_below c.fresh_core.new.space)) in
    let new = state (device_in (blocks_below c.commit.new.self)) in
    let w = c.in-Ok-fresh_core.ensures.writes in
    let reads = subst (λ cache. ReadsFew 7 (state (device_in cache)) mid) c.new-draft.ensures.blocks w.effect in
    refused_with (Fresh c.args.wide) old new _ error.WriteFault _
    (ap state c.refused-in-Err-commit.ensures.device ∙ ap (λ cache. state (device_in cache)) c.into_blocks-in-Err-commit.ensures) c.refused-in-Err-commit.ensures.error
    (torn_refused c.args.wide old mid new (changes_in c.fresh_core.new.space) (few_only _ _ _ (reads_then 1 7 8 _ _ _ c.check_empty.ensures.effect reads (omega arith))) c.in-Ok.ensures.empty
    (c.in-Ok-fresh_core.ensures.image ∙ ap (option_map (λ none. fresh_block c.args.wide)) (c.new-draft.ensures.image ∙ sym reads.held)) c.commit.ensures.ascend
    (omega (arith, w.waits, ap (λ changes. how_many (keys_of changes)) c.new-draft.ensures.empty))
    c.in-Err-commit.ensures.torn c.commit.ensures.few c.commit.ensures.reads
    c.commit.ensures.cause.later c.in-Err-commit.ensures.cause.failed c.commit.ensures.lost.later c.in-Err-commit.ensures.lost.failed)

pub returns-in-Err-clause-bound : goal.returns-in-Err-clause-bound
returns-in-Err-clause-bound g c =
    let state = g.D.Device.state in
    fresh_within c.args.wide (state (device_in c.args.cache)) (state (device_in c.check_empty.new.cache)) _ (ap state c.refused.ensures.device)
    (let one = c.check_empty.ensures.effect.few in omega (arith, one))

pub returns-in-Err-fresh_core-clause-bound : goal.returns-in-Err-fresh_core-clause-bound
returns-in-Err-fresh_core-clause-bound g c =
    let state = g.D.Device.state in
    let new = state (device_in (blocks_below c.fresh_core.new.space)) in
    fresh_within c.args.wide (state (device_in c.args.cache)) new _
    (ap state c.refused-in-Err-fresh_core.ensures.device ∙ ap (λ cache. state (device_in cache)) c.into_blocks.ensures)
    (
    let one = c.check_empty.ensures.effect.few in
    let more = (subst (λ cache. ReadsFew 7 (state (device_in cache)) new) c.new-draft.ensures.blocks c.in-Err-fresh_core.ensures.writes.effect).few in
    omega (arith, one, more)
    )

pub returns-in-Err-commit-clause-bound : goal.returns-in-Err-commit-clause-bound
returns-in-Err-commit-clause-bound g c =
    let state = g.D.Device.state in
    let mid = state (device_in (blocks_below c.fresh_core.new.space)) in
    fresh_within c.args.wide (state (device_in c.args.cache)) (state (device_in (blocks_below c.commit.new.self))) _
    (ap state c.refused-in-Err-commit.ensures.device ∙ ap (λ cache. state (device_in cache)) c.into_blocks-in-Err-commit.ensures)
    (
    let one = c.check_empty.ensures.effect.few in
    let more = (subst (λ cache. ReadsFew 7 (state (device_in cache)) mid) c.new-draft.ensures.blocks c.in-Ok-fresh_core.ensures.writes.effect).few in
    let none = c.commit.ensures.reads in
    omega (arith, one, more, none)
    )
