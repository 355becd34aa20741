use Rattle.std.proofs.Common.{◌∙◌, ap, sym, subst, map, [], ◌∷◌}
use Rattle.std.proofs.lemmas.List.{map-append}
use Rattle.block_cache.specs.Cache.{IsCache, device_in}
use Rattle.block_draft.specs.Draft.{blocks_below, changes_in, waiting_in}
use Rattle.adf_model.specs.Counts.{DeviceState, OnlyReads}
use Rattle.adf_model.specs.declared.tree.Edit.{Edit}
use Rattle.adf_model.specs.declared.tree.NodeId.{NodeId}
use Rattle.std.specs.Prelude.{Option}
use Rattle.adf_tree.specs.Files.{accepted, device_of, image_in, state_of, steps_in}
use Rattle.adf_tree.specs.Reached.{with_reached}
use Rattle.adf_tree.specs.Steps.{IsStepCause}
use Rattle.adf_tree.proofs.AskEnds.{names_of}
use Rattle.adf_tree.proofs.KeptNames.{above_same, names_over, stepped_names}
use Rattle.adf_tree.proofs.Stepping.{dropped_file, dropped_state, one_more_works, refused_ends, same_accepted, work_means}
use Rattle.adf_tree.proofs.file.AdfFile.step_there.Goals as goal

pub do_edit-requires-clause-means : goal.do_edit-requires-clause-means
do_edit-requires-clause-means g c =
    let state = g.D.Device.state in
    let file = c.args.self.now in
    work_means (steps_in file) (waiting_in file.draft) (accepted file.core) file.core (device_of state file).held (image_in state file)
    (c.requires.sound.work c.requires.live) (c.requires.sound.means c.requires.live)

pub returns-in-Ok-clause-sound : goal.returns-in-Ok-clause-sound
returns-in-Ok-clause-sound g c =
    let state = g.D.Device.state in
    let file = c.args.self.now in
    let answers = c.in-Ok.ensures in
    let edit = with_reached c.args.edit.now c.args.there in
    one_more_works state file _ c.requires.sound c.requires.live answers.kept answers.effect edit c.requires.live answers.sound answers.near
    (ap (map (λ (e : Edit × Option NodeId). with_reached e.0 e.1)) c.and-self.ensures ∙ map-append (λ (e : Edit × Option NodeId). with_reached e.0 e.1) file.steps.items ((c.args.edit.now, c.args.there) ∷ []))
    answers.done answers.cost answers.reached
    (names_over c.follow.new.names c.do_edit.new.core _ _ _ answers.effect.held
    (stepped_names file.names c.follow.new.names file.core c.do_edit.new.core edit c.above-above.result c.in-Ok.serial (steps_in file) (waiting_in file.draft) (device_of state file).held (image_in state file) _
    (c.requires.sound.names c.requires.live) (c.requires.sound.work c.requires.live) answers.done (same_accepted file.core c.do_edit.new.core answers.kept)
    (c.above-above.ensures ∙ sym (above_same file.core.rows.items c.args.edit.now c.args.there)) answers.serial c.follow.ensures))

pub returns-in-Err-clause-sound : goal.returns-in-Err-clause-sound
returns-in-Err-clause-sound g c =
    let state = g.D.Device.state in
    let file = c.args.self.now in
    let answers = c.in-Err.ensures in
    let blocks = ap blocks_below c.drop_steps.ensures.draft ∙ c.abandon.ensures.blocks in
    (dropped_file state file c.drop_steps.new.self c.requires.sound (c.drop_steps.ensures.core ∙ same_accepted file.core c.do_edit.new.core answers.kept)
    (ap changes_in c.drop_steps.ensures.draft ∙ c.abandon.ensures.empty) c.drop_steps.ensures.steps
    (subst (IsCache state) (sym blocks) answers.sound) (ap (λ cache. (state (device_in cache)).held) blocks ∙ answers.effect.held) c.drop_steps.ensures.broken c.drop_steps.ensures.names).working

pub returns-in-Err-clause-ends : goal.returns-in-Err-clause-ends
returns-in-Err-clause-ends g c =
    let state = g.D.Device.state in
    let file = c.args.self.now in
    let answers = c.in-Err.ensures in
    let edit = with_reached c.args.edit.now c.args.there in
    let blocks = ap blocks_below c.drop_steps.ensures.draft ∙ c.abandon.ensures.blocks in
    let device = ap (λ cache. state (device_in cache)) blocks in
    refused_ends edit c.in-Err.error (state_of state file) (state_of state c.drop_steps.new.self) (record {
      live = c.requires.live;
      why = answers.refused;
      cause = subst (λ (d : DeviceState). IsStepCause edit (device_of state file).faults d.faults c.in-Err.error) (sym device) answers.cause;
      device = subst (λ (d : DeviceState). OnlyReads (device_of state file) d) (sym device) answers.effect;
      undone = dropped_state state file c.drop_steps.new.self c.requires.sound (c.drop_steps.ensures.core ∙ same_accepted file.core c.do_edit.new.core answers.kept)
          (ap changes_in c.drop_steps.ensures.draft ∙ c.abandon.ensures.empty) c.drop_steps.ensures.steps
          (subst (IsCache state) (sym blocks) answers.sound) (ap (λ (d : DeviceState). d.held) device ∙ answers.effect.held) c.drop_steps.ensures.broken c.drop_steps.ensures.names;
    })

pub do_edit-requires-clause-names : goal.do_edit-requires-clause-names
do_edit-requires-clause-names g c = names_of g.D.Device.state c.args.self.now c.requires.sound c.requires.live
