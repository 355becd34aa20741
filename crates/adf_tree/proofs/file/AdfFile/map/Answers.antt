use Rattle.std.proofs.Common.{◌∙◌, ap, map, refl}
use Rattle.adf_format.specs.Placement.{Placement}
use Rattle.adf_format.specs.Tree.{Tree}
use Rattle.block_cache.specs.Cache.{device_in}
use Rattle.block_cache.specs.declared.cache.BlockCache.{BlockCache}
use Rattle.cg_io.specs.Answers.{IsRefusal}
use Rattle.layout_lint.specs.Owners.{IsNoLayout, OwnsPlaces, extent_of}
use Rattle.std.specs.Prelude.{⊤}
use Rattle.adf_tree.specs.Files.{state_of}
use Rattle.adf_tree.proofs.Mapping.{map_wants, maps, of_lent, refuses, settled_means, survey_looks, surveyed, told_of}
use Rattle.adf_tree.proofs.file.AdfFile.map.Goals as goal

-- ---- want of memory

pub returns-in-Err-clause-ends : goal.returns-in-Err-clause-ends
returns-in-Err-clause-ends g c =
    let file = state_of g.D.Device.state c.args.self.now in
    map_wants file file c.in-Err.error c.if-self.false c.in-Err.ensures.want

pub returns-in-Err-gaps-clause-ends : goal.returns-in-Err-gaps-clause-ends
returns-in-Err-gaps-clause-ends g c =
    let file = state_of g.D.Device.state c.args.self.now in
    map_wants file file c.in-Err-gaps.error c.if-self.false c.in-Err-gaps.ensures.cause

-- ---- the survey is refused

pub returns-in-Err-survey_places-clause-sound : goal.returns-in-Err-survey_places-clause-sound
returns-in-Err-survey_places-clause-sound g c =
    surveyed g.D.Device.state c.args.self.now c.requires c.blocks_mut-blocks.result.now c.survey_places.new.blocks c.blocks_mut-blocks.ensures.blocks c.survey_places.ensures.layer _ c.survey_places.ensures.effect

pub returns-in-Err-survey_places-clause-looks : goal.returns-in-Err-survey_places-clause-looks
returns-in-Err-survey_places-clause-looks g c =
    survey_looks g.D.Device.state c.args.self.now c.requires c.blocks_mut-blocks.result.now c.survey_places.new.blocks c.blocks_mut-blocks.ensures.blocks c.survey_places.ensures.layer _ c.survey_places.ensures.effect

pub returns-in-Err-survey_places-clause-ends : goal.returns-in-Err-survey_places-clause-ends
returns-in-Err-survey_places-clause-ends g c =
    let state = g.D.Device.state in
    let file = c.args.self.now in
    let lent = c.blocks_mut-blocks.result.now in
    let e = c.in-Err-survey_places.error in
    refuses file.core c.deref.result.now c.items.result.now (c.deref.ensures.value ∙ c.in-Ok.ensures.places) (c.items.ensures ∙ c.in-Ok-gaps.ensures.ok) (state_of state file) _ refl c.if-self.false
    e (settled_means state file c.requires c.if-self.false)
    (of_lent file.draft lent c.blocks_mut-blocks.ensures.blocks (λ (b : BlockCache _). told_of file.core c.deref.result.now c.items.result.now (c.deref.ensures.value ∙ c.in-Ok.ensures.places) (c.items.ensures ∙ c.in-Ok-gaps.ensures.ok) (state (device_in b)).held (λ (tree : Tree) (p : Placement). IsNoLayout e)) c.in-Err-survey_places.ensures.refused)
    (of_lent file.draft lent c.blocks_mut-blocks.ensures.blocks (λ (b : BlockCache _). IsRefusal ⊤ (state (device_in b)).faults (state (device_in c.survey_places.new.blocks)).faults e) c.in-Err-survey_places.ensures.cause)

-- ---- the survey is done

pub returns-in-Ok-extents_in-clause-sound : goal.returns-in-Ok-extents_in-clause-sound
returns-in-Ok-extents_in-clause-sound g c =
    surveyed g.D.Device.state c.args.self.now c.requires c.blocks_mut-blocks.result.now c.survey_places.new.blocks c.blocks_mut-blocks.ensures.blocks c.survey_places.ensures.layer _ c.survey_places.ensures.effect

pub returns-in-Ok-extents_in-clause-looks : goal.returns-in-Ok-extents_in-clause-looks
returns-in-Ok-extents_in-clause-looks g c =
    survey_looks g.D.Device.state c.args.self.now c.requires c.blocks_mut-blocks.result.now c.survey_places.new.blocks c.blocks_mut-blocks.ensures.blocks c.survey_places.ensures.layer _ c.survey_places.ensures.effect

pub returns-in-Ok-extents_in-clause-ends : goal.returns-in-Ok-extents_in-clause-ends
returns-in-Ok-extents_in-clause-ends g c =
    let state = g.D.Device.state in
    let file = c.args.self.now in
    let lent = c.blocks_mut-blocks.result.now in
    let owned = c.in-Ok-survey_places.found.extents in
    maps file.core c.deref.result.now c.items.result.now (c.deref.ensures.value ∙ c.in-Ok.ensures.places) (c.items.ensures ∙ c.in-Ok-gaps.ensures.ok) (state_of state file) (state_of state file) refl c.if-self.false
    owned c.new.result
    (of_lent file.draft lent c.blocks_mut-blocks.ensures.blocks (λ (b : BlockCache _). told_of file.core c.deref.result.now c.items.result.now (c.deref.ensures.value ∙ c.in-Ok.ensures.places) (c.items.ensures ∙ c.in-Ok-gaps.ensures.ok) (state (device_in b)).held (λ (tree : Tree) (p : Placement). OwnsPlaces tree p c.deref.result.now owned)) c.in-Ok-survey_places.ensures.all)
    (c.new.ensures ∙ c.in-Ok-extents_in.ensures ∙ ap (map extent_of) c.items-2.ensures)
