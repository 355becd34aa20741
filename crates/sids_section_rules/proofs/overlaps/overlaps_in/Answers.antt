use Rattle.std.proofs.Common.{◌≡◌, ◌∙◌, sym, ap, ◌+◌, ◌∷◌, drop}
use Rattle.std.specs.Prelude.{None, unwrap_or}
use Rattle.std.proofs.lemmas.List.{at_drop_more}
use Rattle.sids_views.proofs.Gathered.{asks-trans, told_after}
use Rattle.sids_section_rules.specs.Overlaps.{overlaps_in, overlap_step}
use Rattle.sids_section_rules.proofs.overlaps.overlaps_in.Goals as goal

pub loop-child-preserved : goal.loop-child-preserved
loop-child-preserved g c =
    let files = g.C.TreeCalls.files c.args.calls.now in
    let only = c.loop-child.invariant.only in
    let all = c.args.children.now in
    let k = c.loop-child.child-index in
    let child = c.child-item.result in
    let node = c.args.node in
    let range = c.args.range.now in
    record {
      ready = c.overlap_step.ensures.ready;
      only = asks-trans _ _ _ _ _ _ only c.overlap_step.ensures.only;
      rest = λ told.
          let none : None ≡ overlap_step files node range child =
          sym c.in-Ok-None.field-0-is ∙ c.in-Ok-None.ensures.value (told_after _ _ _ _ only told) ∙ ap (λ fs. overlap_step fs node range child) only.files_stay in
          let step : overlaps_in files node range (drop k all) ≡ overlaps_in files node range (drop (k + 1) all) =
          at_drop_more (overlaps_in files node range) all k child c.loop-child-test.true
          ∙ ap (λ x. overlaps_in files node range (x ∷ drop (k + 1) all)) (sym c.child-item.is)
          ∙ ap (λ o. unwrap_or o (overlaps_in files node range (drop (k + 1) all))) (sym none) in
          sym step ∙ c.loop-child.invariant.rest told;
    }
