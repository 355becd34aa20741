use Rattle.std.proofs.Common.{◌≡◌, ◌∙◌, sym, ap, ◌+◌, ◌∷◌, drop, false}
use Rattle.std.specs.Prelude.{◌||◌}
use Rattle.std.specs.List.{list_any}
use Rattle.std.proofs.lemmas.List.{at_drop_more}
use Rattle.sids_views.proofs.Gathered.{asks-trans, told_after}
use Rattle.sids_readings.specs.Limits.{has_grid_rind}
use Rattle.sids_readings.proofs.limits.has_rind.Goals as goal

pub loop-child-preserved : goal.loop-child-preserved
loop-child-preserved g c =
    let files = g.C.TreeCalls.files c.args.calls.now in
    let only = c.loop-child.invariant.only in
    let all = c.args.children.now in
    let k = c.loop-child.child-index in
    let child = c.child-item.result in
    record {
      ready = c.has_grid_rind.ensures.ready;
      only = asks-trans _ _ _ _ _ _ only c.has_grid_rind.ensures.only;
      rest = λ told.
          let none : has_grid_rind files child ≡ false =
          sym (c.in-Ok-false.ensures.value (told_after _ _ _ _ only told) ∙ ap (λ fs. has_grid_rind fs child) only.files_stay) ∙ c.in-Ok-false.field-0-test in
          let step : list_any (has_grid_rind files) (drop k all) ≡ list_any (has_grid_rind files) (drop (k + 1) all) =
          at_drop_more (list_any (has_grid_rind files)) all k child c.loop-child-test.true
          ∙ ap (λ x. list_any (has_grid_rind files) (x ∷ drop (k + 1) all)) (sym c.child-item.is)
          ∙ ap (λ b. b || list_any (has_grid_rind files) (drop (k + 1) all)) none in
          sym step ∙ c.loop-child.invariant.rest told;
    }
