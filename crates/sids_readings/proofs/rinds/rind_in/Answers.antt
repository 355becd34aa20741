use Rattle.std.proofs.Common.{◌≡◌, ◌∙◌, sym, ap, ◌+◌, ◌∷◌, drop}
use Rattle.std.specs.Prelude.{None, unwrap_or}
use Rattle.std.proofs.lemmas.List.{at_drop_more}
use Rattle.sids_views.proofs.Gathered.{asks-trans, told_after}
use Rattle.sids_readings.specs.Rinds.{rind_in, rind_of_child}
use Rattle.sids_readings.proofs.rinds.rind_in.Goals as goal

pub loop-child-preserved : goal.loop-child-preserved
loop-child-preserved g c =
    let files = g.C.TreeCalls.files c.args.calls.now in
    let only = c.loop-child.invariant.only in
    let all = c.args.children.now in
    let k = c.loop-child.child-index in
    let child = c.child-item.result in
    let index = c.args.index in
    record {
      ready = c.rind_of_child.ensures.ready;
      only = asks-trans _ _ _ _ _ _ only c.rind_of_child.ensures.only;
      rest = λ told.
          let none : None ≡ rind_of_child index files child =
          sym c.in-Ok-None.field-0-is ∙ c.in-Ok-None.ensures.value (told_after _ _ _ _ only told) ∙ ap (λ fs. rind_of_child index fs child) only.files_stay in
          let step : rind_in index files (drop k all) ≡ rind_in index files (drop (k + 1) all) =
          at_drop_more (rind_in index files) all k child c.loop-child-test.true
          ∙ ap (λ x. rind_in index files (x ∷ drop (k + 1) all)) (sym c.child-item.is)
          ∙ ap (λ o. unwrap_or o (rind_in index files (drop (k + 1) all))) (sym none) in
          sym step ∙ c.loop-child.invariant.rest told;
    }
