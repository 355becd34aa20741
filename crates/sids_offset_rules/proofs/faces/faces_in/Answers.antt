use Rattle.std.proofs.Common.{◌∙◌, sym, ap, ◌+◌, ◌∷◌, ◌++◌, drop}
use Rattle.std.specs.Prelude.{filter_map, List, Option}
use Rattle.sids_rules.specs.Terms.{Range}
use Rattle.std.specs.List.{cons_option}
use Rattle.std.proofs.lemmas.List.{at_drop_more}
use Rattle.sids_views.proofs.Gathered.{asks-trans, told_after, later_cause}
use Rattle.sids_offset_rules.specs.Faces.{face_of}
use Rattle.sids_offset_rules.proofs.FaceLaws.{one_behind}
use Rattle.sids_offset_rules.proofs.faces.faces_in.Goals as goal

pub loop-child-preserved : goal.loop-child-preserved
loop-child-preserved g c =
    let files = g.C.TreeCalls.files c.args.calls.now in
    let only = c.loop-child.invariant.only in
    let all = c.args.children.now in
    let k = c.loop-child.child-index in
    let before = c.loop-child.faces.items in
    let rest = filter_map (face_of files) (drop (k + 1) all) in
    record {
      ready = c.face_of.ensures.ready;
      only = asks-trans _ _ _ _ _ _ only c.face_of.ensures.only;
      found = λ told.
          ap (λ ranges. ranges ++ rest) c.in-Ok-with_face.ensures.value
          ∙ one_behind before c.in-Ok.face rest
          ∙ ap (λ o. before ++ cons_option o rest) (c.in-Ok.ensures.value (told_after _ _ _ _ only told) ∙ ap (λ fs. face_of fs c.child-item.result) only.files_stay)
          ∙ ap (λ x. before ++ filter_map (face_of files) (x ∷ drop (k + 1) all)) c.child-item.is
          ∙ ap (λ ranges. before ++ ranges) (sym (at_drop_more (filter_map (face_of files)) all k c.child-item.result c.loop-child-test.true))
          ∙ c.loop-child.invariant.found told;
    }

pub returns-in-Err-clause-cause : goal.returns-in-Err-clause-cause
returns-in-Err-clause-cause g c = later_cause (Option Range) (List Range) _ _ _ _ _ c.in-Err.error c.loop-child.invariant.only c.in-Err.ensures.cause
