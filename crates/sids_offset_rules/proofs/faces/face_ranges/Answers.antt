use Rattle.std.proofs.Common.{◌∙◌, sym, ap, subst}
use Rattle.std.specs.Prelude.{filter_map}
use Rattle.adf_model.specs.Slots.{Files}
use Rattle.sids_views.specs.Asks.{IsValueOr}
use Rattle.sids_views.proofs.Gathered.{told_after}
use Rattle.sids_offset_rules.specs.Faces.{face_of}
use Rattle.sids_offset_rules.proofs.FaceLaws.{faces_are}
use Rattle.sids_offset_rules.proofs.faces.face_ranges.Goals as goal

pub returns-in-Ok-clause-value : goal.returns-in-Ok-clause-value
returns-in-Ok-clause-value g c told =
    let files = g.C.TreeCalls.files c.args.calls.now in
    let only = c.children_of.ensures.only in
    let found = c.items.ensures ∙ c.in-Ok.ensures.value told in
    subst (λ ranges. IsValueOr ranges c.faces_in.result)
    (ap (λ (fs : Files). filter_map (face_of fs) c.items.result.now) only.files_stay ∙ ap (filter_map (face_of files)) found ∙ sym (faces_are files c.args.zone))
    (c.faces_in.ensures.value (told_after _ _ _ _ only told))
