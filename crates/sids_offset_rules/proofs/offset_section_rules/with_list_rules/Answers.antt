use Rattle.std.proofs.Common.{◌≡◌, ◌∙◌, sym, ap, subst, true, [], ◌∷◌, ◌++◌}
use Rattle.std.specs.Prelude.{Some, IfSome}
use Rattle.adf_model.specs.Slots.{Files}
use Rattle.sids_views.specs.Asks.{IsValueOr, IsPlain}
use Rattle.sids_views.specs.Views.{node_there}
use Rattle.sids_views.proofs.Gathered.{told_after}
use Rattle.sids_readings.specs.Held.{held}
use Rattle.sids_section_rules.specs.SectionTests.{whole}
use Rattle.sids_offset_rules.specs.Pieces.{IsOffsetSection}
use Rattle.sids_readings.specs.Reading.{is_list}
use Rattle.sids_offset_rules.specs.OffsetTests.{lacks_list, is_list_off, listed, piece_tests}
use Rattle.sids_readings.proofs.Keeping.{kept}
use Rattle.sids_readings.proofs.HeldLaws.{held_more}
use Rattle.sids_offset_rules.proofs.ListedLaws.{listed_sound}
use Rattle.sids_offset_rules.proofs.offset_section_rules.with_list_rules.Goals as goal

pub with_piece_rules-requires-clause-section : goal.with_piece_rules-requires-clause-section
with_piece_rules-requires-clause-section g c =
    let files = g.C.TreeCalls.files in
    let parts = c.args.parts.now in
    let offsets = c.args.offsets in
    let only = c.with_start_rules.ensures.only in
    kept (λ fs. IsOffsetSection fs c.in-Ok-Some.section) _ _ _ _ c.listed.ensures.only (λ told.
    listed_sound _ c.in-Ok-Some.section parts offsets (sym c.in-Ok-Some.field-0-is ∙ c.in-Ok-Some.ensures.value told)
    (kept (λ fs. IfSome parts.connectivity (IsPlain fs)) _ _ _ _ only c.requires.connectivity told)
    (kept (λ fs. IfSome offsets (IsPlain fs)) _ _ _ _ only c.requires.offsets told)
    (kept (λ fs. IfSome offsets (λ at. is_list (node_there fs at) ≡ true)) _ _ _ _ only c.requires.list told))

pub returns-in-Ok-Some-clause-value : goal.returns-in-Ok-Some-clause-value
returns-in-Ok-Some-clause-value g c told =
    let files = g.C.TreeCalls.files c.args.calls.now in
    let parts = c.args.parts.now in
    let offsets = c.args.offsets in
    let zone = c.args.zone in
    let limit = c.args.limit in
    let rules = c.args.rules in
    let only = c.with_start_rules.ensures.only in
    let later = c.listed.ensures.only in
    let told_then = told_after _ _ _ _ only told in
    let there : Some c.in-Ok-Some.section ≡ listed files (whole parts) offsets =
    sym c.in-Ok-Some.field-0-is ∙ c.in-Ok-Some.ensures.value told_then ∙ ap (λ fs. listed fs (whole parts) offsets) only.files_stay in
    let first = (35, lacks_list parts offsets) ∷ (36, is_list_off files parts offsets) ∷ [] in
    subst (λ numbers. IsValueOr numbers c.with_piece_rules.result)
    (ap (λ (fs : Files). c.in-Ok.rules ++ held (piece_tests fs zone limit (Some c.in-Ok-Some.section))) (later.files_stay ∙ only.files_stay)
    ∙ ap (λ o. c.in-Ok.rules ++ held (piece_tests files zone limit o)) there
    ∙ ap (λ numbers. numbers ++ held (piece_tests files zone limit (listed files (whole parts) offsets))) (c.in-Ok.ensures.value told)
    ∙ held_more rules first (piece_tests files zone limit (listed files (whole parts) offsets)))
    (c.with_piece_rules.ensures.value (told_after _ _ _ _ later told_then))
