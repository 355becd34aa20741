use Rattle.std.proofs.Common.{◌∙◌, ap, subst, [], ◌∷◌, ◌++◌}
use Rattle.adf_model.specs.Slots.{Files}
use Rattle.sids_views.specs.Asks.{IsValueOr}
use Rattle.sids_views.proofs.Gathered.{told_after}
use Rattle.sids_rules.specs.OffsetRules.{has_bad_offsets}
use Rattle.sids_readings.specs.Held.{held}
use Rattle.sids_offset_rules.specs.Pieces.{is_bad_state}
use Rattle.sids_offset_rules.specs.OffsetTests.{state_tests}
use Rattle.sids_readings.proofs.HeldLaws.{held_cons}
use Rattle.sids_offset_rules.proofs.PieceLaws.{bad_is}
use Rattle.sids_offset_rules.proofs.offset_section_rules.with_piece_rules.Goals as goal

pub returns-in-Ok-with_rule-clause-value : goal.returns-in-Ok-with_rule-clause-value
returns-in-Ok-with_rule-clause-value g c told =
    let files = g.C.TreeCalls.files c.args.calls.now in
    let section = c.args.section.now in
    let zone = c.args.zone in
    let limit = c.args.limit in
    let rules = c.args.rules in
    let only = c.offset_state.ensures.only in
    subst (λ numbers. IsValueOr numbers c.with_state_rules.result)
    (ap (λ (fs : Files). c.in-Ok-with_rule.rules ++ held (state_tests fs zone limit section)) only.files_stay
    ∙ ap (λ numbers. numbers ++ held (state_tests files zone limit section))
    (c.in-Ok-with_rule.ensures.value ∙ ap (λ b. rules ++ held ((37, b) ∷ [])) (c.is_bad.ensures ∙ ap is_bad_state (c.in-Ok.ensures.value told) ∙ bad_is files section))
    ∙ held_cons rules (37, has_bad_offsets files section) (state_tests files zone limit section))
    (c.with_state_rules.ensures.value (told_after _ _ _ _ only told))
