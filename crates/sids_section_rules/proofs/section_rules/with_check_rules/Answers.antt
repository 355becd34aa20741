use Rattle.std.proofs.Common.{◌∙◌, ap, subst, [], ◌∷◌, ◌++◌}
use Rattle.adf_model.specs.Slots.{Files}
use Rattle.sids_views.specs.Asks.{IsValueOr}
use Rattle.sids_views.proofs.Gathered.{told_after}
use Rattle.sids_rules.specs.Terms.{is_range, if_passes}
use Rattle.sids_readings.specs.Held.{held}
use Rattle.sids_section_rules.specs.SectionTests.{whole, part_tests, connectivity_tests, overlaps, IsKnown}
use Rattle.sids_readings.proofs.Keeping.{kept}
use Rattle.sids_readings.proofs.HeldLaws.{held_more}
use Rattle.sids_section_rules.proofs.section_rules.with_check_rules.Goals as goal

pub with_overlap_rule-requires-clause-known : goal.with_overlap_rule-requires-clause-known
with_overlap_rule-requires-clause-known g c =
    kept (λ fs. IsKnown fs c.args.spot.now (if_passes is_range c.args.parts.now.range)) _ _ _ _ c.with_connectivity_rules.ensures.only c.requires.known

pub returns-in-Ok-with_connectivity_rules-clause-value : goal.returns-in-Ok-with_connectivity_rules-clause-value
returns-in-Ok-with_connectivity_rules-clause-value g c told =
    let files = g.C.TreeCalls.files c.args.calls.now in
    let spot = c.args.spot.now in
    let parts = c.args.parts.now in
    let rules = c.args.rules in
    let only = c.with_connectivity_rules.ensures.only in
    let first = part_tests parts in
    let next = connectivity_tests files c.args.limit (whole parts) in
    let last = (30, overlaps files spot.zone spot.parent spot.node (if_passes is_range parts.range)) ∷ [] in
    subst (λ numbers. IsValueOr numbers c.with_overlap_rule.result)
    (ap (λ (fs : Files). c.in-Ok-with_connectivity_rules.rules ++ held ((30, overlaps fs spot.zone spot.parent spot.node (if_passes is_range parts.range)) ∷ [])) only.files_stay
    ∙ ap (λ numbers. numbers ++ held last) (c.in-Ok-with_connectivity_rules.ensures.value told ∙ ap (λ numbers. numbers ++ held next) c.in-Ok.ensures.value)
    ∙ ap (λ numbers. numbers ++ held last) (held_more rules first next)
    ∙ held_more rules (first ++ next) last)
    (c.with_overlap_rule.ensures.value (told_after _ _ _ _ only told))
