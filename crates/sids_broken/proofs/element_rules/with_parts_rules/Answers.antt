use Rattle.std.proofs.Common.{◌∙◌, sym, ap, subst, ◌++◌}
use Rattle.adf_model.specs.Slots.{Files}
use Rattle.sids_views.specs.Asks.{IsValueOr}
use Rattle.sids_views.proofs.Gathered.{told_after}
use Rattle.sids_readings.specs.Held.{held}
use Rattle.sids_section_rules.specs.SectionTests.{section_tests, IsKnown}
use Rattle.sids_offset_rules.specs.OffsetTests.{offset_tests_of}
use Rattle.sids_readings.proofs.HeldLaws.{held_more}
use Rattle.sids_broken.proofs.element_rules.with_parts_rules.Goals as goal

pub with_check_rules-requires-clause-known : goal.with_check_rules-requires-clause-known
with_check_rules-requires-clause-known g c told =
    subst (λ range. IsKnown (g.C.TreeCalls.files c.args.calls.now) c.args.spot.now range) (sym (c.requires.range told)) (c.requires.spot told).known

pub returns-in-Ok-clause-value : goal.returns-in-Ok-clause-value
returns-in-Ok-clause-value g c told =
    let files = g.C.TreeCalls.files c.args.calls.now in
    let spot = c.args.spot.now in
    let parts = c.args.parts.now in
    let limit = c.args.limit in
    let only = c.with_check_rules.ensures.only in
    let first = section_tests files spot.zone limit spot.parent spot.node parts in
    let next = offset_tests_of c.args.set files spot.zone limit spot.at parts in
    subst (λ numbers. IsValueOr numbers c.with_later_rules.result)
    (ap (λ (fs : Files). c.in-Ok.rules ++ held (offset_tests_of c.args.set fs spot.zone limit spot.at parts)) only.files_stay
    ∙ ap (λ numbers. numbers ++ held next) (c.in-Ok.ensures.value told)
    ∙ held_more c.args.rules first next)
    (c.with_later_rules.ensures.value (told_after _ _ _ _ only told))
