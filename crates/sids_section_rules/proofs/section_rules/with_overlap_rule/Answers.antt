use Rattle.std.proofs.Common.{◌≡◌, ap, subst, Bool, [], ◌∷◌, ◌++◌}
use Rattle.std.specs.Prelude.{IfSome}
use Rattle.sids_rules.specs.Terms.{is_range, if_passes}
use Rattle.sids_readings.specs.Held.{held}
use Rattle.sids_readings.proofs.Keeping.{list_value}
use Rattle.sids_section_rules.specs.SectionTests.{overlaps}
use Rattle.sids_section_rules.proofs.section_rules.with_overlap_rule.Goals as goal

pub returns-in-Some-clause-value : goal.returns-in-Some-clause-value
returns-in-Some-clause-value g c told =
    let files = g.C.TreeCalls.files c.args.calls.now in
    let spot = c.args.spot.now in
    let wanted = overlaps files spot.zone spot.parent spot.node (if_passes is_range c.args.range.now) in
    let known : c.in-Some.is_broken ≡ wanted = subst (λ o. IfSome o (λ (b : Bool). b ≡ wanted)) c.in-Some.is (c.requires.known told) in
    list_value c.with_rule.result _ _ c.with_rule.ensures.value c.with_rule.ensures.memory (ap (λ b. c.args.rules ++ held ((30, b) ∷ [])) known)
