use Rattle.std.proofs.Common.{◌∙◌, ap, subst, [], ◌∷◌, ◌++◌, not}
use Rattle.adf_model.specs.Slots.{Files}
use Rattle.sids_views.specs.Asks.{IsValueOr}
use Rattle.sids_views.proofs.Gathered.{told_after}
use Rattle.sids_rules.specs.Rules.{place_kind, is_allowed}
use Rattle.sids_readings.specs.Held.{held}
use Rattle.sids_broken.specs.NodeTests.{tests_at}
use Rattle.sids_readings.proofs.HeldLaws.{held_cons}
use Rattle.sids_broken.proofs.broken_rules.with_placed_rules.Goals as goal

pub returns-in-Ok-with_rule-clause-value : goal.returns-in-Ok-with_rule-clause-value
returns-in-Ok-with_rule-clause-value g c told =
    let files = g.C.TreeCalls.files c.args.calls.now in
    let spot = c.args.spot.now in
    let around = c.args.around.now in
    let dims = c.args.dims.now in
    let rules = c.args.rules in
    let only = c.breaks_place.ensures.only in
    let others = tests_at c.args.set c.args.kind files spot around dims in
    subst (λ numbers. IsValueOr numbers c.with_rules_of_kind.result)
    (ap (λ (fs : Files). c.in-Ok-with_rule.rules ++ held (tests_at c.args.set c.args.kind fs spot around dims)) only.files_stay
    ∙ ap (λ numbers. numbers ++ held others) (c.in-Ok-with_rule.ensures.value ∙ ap (λ b. rules ++ held ((2, b) ∷ [])) (c.in-Ok.ensures.value told))
    ∙ held_cons rules (2, not (is_allowed (place_kind files spot.parent) c.args.kind)) others)
    (c.with_rules_of_kind.ensures.value (told_after _ _ _ _ only told))
