use Rattle.std.proofs.Common.{◌∙◌, sym, ap, subst, not, ◌∷◌, ◌++◌}
use Rattle.sids_views.specs.Asks.{IsValueOr}
use Rattle.sids_rules.specs.Rules.{place_kind, is_allowed}
use Rattle.sids_readings.specs.Held.{held}
use Rattle.sids_broken.specs.NodeTests.{tests_at}
use Rattle.sids_broken.proofs.BrokenLaws.{place_first}
use Rattle.sids_broken.proofs.broken_rules.broken_of_kind.Goals as goal

pub returns-in_default-clause-value : goal.returns-in_default-clause-value
returns-in_default-clause-value g c told =
    let files = g.C.TreeCalls.files c.args.calls.now in
    let spot = c.args.spot.now in
    let around = c.args.around.now in
    let dims = c.args.dims.now in
    let tests = (2, not (is_allowed (place_kind files spot.parent) c.args.kind)) ∷ tests_at c.args.set c.args.kind files spot around dims in
    subst (λ numbers. IsValueOr numbers c.with_placed_rules.result)
    (ap (λ numbers. numbers ++ held tests) (c.new-rules.ensures ∙ c.new.ensures.items)
    ∙ sym (ap held (place_first c.args.set c.args.kind files spot around dims c.in_default.not-Other)))
    (c.with_placed_rules.ensures.value told)
