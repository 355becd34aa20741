use Rattle.std.proofs.Common.{◌∙◌, ap, subst, ◌++◌}
use Rattle.adf_model.specs.Slots.{Files}
use Rattle.sids_views.specs.Asks.{IsValueOr}
use Rattle.sids_views.proofs.Gathered.{told_after}
use Rattle.sids_readings.specs.Held.{held}
use Rattle.sids_node_rules.specs.KindTests.{sized_tests}
use Rattle.sids_node_rules.proofs.zone_rules.with_zone_rules.Goals as goal

pub returns-in-Ok-clause-value : goal.returns-in-Ok-clause-value
returns-in-Ok-clause-value g c told =
    let files = g.C.TreeCalls.files c.args.calls.now in
    let base = c.args.base.now in
    let at = c.args.at in
    let only = c.zone_sizes.ensures.only in
    subst (λ numbers. IsValueOr numbers c.with_sized_rules.result)
    (ap (λ (fs : Files). c.args.rules ++ held (sized_tests fs base c.in-Ok.sizes at)) only.files_stay
    ∙ ap (λ sizes. c.args.rules ++ held (sized_tests files base sizes at)) (c.in-Ok.ensures.value told))
    (c.with_sized_rules.ensures.value (told_after _ _ _ _ only told))
