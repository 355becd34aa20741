use Rattle.std.proofs.Common.{◌∙◌, sym, ap, subst, [], ◌∷◌}
use Rattle.adf_model.specs.Slots.{Files}
use Rattle.std.specs.Prelude.{IfSome}
use Rattle.sids_views.specs.Asks.{IsValueOr, IsPlain}
use Rattle.sids_views.proofs.Gathered.{told_after}
use Rattle.sids_section_rules.specs.declared.section_rules.Spot.{Spot}
use Rattle.sids_readings.specs.Held.{held}
use Rattle.sids_readings.specs.Around.{surroundings}
use Rattle.sids_broken.specs.NodeTests.{IsSpot, tests_with_place}
use Rattle.sids_readings.proofs.Keeping.{kept, list_value}
use Rattle.sids_broken.proofs.BrokenLaws.{root_are, others_are, known_spot}
use Rattle.sids_broken.proofs.broken_rules.broken_at.Goals as goal

pub broken_of_kind-requires-clause-spot : goal.broken_of_kind-requires-clause-spot
broken_of_kind-requires-clause-spot g c =
    let files = g.C.TreeCalls.files c.args.calls.now in
    let seen = c.args.seen.now in
    let parent = c.in-Some.parent in
    let spot : Spot = record { node = seen.node; at = c.args.at; parent = parent; zone = seen.zone; overlaps = c.args.overlaps } in
    kept (λ fs. IsSpot fs spot) _ _ _ _ c.kind_of_node.ensures.only (λ told. record {
      node = (c.requires.seen told).there;
      at = c.requires.plain told;
      parent = subst (λ o. IfSome o (IsPlain files)) c.in-Some.is (c.requires.seen told).parent;
      zone = (c.requires.seen told).zone;
      known = known_spot files seen c.args.at parent c.args.overlaps (c.requires.target told) c.in-Some.is (c.requires.known told);
    })

pub returns-in-Ok-clause-value : goal.returns-in-Ok-clause-value
returns-in-Ok-clause-value g c told =
    let files = g.C.TreeCalls.files c.args.calls.now in
    let seen = c.args.seen.now in
    let rules = c.args.set in
    let kind = c.in-Ok.kind in
    let only = c.kind_of_node.ensures.only in
    let spot : Spot = record { node = seen.node; at = c.args.at; parent = c.in-Some.parent; zone = seen.zone; overlaps = c.args.overlaps } in
    subst (λ numbers. IsValueOr numbers c.broken_of_kind.result)
    (ap (λ (fs : Files). held (tests_with_place rules kind fs spot c.args.around.now c.args.dims.now)) only.files_stay
    ∙ ap (λ around. held (tests_with_place rules kind files spot around c.args.dims.now)) (c.requires.around told)
    ∙ ap (λ dims. held (tests_with_place rules kind files spot (surroundings files seen) dims)) (c.requires.dims told)
    ∙ sym (others_are files seen c.args.at c.in-Some.parent kind rules c.args.overlaps (c.requires.target told) c.in-Some.is (sym (c.in-Ok.ensures.value told))))
    (c.broken_of_kind.ensures.value (told_after _ _ _ _ only told))

pub returns-in-Ok-breaks_version-clause-value : goal.returns-in-Ok-breaks_version-clause-value
returns-in-Ok-breaks_version-clause-value g c told =
    let files = g.C.TreeCalls.files c.args.calls.now in
    let seen = c.args.seen.now in
    list_value c.one_rule.result _ _ c.one_rule.ensures.value c.one_rule.ensures.memory
    (ap (λ b. held ((3, b) ∷ [])) (c.in-Ok-breaks_version.ensures.value told) ∙ sym (root_are files seen c.args.at c.args.set (c.requires.target told) c.in-None.is))
