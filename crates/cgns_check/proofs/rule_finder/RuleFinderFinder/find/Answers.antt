use Rattle.std.proofs.Common.{◌≡◌, ◌∙◌, sym, subst}
use Rattle.std.specs.Prelude.{Option, Bool}
use Rattle.adf_model.specs.Slots.{Files}
use Rattle.sids_views.proofs.Plain.{told_before}
use Rattle.sids_rules.specs.SeenNodes.{IsSeen}
use Rattle.sids_readings.specs.Around.{surroundings}
use Rattle.sids_readings.proofs.Keeping.{kept}
use Rattle.sids_broken.specs.NodeTests.{IsKnownOf, dims_beside}
use Rattle.cgns_check.specs.Kept.{known_overlap}
use Rattle.cgns_check.proofs.KeptLaws.{known_tells}
use Rattle.cgns_check.proofs.rule_finder.RuleFinderFinder.find.Goals as goal

pub broken_by-requires-clause-around : goal.broken_by-requires-clause-around
broken_by-requires-clause-around g c =
    kept (λ fs. c.keep_around.new.finder.around ≡ surroundings fs c.args.seen.now) _ _ _ _ c.keep_around.ensures.only (λ told. (c.in-Ok.ensures.kept told).around)

pub broken_by-requires-clause-dims : goal.broken_by-requires-clause-dims
broken_by-requires-clause-dims g c =
    kept (λ fs. c.known_dims-dims.result.now ≡ dims_beside fs c.args.seen.now) _ _ _ _ c.keep_around.ensures.only (λ told. c.known_dims-dims.ensures ∙ (c.in-Ok.ensures.kept told).dims)

pub broken_by-requires-clause-known : goal.broken_by-requires-clause-known
broken_by-requires-clause-known g c told =
    let seen = c.args.seen.now in
    let only = c.keep_around.ensures.only in
    let then = told_before _ _ _ _ only told in
    let notes = c.keep_around.new.finder.notes in
    subst (λ (o : Option Bool). IsKnownOf (g.C.TreeCalls.files c.keep_around.new.calls) seen o) (sym c.known_overlap-overlaps.ensures)
    (subst (λ (fs : Files). IsKnownOf fs seen (known_overlap notes seen)) (sym only.files_stay)
    (known_tells (g.C.TreeCalls.files c.args.calls.now) notes seen (c.requires.seen then) (c.in-Ok.ensures.kept then).notes))
