use Rattle.std.proofs.Common.{◌∙◌, subst}
use Rattle.std.proofs.lemmas.Result.{IfOk-weaker, IfErr-weaker}
use Rattle.std.specs.List.{All}
use Rattle.layout_lint.specs.Owners.{IsThere}
use Rattle.layout_lint.proofs.OwnerLaws.{laid_at, laid_with, both_weaker, owns_numbered, names_numbered, places_are, as_many_places}
use Rattle.layout_lint.proofs.owners.survey.Goals as goal

pub returns-in-Ok-clause-there : goal.returns-in-Ok-clause-there
returns-in-Ok-clause-there g c =
    let are = places_are c.deref.result.now _ _ c.args.nodes.now c.deref.ensures.value c.in-Ok.ensures.places c.items.ensures in
    IfOk-weaker c.survey_places.result _ _ (λ found h. subst (λ n. All (IsThere n) found.extents) (as_many_places _ _ are) h) c.survey_places.ensures.there

pub returns-in-Ok-clause-all : goal.returns-in-Ok-clause-all
returns-in-Ok-clause-all g c =
    let are = places_are c.deref.result.now _ _ c.args.nodes.now c.deref.ensures.value c.in-Ok.ensures.places c.items.ensures in
    IfOk-weaker c.survey_places.result _ _ (λ found h. λ image told end format wide laid.
    owns_numbered image c.args.nodes.now c.args.gaps.now end format wide laid c.deref.result.now are found.extents
    (h image told laid.tree laid.placement (laid_with image laid.tree laid.placement _ _ _ c.items-in-Ok.ensures (laid_at image c.args.nodes.now c.args.gaps.now end format wide laid c.deref.result.now are)))) c.survey_places.ensures.all

pub returns-in-Ok-clause-count : goal.returns-in-Ok-clause-count
returns-in-Ok-clause-count g c =
    let are = places_are c.deref.result.now _ _ c.args.nodes.now c.deref.ensures.value c.in-Ok.ensures.places c.items.ensures in
    IfOk-weaker c.survey_places.result _ _ (λ found h. h ∙ as_many_places _ _ are) c.survey_places.ensures.count

pub returns-in-Ok-clause-named : goal.returns-in-Ok-clause-named
returns-in-Ok-clause-named g c =
    let are = places_are c.deref.result.now _ _ c.args.nodes.now c.deref.ensures.value c.in-Ok.ensures.places c.items.ensures in
    both_weaker c.survey_places.result _ _ _ (λ found many h. λ image told end format wide laid.
    names_numbered image c.args.nodes.now c.args.gaps.now end format wide laid c.deref.result.now are found.names (many ∙ as_many_places _ _ are)
    (h image told laid.tree laid.placement (laid_with image laid.tree laid.placement _ _ _ c.items-in-Ok.ensures (laid_at image c.args.nodes.now c.args.gaps.now end format wide laid c.deref.result.now are))))
    c.survey_places.ensures.count c.survey_places.ensures.named

pub returns-in-Ok-clause-refused : goal.returns-in-Ok-clause-refused
returns-in-Ok-clause-refused g c =
    let are = places_are c.deref.result.now _ _ c.args.nodes.now c.deref.ensures.value c.in-Ok.ensures.places c.items.ensures in
    IfErr-weaker c.survey_places.result _ _ (λ e h. λ image told end format wide laid.
    h image told laid.tree laid.placement (laid_with image laid.tree laid.placement _ _ _ c.items-in-Ok.ensures (laid_at image c.args.nodes.now c.args.gaps.now end format wide laid c.deref.result.now are))) c.survey_places.ensures.refused
