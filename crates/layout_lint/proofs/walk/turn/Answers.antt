use Rattle.std.proofs.Common.{◌∙◌, ◌++◌, ◌∷◌, [], refl, ap, map, subst, sym, arith}
use Rattle.std.specs.List.{All}
use Rattle.std.proofs.lemmas.List.Elements.{All-push}
use Rattle.cg_io.proofs.ReadLaws.{reads_more}
use Rattle.layout_lint.specs.Gaps.{IsSolid}
use Rattle.layout_lint.specs.Walks.{waiting_in, node_place, IsOpen}
use Rattle.layout_lint.specs.Shapes.{met_place}
use Rattle.layout_lint.proofs.StackLaws.{family_waits, so_many_more, stepped_open, few_open}
use Rattle.layout_lint.proofs.SearchLaws.{goes_on, breaks}
use Rattle.layout_lint.proofs.ShapeLaws.{steady_then, some_then, near_enough}
use Rattle.layout_lint.proofs.RowSteps.{refused}
use Rattle.layout_lint.proofs.walk.turn.Goals as goal

pub returns-in_err-next-clause-stops : goal.returns-in_err-next-clause-stops
returns-in_err-next-clause-stops g c = refused _ _ _ c.from_residual.ensures.1 (λ image told span search.
    breaks image c.args.span.wide c.args.span.end c.args.search.now (waiting_in image c.args.search.now.families.items) c.args.met.now c.contains-known.result c.in_err-next.field-0.0 span.wide span.end search
    c.contains-known.ensures (c.in_err-next.ensures.rows image told span.inside))

pub returns-clause-goes_on : goal.returns-clause-goes_on
returns-clause-goes_on g c = λ image told span search.
    let kept = c.in_ok-keep.ensures.kept in
    let same = c.in_ok-open.ensures.same in
    goes_on image c.args.span.wide c.args.span.end c.args.search.now _ (waiting_in image c.args.search.now.families.items) _ c.args.met.now c.contains-known.result c.in_ok-next.next c.len-number.result span.wide span.end search
    c.contains-known.ensures (c.in_ok-next.ensures.rows image told span.inside) (c.in_ok-next.ensures.leads image told span.inside) (c.len-number.ensures ∙ c.args.search.now.nodes.ok.0)
    (ap (λ v. waiting_in image v.items) kept.families ∙ family_waits image _ _ _ refl c.in_ok-open.ensures.opened)
    (kept.nodes ∙ ap (λ v. map node_place v.items ++ met_place c.args.met.now ∷ []) same.0) (rw same.1 at kept.places)
    (ap (λ es. es.items) (kept.extents ∙ same.2) ∙ c.in_ok-next.ensures.extents image told span.inside) refl

pub returns-clause-going : goal.returns-clause-going
returns-clause-going g c =
    let kept = c.in_ok-keep.ensures.kept in
    let same = c.in_ok-open.ensures.same in
    let next = c.in_ok-next.ensures.next in
    let families = ap (λ v. v.items) kept.families ∙ c.in_ok-open.ensures.opened in
    let nodes = kept.nodes ∙ ap (λ v. map node_place v.items ++ met_place c.args.met.now ∷ []) same.0 in
    record {
      solid = subst (λ v. All (IsSolid c.args.span.end) v.items) (sym (kept.extents ∙ same.2)) c.in_ok-next.ensures.solid;
      readable = subst (All (IsOpen c.args.span.end)) (sym families) (All-push (IsOpen c.args.span.end) _ _ c.requires.readable (record { shallow = next.shallow; within = next.within }));
      stepped = stepped_open _ _ _ c.requires.stepped families c.requires.deep;
      few = few_open _ _ _ c.args.met.now.depth families c.requires.deep (near_enough (map node_place c.args.search.now.nodes.items) (met_place c.args.met.now) c.requires.follows);
      steady =
          steady_then c.args.span.wide c.args.span.end c.args.search.now _ _ _ c.args.met.now _ c.requires.steady c.requires.follows nodes (ap (λ es. es.items) (kept.extents ∙ same.2)) (ap (λ v. v.items) kept.families) c.in_ok-open.ensures.opened
          c.in_ok-next.ensures.inside c.in_ok-next.ensures.adds (c.len-number.ensures ∙ c.args.search.now.nodes.ok.0) refl;
      left = (let more = so_many_more _ _ _ refl families in let few = next.few in let rises = next.more in omega (arith, more, few, rises, c.requires.left));
      room = next.room;
      some = some_then _ _ _ nodes;
    }

pub returns-clause-few : goal.returns-clause-few
returns-clause-few g c =
    let more = so_many_more _ _ _ refl (ap (λ v. v.items) c.in_ok-keep.ensures.kept.families ∙ c.in_ok-open.ensures.opened) in
    let few = c.in_ok-next.ensures.next.few in
    let rises = c.in_ok-next.ensures.next.more in
    reads_more _ _ _ _ c.in_ok-next.ensures.few (omega (arith, more, few, rises, c.requires.left))

pub returns-clause-spare : goal.returns-clause-spare
returns-clause-spare g c =
    let more = so_many_more _ _ _ refl (ap (λ v. v.items) c.in_ok-keep.ensures.kept.families ∙ c.in_ok-open.ensures.opened) in
    let few = c.in_ok-next.ensures.next.few in
    let rises = c.in_ok-next.ensures.next.more in
    omega (arith, more, few, rises, c.requires.left)
