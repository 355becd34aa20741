use Rattle.std.proofs.Common.{◌∙◌, ◌++◌, ◌+◌, zero-add, ap, length, map, None}
use Rattle.std.proofs.lemmas.List.Elements.{All-nil, All-same}
use Rattle.std.proofs.lemmas.List.Sorted.{All-permutation}
use Rattle.adf_format.specs.Placement.{head_extents}
use Rattle.layout_lint.specs.Owners.{owned_by, owned_from, IsThere, name_of}
use Rattle.layout_lint.proofs.OwnerLaws.{head_keeps, span_keeps, span_owns, names_there}
use Rattle.layout_lint.proofs.OwnerSteps.{want_no_fault, there_more}
use Rattle.layout_lint.proofs.RowSteps.{refused}
use Rattle.layout_lint.proofs.owners.collect.Goals as goal

pub returns-in_err-head-clause-sound : goal.returns-in_err-head-clause-sound
returns-in_err-head-clause-sound g c = refused _ _ _ c.from_residual.ensures.1 (λ image told tree p is. head_keeps image tree p _ _ is c.in_err-head.field-0.0 (c.in_err-head.ensures.rows image told))

pub returns-in_err-add_owned-clause-sound : goal.returns-in_err-add_owned-clause-sound
returns-in_err-add_owned-clause-sound g c = refused _ _ _ c.from_residual-in_err-add_owned.ensures.1 (λ image told tree p is. want_no_fault c.in_err-add_owned.field-0.0 c.in_err-add_owned.ensures.want)

pub returns-in_err-add_nodes-clause-sound : goal.returns-in_err-add_nodes-clause-sound
returns-in_err-add_nodes-clause-sound g c = refused _ _ _ c.from_residual-in_err-add_nodes.ensures.1 (λ image told tree p is.
    (let says = c.in_ok-head.ensures.says image told in
    c.in_err-add_nodes.ensures.sound image (c.in_ok-head.ensures.effect.held ∙ told) says.span.inside (span_keeps image tree p _ _ is c.in_ok-head.head.span says.span)))

pub returns-in_err-add_owned-2-clause-sound : goal.returns-in_err-add_owned-2-clause-sound
returns-in_err-add_owned-2-clause-sound g c = refused _ _ _ c.from_residual-in_err-add_owned-2.ensures.1 (λ image told tree p is. want_no_fault c.in_err-add_owned-2.field-0.0 c.in_err-add_owned-2.ensures.want)

pub returns-clause-there : goal.returns-clause-there
returns-clause-there g c =
    All-permutation (IsThere (length c.args.places.now)) _ _ c.sort_by_place.ensures.same
    (there_more (length c.args.places.now) _ _ None c.args.gaps.now tt c.in_ok-add_owned-2.ensures.added
    (c.in_ok-add_nodes.ensures.there
    (there_more (length c.args.places.now) _ _ None head_extents tt c.in_ok-add_owned.ensures.added
    (All-same (IsThere (length c.args.places.now)) _ _ c.new.ensures.items (All-nil (IsThere (length c.args.places.now)))))))

pub returns-clause-all : goal.returns-clause-all
returns-clause-all g c = λ image told tree p is.
    (let says = c.in_ok-head.ensures.says image told in
    span_owns image tree p _ _ is c.in_ok-head.head.span says.span _ c.sort_by_place.new.owned.items
    (c.in_ok-add_owned-2.ensures.added
    ∙ ap (λ xs. xs ++ owned_by None c.args.gaps.now) (c.in_ok-add_nodes.ensures.added image (c.in_ok-head.ensures.effect.held ∙ told) says.span.inside
    ∙ ap (λ xs. xs ++ owned_from image c.in_ok-head.head.span.wide 0 c.args.places.now) (c.in_ok-add_owned.ensures.added ∙ ap (λ xs. xs ++ owned_by None head_extents) c.new.ensures.items)))
    c.sort_by_place.ensures.same c.sort_by_place.ensures.sorted)

pub returns-clause-named : goal.returns-clause-named
returns-clause-named g c = λ image told tree p is.
    (let says = c.in_ok-head.ensures.says image told in
    names_there image tree p c.args.places.now c.args.gaps.now is c.add_nodes.new.parts.names.items
    (c.in_ok-add_nodes.ensures.named image (c.in_ok-head.ensures.effect.held ∙ told) says.span.inside ∙ ap (λ xs. xs ++ map (name_of image) c.args.places.now) c.new-2.ensures.items))

pub returns-clause-count : goal.returns-clause-count
returns-clause-count g c = c.in_ok-add_nodes.ensures.count ∙ ap (λ xs. length xs + length c.args.places.now) c.new-2.ensures.items ∙ zero-add (length c.args.places.now)
