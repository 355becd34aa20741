use Rattle.std.proofs.Common.{◌∙◌, ◌++◌, ◌∷◌, [], ap, sym, refl, arith}
use Rattle.layout_lint.specs.Walks.{waiting_in}
use Rattle.layout_lint.proofs.StackLaws.{one_waits, none_waits, took_some, took_none}
use Rattle.layout_lint.proofs.SearchLaws.{same_search}
use Rattle.layout_lint.proofs.GoingLaws.{taken_shallow, taken_within, rest_open, rest_stepped, rest_deep, rest_steady, rest_follows}
use Rattle.layout_lint.proofs.walk.step.Goals as goal

pub returns-in-Ok-None-clause-goes_on : goal.returns-in-Ok-None-clause-goes_on
returns-in-Ok-None-clause-goes_on g c = λ image told span search.
    let took = took_none c.args.search.now.families.items c.take_next.new.families.items _ c.in-Ok-None.field-0-is c.in-Ok-None.ensures.took in
    same_search image _ _ c.args.search.now _ (none_waits image c.args.search.now.families.items took.0 ∙ sym (ap (waiting_in image) took.1)) refl refl refl refl search

pub child_of-requires-clause-shallow : goal.child_of-requires-clause-shallow
child_of-requires-clause-shallow g c = taken_shallow c.args.span.wide c.args.span.end c.args.search.now (record { families = c.take_next.new.families; nodes = c.args.search.now.nodes; places = c.args.search.now.places; extents = c.args.search.now.extents; used = c.args.search.now.used }) c.in-Ok-Some.family c.requires.going (took_some c.args.search.now.families.items c.take_next.new.families.items _ c.in-Ok-Some.family c.in-Ok-Some.field-0-is c.in-Ok-Some.ensures.took)

pub child_of-requires-clause-within : goal.child_of-requires-clause-within
child_of-requires-clause-within g c =
    let within = taken_within c.args.span.wide c.args.span.end c.args.search.now (record { families = c.take_next.new.families; nodes = c.args.search.now.nodes; places = c.args.search.now.places; extents = c.args.search.now.extents; used = c.args.search.now.used }) c.in-Ok-Some.family c.requires.going (took_some c.args.search.now.families.items c.take_next.new.families.items _ c.in-Ok-Some.family c.in-Ok-Some.field-0-is c.in-Ok-Some.ensures.took) in
    omega (arith, within, c.requires.end)

pub turn-requires-clause-readable : goal.turn-requires-clause-readable
turn-requires-clause-readable g c = rest_open c.args.span.wide c.args.span.end c.args.search.now (record { families = c.take_next.new.families; nodes = c.args.search.now.nodes; places = c.args.search.now.places; extents = c.args.search.now.extents; used = c.args.search.now.used }) c.in-Ok-Some.family c.requires.going (took_some c.args.search.now.families.items c.take_next.new.families.items _ c.in-Ok-Some.family c.in-Ok-Some.field-0-is c.in-Ok-Some.ensures.took)

pub turn-requires-clause-stepped : goal.turn-requires-clause-stepped
turn-requires-clause-stepped g c = rest_stepped c.args.span.wide c.args.span.end c.args.search.now (record { families = c.take_next.new.families; nodes = c.args.search.now.nodes; places = c.args.search.now.places; extents = c.args.search.now.extents; used = c.args.search.now.used }) c.in-Ok-Some.family c.requires.going (took_some c.args.search.now.families.items c.take_next.new.families.items _ c.in-Ok-Some.family c.in-Ok-Some.field-0-is c.in-Ok-Some.ensures.took)

pub turn-requires-clause-deep : goal.turn-requires-clause-deep
turn-requires-clause-deep g c = rest_deep c.args.span.wide c.args.span.end c.args.search.now (record { families = c.take_next.new.families; nodes = c.args.search.now.nodes; places = c.args.search.now.places; extents = c.args.search.now.extents; used = c.args.search.now.used }) c.in-Ok-Some.family c.requires.going (took_some c.args.search.now.families.items c.take_next.new.families.items _ c.in-Ok-Some.family c.in-Ok-Some.field-0-is c.in-Ok-Some.ensures.took) c.in_ok-child.child c.in_ok-child.ensures.child

pub turn-requires-clause-steady : goal.turn-requires-clause-steady
turn-requires-clause-steady g c = rest_steady c.args.span.wide c.args.span.end c.args.search.now (record { families = c.take_next.new.families; nodes = c.args.search.now.nodes; places = c.args.search.now.places; extents = c.args.search.now.extents; used = c.args.search.now.used }) c.in-Ok-Some.family c.requires.going (took_some c.args.search.now.families.items c.take_next.new.families.items _ c.in-Ok-Some.family c.in-Ok-Some.field-0-is c.in-Ok-Some.ensures.took) refl refl

pub turn-requires-clause-follows : goal.turn-requires-clause-follows
turn-requires-clause-follows g c = rest_follows c.args.span.wide c.args.span.end c.args.search.now (record { families = c.take_next.new.families; nodes = c.args.search.now.nodes; places = c.args.search.now.places; extents = c.args.search.now.extents; used = c.args.search.now.used }) c.in-Ok-Some.family c.requires.going (took_some c.args.search.now.families.items c.take_next.new.families.items _ c.in-Ok-Some.family c.in-Ok-Some.field-0-is c.in-Ok-Some.ensures.took) c.in_ok-child.child refl c.in_ok-child.ensures.child

pub returns-in-Ok-clause-goes_on : goal.returns-in-Ok-clause-goes_on
returns-in-Ok-clause-goes_on g c = λ image told span search.
    let takes = took_some c.args.search.now.families.items c.take_next.new.families.items _ c.in-Ok-Some.family c.in-Ok-Some.field-0-is c.in-Ok-Some.ensures.took in
    let family = c.in-Ok-Some.family in
    let inside = span.inside in
    let within = taken_within c.args.span.wide c.args.span.end c.args.search.now (record { families = c.take_next.new.families; nodes = c.args.search.now.nodes; places = c.args.search.now.places; extents = c.args.search.now.extents; used = c.args.search.now.used }) family c.requires.going takes in
    let is = c.in_ok-child.ensures.says image told (omega (arith, within, inside)) in
    c.in-Ok.ensures.goes_on image (c.child_of.ensures.effect.held ∙ told) span
    (same_search image _ _ c.args.search.now _ (one_waits image family c.args.search.now.families.items c.take_next.new.families.items takes ∙ ap (λ w. waiting_in image c.take_next.new.families.items ++ w ∷ []) (sym is)) refl refl refl refl search)

pub returns-in-Err-turn-clause-stops : goal.returns-in-Err-turn-clause-stops
returns-in-Err-turn-clause-stops g c = λ image told span search.
    let takes = took_some c.args.search.now.families.items c.take_next.new.families.items _ c.in-Ok-Some.family c.in-Ok-Some.field-0-is c.in-Ok-Some.ensures.took in
    let family = c.in-Ok-Some.family in
    let inside = span.inside in
    let within = taken_within c.args.span.wide c.args.span.end c.args.search.now (record { families = c.take_next.new.families; nodes = c.args.search.now.nodes; places = c.args.search.now.places; extents = c.args.search.now.extents; used = c.args.search.now.used }) family c.requires.going takes in
    let is = c.in_ok-child.ensures.says image told (omega (arith, within, inside)) in
    c.in-Err-turn.ensures.stops image (c.child_of.ensures.effect.held ∙ told) span
    (same_search image _ _ c.args.search.now _ (one_waits image family c.args.search.now.families.items c.take_next.new.families.items takes ∙ ap (λ w. waiting_in image c.take_next.new.families.items ++ w ∷ []) (sym is)) refl refl refl refl search)
