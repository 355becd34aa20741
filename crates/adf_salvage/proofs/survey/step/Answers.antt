use Rattle.std.proofs.Common.{◌∙◌, refl, arith}
use Rattle.layout_lint.proofs.StackLaws.{took_some, took_none}
use Rattle.adf_salvage.proofs.GoingLaws.{taken_shallow, taken_within, taken_named, taken_going, taken_deep, taken_follows, taken_next, none_taken}
use Rattle.adf_salvage.proofs.survey.step.Goals as goal

pub returns-in-Ok-None-clause-goes_on : goal.returns-in-Ok-None-clause-goes_on
returns-in-Ok-None-clause-goes_on g c = λ image told reach survey.
    let took = took_none c.args.progress.now.families.items c.take_next.new.families.items _ c.in-Ok-None.field-0-is c.in-Ok-None.ensures.took in
    none_taken image c.args.progress.now (record { families = c.take_next.new.families; names = c.args.progress.now.names; nodes = c.args.progress.now.nodes; places = c.args.progress.now.places; used = c.args.progress.now.used; left = c.args.progress.now.left }) took refl refl refl refl refl survey

pub child_of-requires-clause-shallow : goal.child_of-requires-clause-shallow
child_of-requires-clause-shallow g c = taken_shallow c.args.span.wide c.args.span.end c.args.progress.now (record { families = c.take_next.new.families; names = c.truncate.new.self; nodes = c.args.progress.now.nodes; places = c.args.progress.now.places; used = c.args.progress.now.used; left = c.args.progress.now.left }) c.in-Ok-Some.family c.requires.going
    (record { takes = took_some c.args.progress.now.families.items c.take_next.new.families.items _ c.in-Ok-Some.family c.in-Ok-Some.field-0-is c.in-Ok-Some.ensures.took; names = c.truncate.ensures.items; nodes = refl; places = refl; used = refl; left = refl })

pub child_of-requires-clause-within : goal.child_of-requires-clause-within
child_of-requires-clause-within g c =
    let within = taken_within c.args.span.wide c.args.span.end c.args.progress.now (record { families = c.take_next.new.families; names = c.truncate.new.self; nodes = c.args.progress.now.nodes; places = c.args.progress.now.places; used = c.args.progress.now.used; left = c.args.progress.now.left }) c.in-Ok-Some.family c.requires.going
    (record { takes = took_some c.args.progress.now.families.items c.take_next.new.families.items _ c.in-Ok-Some.family c.in-Ok-Some.field-0-is c.in-Ok-Some.ensures.took; names = c.truncate.ensures.items; nodes = refl; places = refl; used = refl; left = refl }) in
    omega (arith, within, c.requires.end)

pub turn-requires-clause-going : goal.turn-requires-clause-going
turn-requires-clause-going g c = taken_going c.args.span.wide c.args.span.end c.args.progress.now (record { families = c.take_next.new.families; names = c.truncate.new.self; nodes = c.args.progress.now.nodes; places = c.args.progress.now.places; used = c.args.progress.now.used; left = c.args.progress.now.left }) c.in-Ok-Some.family c.requires.going
    (record { takes = took_some c.args.progress.now.families.items c.take_next.new.families.items _ c.in-Ok-Some.family c.in-Ok-Some.field-0-is c.in-Ok-Some.ensures.took; names = c.truncate.ensures.items; nodes = refl; places = refl; used = refl; left = refl })

pub turn-requires-clause-deep : goal.turn-requires-clause-deep
turn-requires-clause-deep g c = taken_deep c.args.span.wide c.args.span.end c.args.progress.now (record { families = c.take_next.new.families; names = c.truncate.new.self; nodes = c.args.progress.now.nodes; places = c.args.progress.now.places; used = c.args.progress.now.used; left = c.args.progress.now.left }) c.in-Ok-Some.family c.requires.going
    (record { takes = took_some c.args.progress.now.families.items c.take_next.new.families.items _ c.in-Ok-Some.family c.in-Ok-Some.field-0-is c.in-Ok-Some.ensures.took; names = c.truncate.ensures.items; nodes = refl; places = refl; used = refl; left = refl })
    c.in_ok-child.child c.in_ok-child.ensures.child

pub turn-requires-clause-named : goal.turn-requires-clause-named
turn-requires-clause-named g c = taken_named c.args.span.wide c.args.span.end c.args.progress.now (record { families = c.take_next.new.families; names = c.truncate.new.self; nodes = c.args.progress.now.nodes; places = c.args.progress.now.places; used = c.args.progress.now.used; left = c.args.progress.now.left }) c.in-Ok-Some.family c.requires.going
    (record { takes = took_some c.args.progress.now.families.items c.take_next.new.families.items _ c.in-Ok-Some.family c.in-Ok-Some.field-0-is c.in-Ok-Some.ensures.took; names = c.truncate.ensures.items; nodes = refl; places = refl; used = refl; left = refl })

pub turn-requires-clause-follows : goal.turn-requires-clause-follows
turn-requires-clause-follows g c = taken_follows c.args.span.wide c.args.span.end c.args.progress.now (record { families = c.take_next.new.families; names = c.truncate.new.self; nodes = c.args.progress.now.nodes; places = c.args.progress.now.places; used = c.args.progress.now.used; left = c.args.progress.now.left }) c.in-Ok-Some.family c.requires.going
    (record { takes = took_some c.args.progress.now.families.items c.take_next.new.families.items _ c.in-Ok-Some.family c.in-Ok-Some.field-0-is c.in-Ok-Some.ensures.took; names = c.truncate.ensures.items; nodes = refl; places = refl; used = refl; left = refl })
    c.in_ok-child.child c.in_ok-child.ensures.child

pub returns-in-Ok-clause-goes_on : goal.returns-in-Ok-clause-goes_on
returns-in-Ok-clause-goes_on g c = λ image told reach survey.
    let inside = reach.inside in
    let within = taken_within c.args.span.wide c.args.span.end c.args.progress.now (record { families = c.take_next.new.families; names = c.truncate.new.self; nodes = c.args.progress.now.nodes; places = c.args.progress.now.places; used = c.args.progress.now.used; left = c.args.progress.now.left }) c.in-Ok-Some.family c.requires.going
    (record { takes = took_some c.args.progress.now.families.items c.take_next.new.families.items _ c.in-Ok-Some.family c.in-Ok-Some.field-0-is c.in-Ok-Some.ensures.took; names = c.truncate.ensures.items; nodes = refl; places = refl; used = refl; left = refl }) in
    let is = c.in_ok-child.ensures.says image told (omega (arith, within, inside)) in
    c.in-Ok.ensures.goes_on image (c.child_of.ensures.effect.held ∙ told) reach
    (taken_next c.args.span.wide c.args.span.end c.args.progress.now (record { families = c.take_next.new.families; names = c.truncate.new.self; nodes = c.args.progress.now.nodes; places = c.args.progress.now.places; used = c.args.progress.now.used; left = c.args.progress.now.left }) c.in-Ok-Some.family c.requires.going
    (record { takes = took_some c.args.progress.now.families.items c.take_next.new.families.items _ c.in-Ok-Some.family c.in-Ok-Some.field-0-is c.in-Ok-Some.ensures.took; names = c.truncate.ensures.items; nodes = refl; places = refl; used = refl; left = refl })
    image c.in_ok-child.child c.name_in-name.result c.in_ok-child.ensures.child is c.name_in-name.ensures survey)
