use Rattle.std.proofs.Common.{refl, sym, ◌∙◌, ap, List, Some}
use Rattle.adf_library.specs.Shelf.{SlotState, slots_of, changed_at, taken}
use Rattle.tool_commands.proofs.TwoDevices.{still_taken, second_there, second_is_some, whole_but_both}
use Rattle.tool_commands.proofs.pairs.take_both.Goals as goal

pub unreachable-requires-in_default-take : goal.unreachable-requires-in_default-take
unreachable-requires-in_default-take g c =
    let state = g.D.Device.state in
    second_is_some state c.take-2.result _
    (second_there state c.take-2.result (slots_of state c.args.shelf.now) (slots_of state c.take.new.self) c.args.from c.args.to c.requires.apart c.take.ensures.rest c.take-2.ensures.device)
    c.requires.target c.in_default-take.is

pub returns-clause-target : goal.returns-clause-target
returns-clause-target g c =
    let state = g.D.Device.state in
    second_there state (Some c.in-Some-take.target) (slots_of state c.args.shelf.now) (slots_of state c.take.new.self) c.args.from c.args.to c.requires.apart c.take.ensures.rest c.in-Some-take.ensures.device

pub returns-clause-first : goal.returns-clause-first
returns-clause-first g c =
    let state = g.D.Device.state in
    still_taken taken (slots_of state c.take.new.self) (slots_of state c.take-2.new.self) c.args.to c.args.from (λ same. c.requires.apart (sym same)) c.take-2.ensures.rest (c.in-Some.ensures.taken refl)

pub returns-clause-whole : goal.returns-clause-whole
returns-clause-whole g c =
    let state = g.D.Device.state in
    whole_but_both state c.args.shelf.now c.take-2.new.self c.args.from c.args.to c.requires.whole
    (c.take-2.ensures.rest ∙ ap (λ (l : List SlotState). changed_at taken l c.args.to) c.take.ensures.rest)
