use Rattle.std.proofs.Common.{◌<◌, sym, ◌∙◌, ap, length, map, Some, None}
use Rattle.adf_library.specs.Places.{in_work, file_of}
use Rattle.adf_library.proofs.Among.{slot_here}
use Rattle.adf_library.proofs.NumberLaws.{linked_found, same_number}
use Rattle.adf_library.proofs.slots.SlotsOpenFiles.linked_file.Goals as goal
use Rattle.adf_model.specs.Follow.{open_file}
use Rattle.adf_model.specs.Slots as model

pub returns-in-Some : goal.returns-in-Some
returns-in-Some g c =
    let state = g.D.Device.state in
    let items = c.args.self.now.items.items in
    let number = c.in-Some.number in
    let within : number < length items = rw c.deref.ensures.value at c.in-Some.ensures.stands in
    c.open_number.ensures
    ∙ ap (λ (s : model.Slot). open_file s number) (sym (slot_here in_work state items number c.index.result.now c.index.result.now within c.index.ensures))
    ∙ sym (linked_found (map (file_of in_work state) items) c.args.own c.args.name.now (Some number) (sym c.is_empty.ensures ∙ c.if-is_empty.false)
    (same_number state items 0 c.args.name.now c.requires.0 ∙ sym (rw c.deref.ensures.value at c.place_in.ensures.number) ∙ c.in-Some.is))

pub returns-in-None : goal.returns-in-None
returns-in-None g c =
    let state = g.D.Device.state in
    let items = c.args.self.now.items.items in
    sym (linked_found (map (file_of in_work state) items) c.args.own c.args.name.now None (sym c.is_empty.ensures ∙ c.if-is_empty.false)
    (same_number state items 0 c.args.name.now c.requires.0 ∙ sym (rw c.deref.ensures.value at c.place_in.ensures.number) ∙ c.in-None.is))
