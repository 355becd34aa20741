use Rattle.std.proofs.Common.{sym, ◌∙◌, arith}
use Rattle.adf_library.specs.Shelf.{taken, IsNotTaken}
use Rattle.adf_library.specs.declared.places.Slot.{Slot}
use Rattle.adf_library.proofs.ShelfSlots.{put_slot, put_past, device_here, device_past, taken_left, stood, all_at, others_at}
use Rattle.adf_library.proofs.shelf.Shelf.take.Goals as goal

pub returns-then-at-len-clause-rest : goal.returns-then-at-len-clause-rest
returns-then-at-len-clause-rest g c = put_past _ taken c.args.self.now.slots.items c.args.number (omega arith)

pub returns-then-at-len-clause-device : goal.returns-then-at-len-clause-device
returns-then-at-len-clause-device g c = sym (device_past _ c.args.self.now.slots.items c.args.number (omega arith))

pub returns-clause-device : goal.returns-clause-device
returns-clause-device g c = c.take_device.ensures.device ∙ sym (device_here _ c.args.self.now.slots.items c.args.number c.index_mut.result.now (omega arith) c.index_mut.ensures.value)

pub returns-clause-rest : goal.returns-clause-rest
returns-clause-rest g c = put_slot _ taken c.args.self.now.slots.items c.args.number c.index_mut.result.now c.take_device.new.place (omega arith) c.index_mut.ensures.value c.take_device.ensures.rest

pub returns-clause-taken : goal.returns-clause-taken
returns-clause-taken g c = λ some.
    taken_left g.D.Device.state c.args.self.now.slots.items c.args.number c.index_mut.result.now c.take_device.new.place (omega arith) c.take_device.ensures.rest
    (stood g.D.Device.state c.take_device.result _ c.take_device.ensures.device some)

pub returns-then-at-len-clause-others : goal.returns-then-at-len-clause-others
returns-then-at-len-clause-others g c = λ whole k slot e ne. all_at (λ (s : Slot _). IsNotTaken s.place) c.args.self.now.slots.items k slot whole e

pub returns-clause-others : goal.returns-clause-others
returns-clause-others g c = λ whole k slot e ne. others_at (λ (s : Slot _). IsNotTaken s.place) c.args.self.now.slots.items c.args.number _ whole k slot e ne
