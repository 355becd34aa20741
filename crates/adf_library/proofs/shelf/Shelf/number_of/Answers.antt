use Rattle.adf_library.proofs.ShelfSlots.{same_names, there}
use Rattle.adf_library.proofs.shelf.Shelf.number_of.Goals as goal

pub returns-clause-number : goal.returns-clause-number
returns-clause-number g c = rw (same_names _ c.args.self.now.slots.items c.args.name.now 0, ← c.deref.ensures.value) c.place_in.ensures.number

pub returns-clause-there : goal.returns-clause-there
returns-clause-there g c = λ whole. there g.D.Device.state c.args.self.now.slots.items c.args.name.now whole c.place_in.result
    (rw (same_names g.D.Device.state c.args.self.now.slots.items c.args.name.now 0, ← c.deref.ensures.value) c.place_in.ensures.number)
