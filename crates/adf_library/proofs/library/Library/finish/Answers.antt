use Rattle.std.proofs.Common.{◌∙◌, ap, map, List, arith}
use Rattle.adf_library.specs.Library.{shelf_device}
use Rattle.adf_library.specs.Shelf.{SlotState}
use Rattle.adf_library.proofs.ShelfLaws.{devices_unplaced, whole_kept, ready_whole, same_length}
use Rattle.adf_library.proofs.library.Library.finish.Goals as goal

pub returns-clause-devices : goal.returns-clause-devices
returns-clause-devices g c = ap (λ (l : List SlotState). map shelf_device l) c.close_all.ensures.slots ∙ devices_unplaced g.D.Device.state c.args.self.slots.items.items

pub returns-clause-whole : goal.returns-clause-whole
returns-clause-whole g c =
    whole_kept g.D.Device.state c.args.self.slots.items.items c.close_all.new.slots.items c.close_all.ensures.slots (ready_whole g.D.Device.state c.args.self.slots.items.items c.requires.ready.0)

pub returns-clause-shelf : goal.returns-clause-shelf
returns-clause-shelf g c =
    let same = same_length g.D.Device.state c.args.self.slots.items.items c.close_all.new.slots.items c.close_all.ensures.slots in
    let short = c.requires.ready.1 in
    omega (arith, same, short)
