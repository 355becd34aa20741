use Rattle.std.proofs.Common.{sym, ◌∙◌, ap, arith}
use Rattle.std.specs.Prelude.{is_some}
use Rattle.adf_library.specs.Shelf.{discarded}
use Rattle.adf_library.proofs.ShelfSlots.{put_slot, put_past, device_here, device_past}
use Rattle.adf_library.proofs.shelf.Shelf.discard.Goals as goal

pub returns-then-at-len-clause-said : goal.returns-then-at-len-clause-said
returns-then-at-len-clause-said g c = ap is_some (sym (device_past _ c.args.self.now.slots.items c.args.number (omega arith)))

pub returns-then-at-len-clause-rest : goal.returns-then-at-len-clause-rest
returns-then-at-len-clause-rest g c = put_past _ discarded c.args.self.now.slots.items c.args.number (omega arith)

pub returns-clause-said : goal.returns-clause-said
returns-clause-said g c = c.drop_device.ensures.said ∙ ap is_some (sym (device_here _ c.args.self.now.slots.items c.args.number c.index_mut.result.now (omega arith) c.index_mut.ensures.value))

pub returns-clause-rest : goal.returns-clause-rest
returns-clause-rest g c = put_slot _ discarded c.args.self.now.slots.items c.args.number c.index_mut.result.now c.drop_device.new.place (omega arith) c.index_mut.ensures.value c.drop_device.ensures.rest
