use Rattle.std.proofs.Common.{arith, map}
use Rattle.adf_library.specs.Places.{in_work, file_of}
use Rattle.adf_library.proofs.Among.{slot_here}
use Rattle.adf_library.proofs.EnterLaws.{enters_there}
use Rattle.adf_library.proofs.slots.Slots.enter_node.Goals as goal

pub returns : goal.returns
returns g c =
    let items = c.args.self.now.items.items in
    enters_there (map (file_of in_work g.D.Device.state) items) c.args.node (file_of in_work g.D.Device.state c.index.result.now).slot c.enter.result
    (slot_here in_work g.D.Device.state items c.args.node.file c.index.result.now c.index.result.now (omega (arith, c.len.ensures, c.if-node-len.false)) c.index.ensures) c.enter.ensures
