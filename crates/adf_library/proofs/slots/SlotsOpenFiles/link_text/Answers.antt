use Rattle.std.proofs.Common.{ap, arith, map, Ok}
use Rattle.adf_follow.specs.Looking.{as_is}
use Rattle.adf_library.specs.Places.{in_work, file_of}
use Rattle.adf_library.proofs.LookLaws.{found_among, leaves_among, own, pending_among}
use Rattle.adf_library.proofs.slots.SlotsOpenFiles.link_text.Goals as goal
use Rattle.adf_model.specs.Follow.{link_text_at, text_of_open}
use Rattle.adf_model.specs.Slots.{open_of}
use Rattle.adf_model.specs.Slots as model

pub returns-clause-pending : goal.returns-clause-pending
returns-clause-pending g c = pending_among g.D.Device.state c.args.self.now.items.items c.args.node.file c.index_mut.result.now c.text_in.new.slot (omega (arith, c.len.ensures, c.if-node-len.false)) c.index_mut.ensures.value c.text_in.ensures.looks

pub returns-clause-leaves : goal.returns-clause-leaves
returns-clause-leaves g c = leaves_among g.D.Device.state c.args.self.now.items.items c.args.node.file c.index_mut.result.now c.text_in.new.slot (omega (arith, c.len.ensures, c.if-node-len.false)) c.index_mut.ensures.value c.text_in.ensures.looks

pub returns-clause-found : goal.returns-clause-found
returns-clause-found g c =
    found_among g.D.Device.state c.args.self.now.items.items c.args.node.file c.index_mut.result.now c.text_in.new.slot (omega (arith, c.len.ensures, c.if-node-len.false)) c.index_mut.ensures.value c.text_in.ensures.looks
    as_is (Ok (text_of_open (open_of (file_of in_work g.D.Device.state c.index_mut.result.now).slot) c.args.node.serial)) (Ok (link_text_at (map (file_of in_work g.D.Device.state) c.args.self.now.items.items) c.args.node)) c.text_in.result
    (ap (λ (s : model.Slot). Ok (text_of_open (open_of s) c.args.node.serial)) (own g.D.Device.state c.args.self.now.items.items c.args.node.file c.index_mut.result.now c.text_in.new.slot (omega (arith, c.len.ensures, c.if-node-len.false)) c.index_mut.ensures.value c.text_in.ensures.looks)) c.text_in.ensures.found
