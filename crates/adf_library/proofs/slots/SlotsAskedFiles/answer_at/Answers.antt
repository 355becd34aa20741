use Rattle.std.proofs.Common.{ap, arith, map}
use Rattle.adf_library.specs.Calls.{field_in}
use Rattle.adf_library.specs.Places.{in_work, file_of}
use Rattle.adf_library.proofs.LookLaws.{answered_among, leaves_among, own, pending_among}
use Rattle.adf_library.proofs.slots.SlotsAskedFiles.answer_at.Goals as goal
use Rattle.adf_model.specs.Answers.{field_at}
use Rattle.adf_model.specs.Slots as model

pub returns-clause-pending : goal.returns-clause-pending
returns-clause-pending g c = pending_among g.D.Device.state c.args.self.now.items.items c.args.at.file c.index_mut.result.now c.answer_in.new.slot (omega (arith, c.len.ensures, c.if-at-len.false)) c.index_mut.ensures.value c.answer_in.ensures.looks

pub returns-clause-leaves : goal.returns-clause-leaves
returns-clause-leaves g c = leaves_among g.D.Device.state c.args.self.now.items.items c.args.at.file c.index_mut.result.now c.answer_in.new.slot (omega (arith, c.len.ensures, c.if-at-len.false)) c.index_mut.ensures.value c.answer_in.ensures.looks

pub returns-clause-found : goal.returns-clause-found
returns-clause-found g c =
    answered_among g.D.Device.state c.args.self.now.items.items c.args.at.file c.index_mut.result.now c.answer_in.new.slot (omega (arith, c.len.ensures, c.if-at-len.false)) c.index_mut.ensures.value c.answer_in.ensures.looks
    c.args.at c.args.query.now (field_at (map (file_of in_work g.D.Device.state) c.args.self.now.items.items) c.args.at c.args.query.now) c.answer_in.result
    (ap (λ (s : model.Slot). field_in s c.args.at c.args.query.now) (own g.D.Device.state c.args.self.now.items.items c.args.at.file c.index_mut.result.now c.answer_in.new.slot (omega (arith, c.len.ensures, c.if-at-len.false)) c.index_mut.ensures.value c.answer_in.ensures.looks)) c.answer_in.ensures.answers
