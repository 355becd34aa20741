use Rattle.std.proofs.Common.{ap, arith}
use Rattle.adf_model.specs.Slots.{File}
use Rattle.adf_library.proofs.EditAmong.{none_dropped, dropped, kept_stays, only_waits, others_work, ready_set}
use Rattle.adf_library.proofs.slots.SlotsEditedFiles.undo.Goals as goal

pub returns-clause-ready : goal.returns-clause-ready
returns-clause-ready g c = ready_set g.D.Device.state c.args.self.now.items.items c.args.number c.index_mut.result.now c.undo_in.new.slot (omega (arith, c.len.ensures, c.if-number-len.false)) c.index_mut.ensures.value (ap (λ (f : File). f.name) c.undo_in.ensures.waits.kept) c.undo_in.ensures.ready c.requires

pub returns-clause-kept : goal.returns-clause-kept
returns-clause-kept g c = kept_stays g.D.Device.state c.args.self.now.items.items c.args.number c.index_mut.result.now c.undo_in.new.slot (omega (arith, c.len.ensures, c.if-number-len.false)) c.index_mut.ensures.value (ap (λ (f : File). f.name) c.undo_in.ensures.waits.kept) c.undo_in.ensures.waits

pub returns-clause-waits : goal.returns-clause-waits
returns-clause-waits g c = only_waits g.D.Device.state c.args.self.now.items.items c.args.number c.index_mut.result.now c.undo_in.new.slot (omega (arith, c.len.ensures, c.if-number-len.false)) c.index_mut.ensures.value (ap (λ (f : File). f.name) c.undo_in.ensures.waits.kept) c.undo_in.ensures.waits

pub returns-clause-others : goal.returns-clause-others
returns-clause-others g c = others_work g.D.Device.state c.args.self.now.items.items c.args.number c.index_mut.result.now c.undo_in.new.slot (omega (arith, c.len.ensures, c.if-number-len.false)) c.index_mut.ensures.value (ap (λ (f : File). f.name) c.undo_in.ensures.waits.kept)

pub returns-clause-undone : goal.returns-clause-undone
returns-clause-undone g c = dropped g.D.Device.state c.args.self.now.items.items c.args.number c.index_mut.result.now c.undo_in.new.slot (omega (arith, c.len.ensures, c.if-number-len.false)) c.index_mut.ensures.value (ap (λ (f : File). f.name) c.undo_in.ensures.waits.kept) c.undo_in.ensures.undone

pub returns-then-number-len-clause-undone : goal.returns-then-number-len-clause-undone
returns-then-number-len-clause-undone g c = none_dropped g.D.Device.state c.args.self.now.items.items c.args.number (omega (arith, c.len.ensures, c.if-number-len.true))
