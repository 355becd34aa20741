use Rattle.std.proofs.Common.{ap, arith}
use Rattle.adf_model.specs.Slots.{File}
use Rattle.adf_library.proofs.EditAmong.{cause_among, done_among, editing_among, kept_stays, only_one, only_waits, others_work, ready_set, refused_among, undone_among}
use Rattle.adf_library.proofs.slots.SlotsEditedFiles.step.Goals as goal

pub returns-clause-ready : goal.returns-clause-ready
returns-clause-ready g c = ready_set g.D.Device.state c.args.self.now.items.items c.args.number c.index_mut.result.now c.step_in.new.slot (omega (arith, c.len.ensures, c.if-number-len.false)) c.index_mut.ensures.value (ap (λ (f : File). f.name) c.step_in.ensures.waits.kept) c.step_in.ensures.ready c.requires.ready

pub returns-clause-kept : goal.returns-clause-kept
returns-clause-kept g c = kept_stays g.D.Device.state c.args.self.now.items.items c.args.number c.index_mut.result.now c.step_in.new.slot (omega (arith, c.len.ensures, c.if-number-len.false)) c.index_mut.ensures.value (ap (λ (f : File). f.name) c.step_in.ensures.waits.kept) c.step_in.ensures.waits

pub returns-clause-waits : goal.returns-clause-waits
returns-clause-waits g c = only_waits g.D.Device.state c.args.self.now.items.items c.args.number c.index_mut.result.now c.step_in.new.slot (omega (arith, c.len.ensures, c.if-number-len.false)) c.index_mut.ensures.value (ap (λ (f : File). f.name) c.step_in.ensures.waits.kept) c.step_in.ensures.waits

pub returns-clause-others : goal.returns-clause-others
returns-clause-others g c = others_work g.D.Device.state c.args.self.now.items.items c.args.number c.index_mut.result.now c.step_in.new.slot (omega (arith, c.len.ensures, c.if-number-len.false)) c.index_mut.ensures.value (ap (λ (f : File). f.name) c.step_in.ensures.waits.kept)

pub returns-clause-only : goal.returns-clause-only
returns-clause-only g c = only_one g.D.Device.state c.args.self.now.items.items c.args.number c.index_mut.result.now c.step_in.new.slot (omega (arith, c.len.ensures, c.if-number-len.false)) c.index_mut.ensures.value (ap (λ (f : File). f.name) c.step_in.ensures.waits.kept)

pub returns-clause-editing : goal.returns-clause-editing
returns-clause-editing g c = editing_among g.D.Device.state c.args.self.now.items.items c.args.number c.index_mut.result.now c.step_in.new.slot (omega (arith, c.len.ensures, c.if-number-len.false)) c.index_mut.ensures.value (ap (λ (f : File). f.name) c.step_in.ensures.waits.kept) _ c.step_in.result c.step_in.ensures.done

pub returns-clause-done : goal.returns-clause-done
returns-clause-done g c = done_among g.D.Device.state c.args.self.now.items.items c.args.number c.index_mut.result.now c.step_in.new.slot (omega (arith, c.len.ensures, c.if-number-len.false)) c.index_mut.ensures.value (ap (λ (f : File). f.name) c.step_in.ensures.waits.kept) _ c.step_in.result c.step_in.ensures.done

pub returns-clause-refused : goal.returns-clause-refused
returns-clause-refused g c = refused_among g.D.Device.state c.args.self.now.items.items c.args.number c.index_mut.result.now c.step_in.new.slot (omega (arith, c.len.ensures, c.if-number-len.false)) c.index_mut.ensures.value (ap (λ (f : File). f.name) c.step_in.ensures.waits.kept) _ _ c.step_in.result c.step_in.ensures.refused

pub returns-clause-undone : goal.returns-clause-undone
returns-clause-undone g c = undone_among g.D.Device.state c.args.self.now.items.items c.args.number c.index_mut.result.now c.step_in.new.slot (omega (arith, c.len.ensures, c.if-number-len.false)) c.index_mut.ensures.value (ap (λ (f : File). f.name) c.step_in.ensures.waits.kept) c.step_in.result c.step_in.ensures.undone

pub returns-clause-cause : goal.returns-clause-cause
returns-clause-cause g c = cause_among g.D.Device.state c.args.self.now.items.items c.args.number c.index_mut.result.now c.step_in.new.slot (omega (arith, c.len.ensures, c.if-number-len.false)) c.index_mut.ensures.value (ap (λ (f : File). f.name) c.step_in.ensures.waits.kept) _ _ c.step_in.result c.step_in.ensures.refused
