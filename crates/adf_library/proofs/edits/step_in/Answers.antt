use Rattle.std.proofs.Common.{subst}
use Rattle.adf_library.specs.Places.{IsReadyPlace}
use Rattle.adf_library.proofs.EditedPlace.{step_stays, step_steps, step_refuses, step_drops}
use Rattle.adf_library.proofs.edits.step_in.Goals as goal

pub returns-clause-waits : goal.returns-clause-waits
returns-clause-waits g c =
    step_stays g.D.Device.state c.args.slot.now c.in-Open.file c.step_at.new.self c.in-Open.is (subst (IsReadyPlace g.D.Device.state) c.in-Open.is c.requires.ready) c.requires.opened
    c.args.edit.now c.args.there c.step_at.ensures.sound c.step_at.result c.step_at.ensures.ends

pub returns-clause-done : goal.returns-clause-done
returns-clause-done g c =
    step_steps g.D.Device.state c.args.slot.now c.in-Open.file c.step_at.new.self c.in-Open.is (subst (IsReadyPlace g.D.Device.state) c.in-Open.is c.requires.ready) c.requires.opened
    c.args.edit.now c.args.there c.step_at.ensures.sound c.step_at.result c.step_at.ensures.ends

pub returns-clause-refused : goal.returns-clause-refused
returns-clause-refused g c =
    step_refuses g.D.Device.state c.args.slot.now c.in-Open.file c.step_at.new.self c.in-Open.is (subst (IsReadyPlace g.D.Device.state) c.in-Open.is c.requires.ready) c.requires.opened
    c.args.edit.now c.args.there c.step_at.ensures.sound c.step_at.result c.step_at.ensures.ends

pub returns-clause-undone : goal.returns-clause-undone
returns-clause-undone g c =
    step_drops g.D.Device.state c.args.slot.now c.in-Open.file c.step_at.new.self c.in-Open.is (subst (IsReadyPlace g.D.Device.state) c.in-Open.is c.requires.ready) c.requires.opened
    c.args.edit.now c.args.there c.step_at.ensures.sound c.step_at.result c.step_at.ensures.ends
