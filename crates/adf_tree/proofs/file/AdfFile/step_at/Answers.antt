use Rattle.std.proofs.Common.{◌∙◌, ap}
use Rattle.adf_tree.specs.Files.{FileState, state_of}
use Rattle.adf_tree.specs.Reached.{with_reached}
use Rattle.adf_tree.proofs.LookedFirst.{look_refused, step_behind}
use Rattle.adf_tree.proofs.file.AdfFile.step_at.Goals as goal

pub step_there-requires-clause-live : goal.step_there-requires-clause-live
step_there-requires-clause-live g c = ap (λ (file : FileState). file.broken) c.know_parent.ensures.looks.stays ∙ c.if-self.false

pub returns-in-Ok-clause-ends : goal.returns-in-Ok-clause-ends
returns-in-Ok-clause-ends g c =
    let state = g.D.Device.state in
    step_behind (with_reached c.args.edit.now c.args.there) c.step_there.result (state_of state c.args.self.now) (state_of state c.know_parent.new.self) (state_of state c.step_there.new.self) c.if-self.false c.know_parent.ensures.looks
    c.step_there.ensures.ends

pub returns-in-Err-clause-ends : goal.returns-in-Err-clause-ends
returns-in-Err-clause-ends g c =
    let state = g.D.Device.state in
    look_refused (with_reached c.args.edit.now c.args.there) c.in-Err.error (state_of state c.args.self.now) (state_of state c.know_parent.new.self) (state_of state c.undo.new.self) c.if-self.false c.know_parent.ensures.looks
    c.in-Err.ensures.refused c.undo.ensures.undone
