use Rattle.std.proofs.Common.{◌∙◌, ap, sym, subst, ◌++◌, ℕ}
use Rattle.std.specs.Prelude.{Option, Err}
use Rattle.adf_model.specs.declared.error.AdfError.{AdfError}
use Rattle.adf_tree.specs.Files.{state_of}
use Rattle.adf_tree.specs.Groups.{NextEnds, made_of}
use Rattle.adf_tree.proofs.Grouping.{memory_refused, step_refused}
use Rattle.adf_tree.proofs.file.AdfFile.next_step.Goals as goal

pub returns-in-Err-clause-ends : goal.returns-in-Err-clause-ends
returns-in-Err-clause-ends g c =
    let state = g.D.Device.state in
    step_refused c.args.edit.now c.in-Err.error c.args.created.now.items c.args.created.now.items (state_of state c.args.self.now) (state_of state c.step.new.self) c.in-Err.ensures.ends

pub returns-in-Ok-keep_made-clause-ends : goal.returns-in-Ok-keep_made-clause-ends
returns-in-Ok-keep_made-clause-ends g c =
    let stepped = c.in-Ok.ensures.ends in
    (c.in-Ok.serial, stepped, c.in-Ok-keep_made.ensures.kept ∙ ap (λ (s : Option ℕ). c.args.created.now.items ++ made_of c.args.edit.now s) stepped.drawn)

pub returns-in-Err-keep_made-clause-ends : goal.returns-in-Err-keep_made-clause-ends
returns-in-Err-keep_made-clause-ends g c =
    let state = g.D.Device.state in
    let old = state_of state c.args.self.now in
    let new = state_of state c.undo.new.self in
    subst (λ (e : AdfError). NextEnds c.args.edit.now (Err e) c.args.created.now.items c.keep_made.new.created.items old new) (sym c.in-Err-keep_made.ensures.memory)
    (memory_refused c.args.edit.now c.in-Ok.serial old (state_of state c.step.new.self) new c.in-Ok.ensures.ends c.undo.ensures.undone)
