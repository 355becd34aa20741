use Rattle.std.proofs.Common.{◌∙◌, ap, sym}
use Rattle.std.specs.Prelude.{Option, is_some}
use Rattle.tree_edits.specs.declared.rows.Row.{Row}
use Rattle.adf_tree.proofs.EditsAnswer.{label_done, label_none, label_refused}
use Rattle.adf_tree.proofs.edits.new_label.Goals as goal

pub returns-in-None : goal.returns-in-None
returns-in-None g c =
    label_none g.S.ReadBytes.is_sound g.S.ReadBytes.image g.S.ReadBytes.state g.S.ReadBytes.waiting c.args.core.now c.args.node c.args.label.now c.args.space.now c.args.space.now c.requires.near
    c.requires.sound (sym c.get.ensures ∙ c.in-None.is)

pub returns-in-Ok : goal.returns-in-Ok
returns-in-Ok g c =
    label_done g.S.ReadBytes.is_sound g.S.ReadBytes.image g.S.ReadBytes.state g.S.ReadBytes.waiting c.args.core.now c.args.node c.args.label.now c.args.space.now c.set_label.new.space c.requires.near
    c.in-Ok.ensures.done c.in-Ok.ensures.reached c.in-Ok.ensures.allowed c.in-Ok.ensures.writes

pub returns-in-Err : goal.returns-in-Err
returns-in-Err g c =
    label_refused g.S.ReadBytes.is_sound g.S.ReadBytes.image g.S.ReadBytes.state g.S.ReadBytes.waiting c.args.core.now c.args.node c.args.label.now c.args.space.now c.set_label.new.space c.requires.near
    c.in-Err.error (ap (λ (o : Option Row). is_some o) (sym c.get.ensures ∙ c.in-Some.is)) c.in-Err.ensures.refused c.in-Err.ensures.writes
