use Rattle.std.proofs.Common.{subst}
use Rattle.adf_model.specs.declared.tree.Edit.{Edit}
use Rattle.adf_tree.specs.Steps.{EditAnswers}
use Rattle.adf_tree.proofs.ReachedEdits.{reached_create, reached_data, reached_deletion, reached_label, reached_link, reached_move, reached_name, reached_part, reached_shape}
use Rattle.adf_tree.proofs.edits.do_edit.Goals as goal

pub returns-in-Create : goal.returns-in-Create
returns-in-Create g c =
    subst (λ (e : Edit). EditAnswers g.S.ReadBytes.is_sound g.S.ReadBytes.image g.S.ReadBytes.state g.S.ReadBytes.waiting e c.args.core.now c.new_node.new.core c.args.space.now c.new_node.new.space c.new_node.result)
    (reached_create c.args.edit.now c.args.there _ _ _ _ _ _ c.in-Create.is c.or_reached.ensures c.items.ensures c.items-in-Create.ensures) c.new_node.ensures

pub returns-in-Rename : goal.returns-in-Rename
returns-in-Rename g c =
    subst (λ (e : Edit). EditAnswers g.S.ReadBytes.is_sound g.S.ReadBytes.image g.S.ReadBytes.state g.S.ReadBytes.waiting e c.args.core.now c.new_name.new.core c.args.space.now c.new_name.new.space c.new_name.result)
    (reached_name c.args.edit.now c.args.there _ _ _ c.in-Rename.is c.items-in-Rename.ensures) c.new_name.ensures

pub returns-in-SetLabel : goal.returns-in-SetLabel
returns-in-SetLabel g c =
    subst (λ (e : Edit). EditAnswers g.S.ReadBytes.is_sound g.S.ReadBytes.image g.S.ReadBytes.state g.S.ReadBytes.waiting e c.args.core.now c.new_label.new.core c.args.space.now c.new_label.new.space c.new_label.result)
    (reached_label c.args.edit.now c.args.there _ _ _ _ c.in-SetLabel.is c.or_reached-in-SetLabel.ensures c.items-in-SetLabel.ensures) c.new_label.ensures

pub returns-in-Link : goal.returns-in-Link
returns-in-Link g c =
    subst (λ (e : Edit). EditAnswers g.S.ReadBytes.is_sound g.S.ReadBytes.image g.S.ReadBytes.state g.S.ReadBytes.waiting e c.args.core.now c.new_link.new.core c.args.space.now c.new_link.new.space c.new_link.result)
    (reached_link c.args.edit.now c.args.there _ _ _ _ _ _ _ _ c.in-Link.is c.or_reached-in-Link.ensures c.items-in-Link.ensures c.items-in-Link-2.ensures c.items-in-Link-3.ensures) c.new_link.ensures

pub returns-in-Delete : goal.returns-in-Delete
returns-in-Delete g c =
    subst (λ (e : Edit). EditAnswers g.S.ReadBytes.is_sound g.S.ReadBytes.image g.S.ReadBytes.state g.S.ReadBytes.waiting e c.args.core.now c.delete_node.new.core c.args.space.now c.delete_node.new.space c.delete_node.result)
    (reached_deletion c.args.edit.now c.args.there _ c.in-Delete.is) c.delete_node.ensures

pub returns-in-Move : goal.returns-in-Move
returns-in-Move g c =
    subst (λ (e : Edit). EditAnswers g.S.ReadBytes.is_sound g.S.ReadBytes.image g.S.ReadBytes.state g.S.ReadBytes.waiting e c.args.core.now c.move_node.new.core c.args.space.now c.move_node.new.space c.move_node.result)
    (reached_move c.args.edit.now c.args.there _ _ _ c.in-Move.is c.or_reached-in-Move.ensures) c.move_node.ensures

pub returns-in-SetDims : goal.returns-in-SetDims
returns-in-SetDims g c =
    subst (λ (e : Edit). EditAnswers g.S.ReadBytes.is_sound g.S.ReadBytes.image g.S.ReadBytes.state g.S.ReadBytes.waiting e c.args.core.now c.new_shape.new.core c.args.space.now c.new_shape.new.space c.new_shape.result)
    (reached_shape c.args.edit.now c.args.there _ _ _ c.in-SetDims.is c.or_reached-in-SetDims.ensures) c.new_shape.ensures

pub returns-in-PutAll : goal.returns-in-PutAll
returns-in-PutAll g c =
    subst (λ (e : Edit). EditAnswers g.S.ReadBytes.is_sound g.S.ReadBytes.image g.S.ReadBytes.state g.S.ReadBytes.waiting e c.args.core.now c.new_data.new.core c.args.space.now c.new_data.new.space c.new_data.result)
    (reached_data c.args.edit.now c.args.there _ _ _ _ c.in-PutAll.is c.or_reached-in-PutAll.ensures c.items-in-PutAll.ensures) c.new_data.ensures

pub returns-in-PutPart : goal.returns-in-PutPart
returns-in-PutPart g c =
    subst (λ (e : Edit). EditAnswers g.S.ReadBytes.is_sound g.S.ReadBytes.image g.S.ReadBytes.state g.S.ReadBytes.waiting e c.args.core.now c.new_part.new.core c.args.space.now c.new_part.new.space c.new_part.result)
    (reached_part c.args.edit.now c.args.there _ _ _ _ _ c.in-PutPart.is c.or_reached-in-PutPart.ensures c.items-in-PutPart.ensures) c.new_part.ensures
