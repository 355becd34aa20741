use Rattle.std.proofs.Common.{refl, [], ◌∷◌}
use Rattle.call_script.specs.declared.words.EditWord.TheVariants as edits
use Rattle.call_script.specs.Lines.{edit_of}
use Rattle.call_script.specs.Tokens.{tokens_left}
use Rattle.call_script.specs.Fields.Kind.{a_node, a_text, some_bytes, a_type, some_dims, a_selection}
use Rattle.call_script.proofs.Reading.{ended_by, fails_here, fails_later, behind}
use Rattle.call_script.proofs.edits.read_fields.Goals as goal

pub returns-in_err-node : goal.returns-in_err-node
returns-in_err-node c = rw (ended_by _ _ c.from_residual.ensures.1) (fails_here a_node _ _ _ c.in_err-node.ensures)

pub returns-in-Create : goal.returns-in-Create
returns-in-Create c = rw c.in-Create.is (behind a_node (a_text ∷ a_text ∷ []) (edit_of edits.Create) _ _ (tokens_left c.read_create.new.tokens) _ _ c.in_ok-node.ensures c.read_create.ensures)

pub returns-in-Delete : goal.returns-in-Delete
returns-in-Delete c = rw c.in-Delete.is ((_, tt), refl, (_, c.in_ok-node.ensures, refl))

pub returns-in_err-name-in-Rename : goal.returns-in_err-name-in-Rename
returns-in_err-name-in-Rename c = rw (c.in-Rename.is, ended_by _ _ c.from_residual-in_err-name-in-Rename.ensures.1) (fails_later a_node _ _ _ _ _ c.in_ok-node.ensures c.in_err-name-in-Rename.ensures)

pub returns-in_ok-name-in-Rename : goal.returns-in_ok-name-in-Rename
returns-in_ok-name-in-Rename c = rw c.in-Rename.is ((_, (_, tt)), refl, (_, c.in_ok-node.ensures, (_, c.in_ok-name-in-Rename.ensures, refl)))

pub returns-in_err-parent-in-Move : goal.returns-in_err-parent-in-Move
returns-in_err-parent-in-Move c = rw (c.in-Move.is, ended_by _ _ c.from_residual-in_err-parent-in-Move.ensures.1) (fails_later a_node _ _ _ _ _ c.in_ok-node.ensures c.in_err-parent-in-Move.ensures)

pub returns-in_ok-parent-in-Move : goal.returns-in_ok-parent-in-Move
returns-in_ok-parent-in-Move c = rw c.in-Move.is ((_, (_, tt)), refl, (_, c.in_ok-node.ensures, (_, c.in_ok-parent-in-Move.ensures, refl)))

pub returns-in_err-label-in-SetLabel : goal.returns-in_err-label-in-SetLabel
returns-in_err-label-in-SetLabel c = rw (c.in-SetLabel.is, ended_by _ _ c.from_residual-in_err-label-in-SetLabel.ensures.1) (fails_later a_node _ _ _ _ _ c.in_ok-node.ensures c.in_err-label-in-SetLabel.ensures)

pub returns-in_ok-label-in-SetLabel : goal.returns-in_ok-label-in-SetLabel
returns-in_ok-label-in-SetLabel c = rw c.in-SetLabel.is ((_, (_, tt)), refl, (_, c.in_ok-node.ensures, (_, c.in_ok-label-in-SetLabel.ensures, refl)))

pub returns-in-SetDims : goal.returns-in-SetDims
returns-in-SetDims c = rw c.in-SetDims.is (behind a_node (a_type ∷ some_dims ∷ []) (edit_of edits.SetDims) _ _ (tokens_left c.read_set_dims.new.tokens) _ _ c.in_ok-node.ensures c.read_set_dims.ensures)

pub returns-in_err-bytes-in-PutAll : goal.returns-in_err-bytes-in-PutAll
returns-in_err-bytes-in-PutAll c = rw (c.in-PutAll.is, ended_by _ _ c.from_residual-in_err-bytes-in-PutAll.ensures.1) (fails_later a_node _ _ _ _ _ c.in_ok-node.ensures c.in_err-bytes-in-PutAll.ensures)

pub returns-in_ok-bytes-in-PutAll : goal.returns-in_ok-bytes-in-PutAll
returns-in_ok-bytes-in-PutAll c = rw c.in-PutAll.is ((_, (_, tt)), refl, (_, c.in_ok-node.ensures, (_, c.in_ok-bytes-in-PutAll.ensures, refl)))

pub returns-in-PutPart : goal.returns-in-PutPart
returns-in-PutPart c = rw c.in-PutPart.is (behind a_node (a_selection ∷ some_bytes ∷ []) (edit_of edits.PutPart) _ _ (tokens_left c.read_put_part.new.tokens) _ _ c.in_ok-node.ensures c.read_put_part.ensures)

pub returns-in-Link : goal.returns-in-Link
returns-in-Link c = rw c.in-Link.is (behind a_node (a_text ∷ a_text ∷ a_text ∷ []) (edit_of edits.Link) _ _ (tokens_left c.read_link.new.tokens) _ _ c.in_ok-node.ensures c.read_link.ensures)
