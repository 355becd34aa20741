use Rattle.std.proofs.Common.{◌≡◌, map, [], ◌∷◌, ◌∙◌, sym, subst}
use Rattle.adf_library.specs.Places.{in_work, file_of}
use Rattle.adf_library.proofs.EnterLaws.{entered}
use Rattle.adf_library.proofs.EntryLaws.{both_enter}
use Rattle.adf_library.proofs.slots.SlotsEditedFiles.enter.Goals as goal
use Rattle.adf_model.specs.Calls.{tests_at_entry}
use Rattle.adf_model.specs.Edits.{named_nodes}
use Rattle.adf_model.specs.declared.tree.Edit.{Edit}

pub returns-in-Move : goal.returns-in-Move
returns-in-Move g c =
    let files = map (file_of in_work g.D.Device.state) c.args.self.now.items.items in
    subst (λ (e : Edit). c.first_of.result ≡ entered (tests_at_entry files (named_nodes e))) (sym c.in-Move.is)
    (c.first_of.ensures ∙ both_enter files c.in-Move.node c.in-Move.parent c.enter_node.result c.enter_node-in-Move.result c.enter_node.ensures c.enter_node-in-Move.ensures)
