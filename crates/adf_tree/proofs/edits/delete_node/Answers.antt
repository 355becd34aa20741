use Rattle.adf_model.specs.declared.tree.Edit.TheVariants.{Delete}
use Rattle.adf_tree.proofs.DeletesAnswer.{memory_answers}
use Rattle.adf_tree.proofs.edits.delete_node.Goals as goal

pub returns-in-Err : goal.returns-in-Err
returns-in-Err g c =
    memory_answers g.S.ReadBytes.is_sound g.S.ReadBytes.image g.S.ReadBytes.state g.S.ReadBytes.waiting (Delete c.args.node) c.args.core.now c.args.space.now c.requires.near c.requires.sound c.in-Err.error c.in-Err.ensures
