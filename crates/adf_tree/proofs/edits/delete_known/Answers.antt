use Rattle.adf_tree.proofs.DeletesAnswer.{delete_done, delete_refused}
use Rattle.adf_tree.proofs.edits.delete_known.Goals as goal

pub returns-in-Ok : goal.returns-in-Ok
returns-in-Ok g c =
    delete_done g.S.ReadBytes.is_sound g.S.ReadBytes.image g.S.ReadBytes.state g.S.ReadBytes.waiting c.args.core.now c.delete.new.core c.args.node c.args.space.now c.delete.new.space
    c.delete.ensures.kept c.delete.ensures.near c.in-Ok.ensures.done c.in-Ok.ensures.reached c.in-Ok.ensures.allowed c.in-Ok.ensures.writes

pub returns-in-Err : goal.returns-in-Err
returns-in-Err g c =
    delete_refused g.S.ReadBytes.is_sound g.S.ReadBytes.image g.S.ReadBytes.state g.S.ReadBytes.waiting c.args.core.now c.delete.new.core c.args.node c.args.space.now c.delete.new.space
    c.delete.ensures.kept c.delete.ensures.near c.in-Err.error c.in-Err.ensures.refused c.in-Err.ensures.writes
