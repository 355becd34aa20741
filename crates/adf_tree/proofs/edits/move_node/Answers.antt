use Rattle.adf_tree.proofs.MovesAnswer.{move_done, move_refused}
use Rattle.adf_tree.proofs.KnownLists.{known_children}
use Rattle.adf_tree.proofs.edits.move_node.Goals as goal

pub returns-in-Ok : goal.returns-in-Ok
returns-in-Ok g c =
    move_done g.S.ReadBytes.is_sound g.S.ReadBytes.image g.S.ReadBytes.state g.S.ReadBytes.waiting c.args.core.now c.move_to.new.core c.args.node c.args.at c.args.space.now c.move_to.new.space
    c.move_to.ensures.kept c.move_to.ensures.near c.in-Ok.ensures.done c.in-Ok.ensures.reached c.in-Ok.ensures.allowed c.in-Ok.ensures.writes

pub returns-in-Err : goal.returns-in-Err
returns-in-Err g c =
    move_refused g.S.ReadBytes.is_sound g.S.ReadBytes.image g.S.ReadBytes.state g.S.ReadBytes.waiting c.args.core.now c.move_to.new.core c.args.node c.args.at c.args.space.now c.move_to.new.space
    c.move_to.ensures.kept c.move_to.ensures.near c.in-Err.error c.in-Err.ensures.refused c.in-Err.ensures.writes

pub move_to-requires-clause-known : goal.move_to-requires-clause-known
move_to-requires-clause-known g c =
    known_children (λ list. list.now) c.args.core.now (g.S.ReadBytes.image c.args.space.now) c.args.names.now c.requires.names c.requires.means c.args.at.serial c.list.result c.list.ensures
