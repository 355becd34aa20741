use Rattle.adf_tree.proofs.EditsAnswer.{create_done, create_refused}
use Rattle.adf_tree.proofs.KnownLists.{known_children}
use Rattle.adf_tree.proofs.edits.new_node.Goals as goal

pub returns-in-Ok : goal.returns-in-Ok
returns-in-Ok g c =
    create_done g.S.ReadBytes.is_sound g.S.ReadBytes.image g.S.ReadBytes.state g.S.ReadBytes.waiting c.args.core.now c.create.new.core c.args.at c.args.name.now c.args.label.now c.args.space.now c.create.new.space
    c.create.ensures.kept c.create.ensures.near c.in-Ok.serial c.in-Ok.ensures.done c.in-Ok.ensures.reached c.in-Ok.ensures.serial c.in-Ok.ensures.allowed c.in-Ok.ensures.writes

pub returns-in-Err : goal.returns-in-Err
returns-in-Err g c =
    create_refused g.S.ReadBytes.is_sound g.S.ReadBytes.image g.S.ReadBytes.state g.S.ReadBytes.waiting c.args.core.now c.create.new.core c.args.at c.args.name.now c.args.label.now c.args.space.now c.create.new.space
    c.create.ensures.kept c.create.ensures.near c.in-Err.error c.in-Err.ensures.refused c.in-Err.ensures.writes

pub create-requires-clause-known : goal.create-requires-clause-known
create-requires-clause-known g c =
    known_children (λ list. list.now) c.args.core.now (g.S.ReadBytes.image c.args.space.now) c.args.names.now c.requires.names c.requires.means c.args.at.serial c.list.result c.list.ensures
