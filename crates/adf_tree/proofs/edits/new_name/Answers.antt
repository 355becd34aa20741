use Rattle.adf_tree.proofs.EditsAnswer.{name_done, name_refused}
use Rattle.adf_tree.proofs.KnownLists.{known_siblings}
use Rattle.adf_tree.proofs.edits.new_name.Goals as goal

pub returns-in-Ok : goal.returns-in-Ok
returns-in-Ok g c =
    name_done g.S.ReadBytes.is_sound g.S.ReadBytes.image g.S.ReadBytes.state g.S.ReadBytes.waiting c.args.core.now c.args.node c.args.name.now c.args.space.now c.rename.new.space c.requires.near
    c.in-Ok.ensures.done c.in-Ok.ensures.reached c.in-Ok.ensures.allowed c.in-Ok.ensures.writes

pub returns-in-Err : goal.returns-in-Err
returns-in-Err g c =
    name_refused g.S.ReadBytes.is_sound g.S.ReadBytes.image g.S.ReadBytes.state g.S.ReadBytes.waiting c.args.core.now c.args.node c.args.name.now c.args.space.now c.rename.new.space c.requires.near
    c.in-Err.error c.in-Err.ensures.refused c.in-Err.ensures.writes

pub rename-requires-clause-known : goal.rename-requires-clause-known
rename-requires-clause-known g c =
    known_siblings (λ list. list.now) c.args.core.now (g.S.ReadBytes.image c.args.space.now) c.args.names.now c.requires.names c.requires.means c.args.node.serial c.siblings-known.result c.siblings-known.ensures
