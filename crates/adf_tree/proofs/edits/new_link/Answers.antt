use Rattle.adf_tree.proofs.EditsAnswer.{link_done, link_refused}
use Rattle.adf_tree.proofs.KnownLists.{known_children}
use Rattle.adf_tree.proofs.edits.new_link.Goals as goal

pub returns-in-Ok : goal.returns-in-Ok
returns-in-Ok g c =
    link_done g.S.ReadBytes.is_sound g.S.ReadBytes.image g.S.ReadBytes.state g.S.ReadBytes.waiting c.args.core.now c.link.new.core c.args.at c.args.name.now c.args.file.now c.args.path.now c.args.space.now c.link.new.space
    c.link.ensures.kept c.link.ensures.near c.in-Ok.serial c.in-Ok.ensures.done c.in-Ok.ensures.reached c.in-Ok.ensures.serial c.in-Ok.ensures.allowed c.in-Ok.ensures.writes

pub returns-in-Err : goal.returns-in-Err
returns-in-Err g c =
    link_refused g.S.ReadBytes.is_sound g.S.ReadBytes.image g.S.ReadBytes.state g.S.ReadBytes.waiting c.args.core.now c.link.new.core c.args.at c.args.name.now c.args.file.now c.args.path.now c.args.space.now c.link.new.space
    c.link.ensures.kept c.link.ensures.near c.in-Err.error c.in-Err.ensures.refused c.in-Err.ensures.writes

pub link-requires-clause-known : goal.link-requires-clause-known
link-requires-clause-known g c =
    known_children (λ list. list.now) c.args.core.now (g.S.ReadBytes.image c.args.space.now) c.args.names.now c.requires.names c.requires.means c.args.at.serial c.list-known.result c.list-known.ensures
