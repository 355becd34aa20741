use Rattle.adf_tree.proofs.AskLooks.{path_finds, tells_on}
use Rattle.adf_tree.proofs.AskWalks.{found_node, not_found}
use Rattle.adf_tree.proofs.asks.find.Goals as goal

pub returns-in-Ok-clause-told : goal.returns-in-Ok-clause-told
returns-in-Ok-clause-told g c = found_node c.args.core.now (g.S.ReadBytes.image c.args.space.now) c.args.node c.in-Ok.found c.args.path.now c.in-Ok.ensures.told

pub returns-in-Err-clause-told : goal.returns-in-Err-clause-told
returns-in-Err-clause-told g c =
    tells_on c.args.core.now (g.S.ReadBytes.image c.args.space.now) _ _ c.in-Err.error (not_found c.args.node c.args.path.now c.in-Err.error) c.in-Err.ensures.told

pub returns-in-Err-clause-reads : goal.returns-in-Err-clause-reads
returns-in-Err-clause-reads g c =
    let r = c.in-Err.ensures.reads in
    record { sound = r.sound; bytes = r.bytes; waits = r.waits; effect = r.effect; cause = path_finds c.args.node c.args.path.now _ _ c.in-Err.error r.cause }
