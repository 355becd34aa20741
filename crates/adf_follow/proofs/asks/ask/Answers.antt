use Rattle.adf_follow.proofs.AskMakes.{answered_makes, refused_makes}
use Rattle.adf_follow.proofs.asks.ask.Goals as goal

pub returns-in-Ok-clause-asked : goal.returns-in-Ok-clause-asked
returns-in-Ok-clause-asked g c = answered_makes _ _ _ c.args.query.now _ c.reply.result c.in-Ok.ensures c.reply.ensures.leaves c.reply.ensures.kind c.reply.ensures.found

pub returns-in-Err-clause-asked : goal.returns-in-Err-clause-asked
returns-in-Err-clause-asked g c = refused_makes _ _ c.args.query.now c.in-Err.error c.in-Err.ensures
