use Rattle.adf_follow.proofs.Asked.{answered_at, not_reached}
use Rattle.adf_follow.proofs.asks.of_node.Goals as goal

pub returns-in-Err-clause-found : goal.returns-in-Err-clause-found
returns-in-Err-clause-found g c = not_reached _ c.args.query.now _ _ c.in-Err.error c.in-Err.ensures.found

pub returns-clause-found : goal.returns-clause-found
returns-clause-found g c = answered_at _ c.args.query.now _ _ _ _ c.in-Ok.at c.answer_at.result c.answering.ensures.leaves c.in-Ok.ensures.stays c.in-Ok.ensures.found c.answer_at.ensures.found
