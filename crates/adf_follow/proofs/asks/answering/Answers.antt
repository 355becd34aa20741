use Rattle.std.proofs.Common.{◌∙◌, sym}
use Rattle.adf_follow.proofs.Asked.{node_reached}
use Rattle.adf_follow.proofs.asks.answering.Goals as goal

pub returns-then-is_followed-clause-found : goal.returns-then-is_followed-clause-found
returns-then-is_followed-clause-found g c = node_reached _ c.args.query.now _ _ c.asked_node.result c.reach.result (sym c.is_followed.ensures ∙ c.if-is_followed.true) c.asked_node.ensures c.reach.ensures.found
