use Rattle.adf_follow.proofs.Asked.{plain_found, search_found}
use Rattle.adf_follow.proofs.asks.reply.Goals as goal

pub returns-in-Find-clause-found : goal.returns-in-Find-clause-found
returns-in-Find-clause-found g c = search_found _ c.args.query.now _ _ c.in-Find.node _ _ c.find.result c.in-Find.is c.items.ensures c.find.ensures.found

pub returns-in_default : goal.returns-in_default
returns-in_default g c = record {
  ready = c.of_node.ensures.ready;
  pending = c.of_node.ensures.pending;
  leaves = c.of_node.ensures.leaves;
  kind = c.of_node.ensures.kind;
  found = plain_found _ c.args.query.now _ _ c.of_node.result c.in_default.not-Find c.of_node.ensures.found;
}
