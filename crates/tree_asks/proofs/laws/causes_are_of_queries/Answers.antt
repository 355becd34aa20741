use Rattle.tree_asks.proofs.AskedRules.{of_query}
use Rattle.tree_asks.proofs.laws.causes_are_of_queries.Goals as goal

pub returns : goal.returns
returns c = of_query
