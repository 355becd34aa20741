use Rattle.tree_laws.proofs.Holding.Steps.{rebuilt}
use Rattle.tree_laws.proofs.holding_laws.nodes_change.Goals as goal

pub returns : goal.returns
returns c = rebuilt
