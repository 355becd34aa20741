use Rattle.tree_laws.proofs.Holding.HeapMoves.{moved}
use Rattle.tree_laws.proofs.holding_laws.heap_moves.Goals as goal

pub returns : goal.returns
returns c = moved
