use Rattle.tree_laws.proofs.Holding.HeapCalls.{took, gave}
use Rattle.tree_laws.proofs.holding_laws.heap_calls.Goals as goal

pub returns-clause-takes : goal.returns-clause-takes
returns-clause-takes c = took

pub returns-clause-gives : goal.returns-clause-gives
returns-clause-gives c = gave
