use Rattle.tree_laws.proofs.Holding.TakenWritten.{taken_written}
use Rattle.tree_laws.proofs.holding_laws.taken_is_free.Goals as goal

pub returns : goal.returns
returns c = taken_written
