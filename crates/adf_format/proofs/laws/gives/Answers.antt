use Rattle.adf_format.proofs.HeapSteps.{give_tiles, give_keeps_order}
use Rattle.adf_format.proofs.laws.gives.Goals as goal

pub returns-clause-tiles : goal.returns-clause-tiles
returns-clause-tiles c = give_tiles

pub returns-clause-order : goal.returns-clause-order
returns-clause-order c = give_keeps_order
