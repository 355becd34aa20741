use Rattle.adf_format.proofs.HeapSteps.{take_tiles, take_keeps_order, take_end}
use Rattle.adf_format.proofs.laws.takes.Goals as goal

pub returns-clause-tiles : goal.returns-clause-tiles
returns-clause-tiles c = take_tiles

pub returns-clause-order : goal.returns-clause-order
returns-clause-order c = take_keeps_order

pub returns-clause-end : goal.returns-clause-end
returns-clause-end c = take_end
