use Rattle.torn_laws.proofs.PartTorn.{waits_are_reached}
use Rattle.torn_laws.proofs.laws.torn_waits.Goals as goal

pub returns : goal.returns
returns c = waits_are_reached
