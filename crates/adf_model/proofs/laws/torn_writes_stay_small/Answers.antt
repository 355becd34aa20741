use Rattle.adf_model.proofs.Answering.FaultCauses.{fresh_stays_small}
use Rattle.adf_model.proofs.laws.torn_writes_stay_small.Goals as goal

pub returns-clause-group : goal.returns-clause-group
returns-clause-group c torn before wanted now h = (h.kept, h.grown)

pub returns-clause-opening : goal.returns-clause-opening
returns-clause-opening c = fresh_stays_small
