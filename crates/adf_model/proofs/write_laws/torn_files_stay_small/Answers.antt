use Rattle.adf_model.proofs.Writes.FailedWrites.{no_longer, as_long}
use Rattle.adf_model.proofs.write_laws.torn_files_stay_small.Goals as goal

pub returns-clause-length : goal.returns-clause-length
returns-clause-length c = no_longer

pub returns-clause-same : goal.returns-clause-same
returns-clause-same c = as_long
