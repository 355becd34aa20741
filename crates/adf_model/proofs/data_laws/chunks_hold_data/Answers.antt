use Rattle.adf_model.proofs.Writes.UntouchedData.{no_chunks, data_read, data_once}
use Rattle.adf_model.proofs.data_laws.chunks_hold_data.Goals as goal

pub returns-clause-none : goal.returns-clause-none
returns-clause-none c = no_chunks

pub returns-clause-read : goal.returns-clause-read
returns-clause-read c = data_read

pub returns-clause-one : goal.returns-clause-one
returns-clause-one c = data_once
