use Rattle.adf_model.proofs.Writes.StayLaws.{entry_first, file_entry_first, read_errors}
use Rattle.adf_model.proofs.laws.entry_comes_first.Goals as goal

pub returns-clause-files : goal.returns-clause-files
returns-clause-files c = entry_first

pub returns-clause-file : goal.returns-clause-file
returns-clause-file c = file_entry_first

pub returns-clause-errors : goal.returns-clause-errors
returns-clause-errors c = read_errors
