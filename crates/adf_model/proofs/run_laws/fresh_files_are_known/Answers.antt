use Rattle.adf_model.proofs.Answering.RunLaws.{fresh_held, fresh_placed, fresh_ends}
use Rattle.adf_model.proofs.run_laws.fresh_files_are_known.Goals as goal

pub returns-clause-held : goal.returns-clause-held
returns-clause-held c = fresh_held

pub returns-clause-placed : goal.returns-clause-placed
returns-clause-placed c = fresh_placed

pub returns-clause-end : goal.returns-clause-end
returns-clause-end c = fresh_ends
