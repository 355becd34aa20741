use Rattle.adf_model.proofs.Following.OneFileLaws.{in_its_file, reached_as_many, one_group_as_many}
use Rattle.adf_model.proofs.one_file_laws.one_file_as_many.Goals as goal

pub returns-clause-step : goal.returns-clause-step
returns-clause-step c = in_its_file

pub returns-clause-reached : goal.returns-clause-reached
returns-clause-reached c = reached_as_many

pub returns-clause-group : goal.returns-clause-group
returns-clause-group c = one_group_as_many
