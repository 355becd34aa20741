use Rattle.adf_model.proofs.Answering.FileGroupLaws.{empty_group, broken_group}
use Rattle.adf_model.proofs.file_group_laws.few_edits_and_broken_files.Goals as goal

pub returns-clause-empty : goal.returns-clause-empty
returns-clause-empty c = empty_group

pub returns-clause-broken : goal.returns-clause-broken
returns-clause-broken c = broken_group
