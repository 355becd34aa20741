use Rattle.adf_model.proofs.Answering.StandingLaws.{failed_stands, silent_group}
use Rattle.adf_model.proofs.Answering.GroupStands.{told_group, told_names}
use Rattle.adf_model.proofs.standing_laws.groups_stand.Goals as goal

pub returns-clause-failed : goal.returns-clause-failed
returns-clause-failed c = failed_stands

pub returns-clause-others : goal.returns-clause-others
returns-clause-others c = silent_group

pub returns-clause-told : goal.returns-clause-told
returns-clause-told c = told_group

pub returns-clause-names : goal.returns-clause-names
returns-clause-names c = told_names
