use Rattle.adf_model.proofs.Answering.EditCauses.{applied_refused, group_refused}
use Rattle.adf_model.proofs.standing_laws.edits_have_causes.Goals as goal

pub returns-clause-alone : goal.returns-clause-alone
returns-clause-alone c = applied_refused

pub returns-clause-grouped : goal.returns-clause-grouped
returns-clause-grouped c = group_refused
