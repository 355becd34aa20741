use Rattle.adf_model.proofs.Answering.StandingLaws.{entry_refuses, passed_refuses}
use Rattle.adf_model.proofs.standing_laws.one_file_refuses.Goals as goal

pub returns-clause-entry : goal.returns-clause-entry
returns-clause-entry c = entry_refuses

pub returns-clause-passed : goal.returns-clause-passed
returns-clause-passed c = passed_refuses
