use Rattle.adf_salvage.proofs.StepLaws.{no_fault}
use Rattle.adf_salvage.proofs.survey.survey.Goals as goal

pub returns-in-Err-clause-stops : goal.returns-in-Err-clause-stops
returns-in-Err-clause-stops g c = λ image told start. no_fault image c.in-Err.halt c.in-Err.ensures.no_fault
