use Rattle.adf_model.proofs.Answering.StandingLaws.{line_errors}
use Rattle.adf_model.proofs.standing_laws.lines_change_nothing.Goals as goal

pub returns-clause-errors : goal.returns-clause-errors
returns-clause-errors c = line_errors

pub returns-clause-misread : goal.returns-clause-misread
returns-clause-misread c files after before now error h = (h.1, h.2)
