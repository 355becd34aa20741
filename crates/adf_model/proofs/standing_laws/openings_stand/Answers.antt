use Rattle.adf_model.proofs.Answering.StandingLaws.{refused_stand, others_stand, opened_stands, opening_anyway}
use Rattle.adf_model.proofs.standing_laws.openings_stand.Goals as goal

pub returns-clause-refused : goal.returns-clause-refused
returns-clause-refused c = refused_stand

pub returns-clause-others : goal.returns-clause-others
returns-clause-others c = others_stand

pub returns-clause-done : goal.returns-clause-done
returns-clause-done c = opened_stands

pub returns-clause-told : goal.returns-clause-told
returns-clause-told c files after before now number limit opening result h = opening_anyway files after before now number limit opening result h.0 h.1
