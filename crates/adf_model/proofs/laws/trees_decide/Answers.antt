use Rattle.adf_model.proofs.Answering.RoomLaws.{answer_completes, edit_completes}
use Rattle.adf_model.proofs.laws.trees_decide.Goals as goal

pub returns-clause-query : goal.returns-clause-query
returns-clause-query c = answer_completes

pub returns-clause-group : goal.returns-clause-group
returns-clause-group c = edit_completes
