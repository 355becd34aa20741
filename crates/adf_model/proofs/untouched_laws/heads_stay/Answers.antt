use Rattle.adf_model.proofs.Writes.UntouchedParts.{front_stays, date_stays, behind_stays}
use Rattle.adf_model.proofs.untouched_laws.heads_stay.Goals as goal

pub returns-clause-front : goal.returns-clause-front
returns-clause-front c = front_stays

pub returns-clause-created : goal.returns-clause-created
returns-clause-created c = date_stays

pub returns-clause-behind : goal.returns-clause-behind
returns-clause-behind c = behind_stays
