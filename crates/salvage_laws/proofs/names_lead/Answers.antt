use Rattle.salvage_laws.proofs.SurveyOrder.{kept_in_order, names_below, names_to_root}
use Rattle.salvage_laws.proofs.names_lead.Goals as goal

pub returns-clause-child : goal.returns-clause-child
returns-clause-child c = λ image kept left k i parent child survey. names_below kept k i parent child (kept_in_order image kept left survey)

pub returns-clause-root : goal.returns-clause-root
returns-clause-root c = names_to_root
