use Rattle.adf_model.proofs.Answering.RuleNames.{rules_named}
use Rattle.adf_model.proofs.standing_laws.refusals_name_rules.Goals as goal

pub returns : goal.returns
returns c = rules_named
