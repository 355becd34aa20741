use Rattle.salvage_laws.proofs.SurveyLaws.{start, keeps, omits, ended}
use Rattle.salvage_laws.proofs.over_damaged_nodes.Goals as goal

pub returns-clause-start : goal.returns-clause-start
returns-clause-start c = start

pub returns-clause-keeps : goal.returns-clause-keeps
returns-clause-keeps c = keeps

pub returns-clause-omits : goal.returns-clause-omits
returns-clause-omits c = omits

pub returns-clause-ended : goal.returns-clause-ended
returns-clause-ended c = ended
