use Rattle.adf_model.proofs.SpellingLemmas.{text_of-spelled, spelled_apart}
use Rattle.adf_model.proofs.laws.one_spelling.Goals as goal

pub returns-clause-again : goal.returns-clause-again
returns-clause-again c = text_of-spelled

pub returns-clause-apart : goal.returns-clause-apart
returns-clause-apart c = spelled_apart
