use Rattle.tree_laws.proofs.Whole.Texts.{label_is_whole, rename_is_whole}
use Rattle.tree_laws.proofs.whole_laws.texts_are_whole.Goals as goal

pub returns-clause-label : goal.returns-clause-label
returns-clause-label c = label_is_whole

pub returns-clause-name : goal.returns-clause-name
returns-clause-name c = rename_is_whole
