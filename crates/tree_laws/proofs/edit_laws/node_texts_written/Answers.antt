use Rattle.tree_laws.proofs.Holding.NodeFields.{name_written, label_written}
use Rattle.tree_laws.proofs.edit_laws.node_texts_written.Goals as goal

pub returns-clause-name : goal.returns-clause-name
returns-clause-name c = name_written

pub returns-clause-label : goal.returns-clause-label
returns-clause-label c = label_written
