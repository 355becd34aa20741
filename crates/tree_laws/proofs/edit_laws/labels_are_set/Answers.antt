use Rattle.tree_laws.proofs.Edits.LabelSet.{label_set}
use Rattle.tree_laws.proofs.edit_laws.labels_are_set.Goals as goal

pub returns : goal.returns
returns c old new tree p taken s node parts label h here stands short few w is = label_set old new tree p taken s node parts label h here stands short few w is
