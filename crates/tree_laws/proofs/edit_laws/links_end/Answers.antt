use Rattle.tree_laws.proofs.Edits.EditsPlaced.{link_ends}
use Rattle.tree_laws.proofs.Edits.LinkFull.{link_ends_full}
use Rattle.tree_laws.proofs.edit_laws.links_end.Goals as goal

pub returns-clause-entry : goal.returns-clause-entry
returns-clause-entry c = link_ends

pub returns-clause-full : goal.returns-clause-full
returns-clause-full c = link_ends_full
