use Rattle.tree_laws.proofs.Whole.Links.{link_is_whole}
use Rattle.tree_laws.proofs.Whole.LinksFull.{link_is_whole_full}
use Rattle.tree_laws.proofs.whole_laws.links_are_whole.Goals as goal

pub returns-clause-entry : goal.returns-clause-entry
returns-clause-entry c = link_is_whole

pub returns-clause-full : goal.returns-clause-full
returns-clause-full c = link_is_whole_full
