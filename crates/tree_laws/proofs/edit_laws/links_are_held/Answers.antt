use Rattle.tree_laws.proofs.Edits.NewNode.{link_is_held}
use Rattle.tree_laws.proofs.edit_laws.links_are_held.Goals as goal

pub returns : goal.returns
returns c = link_is_held
