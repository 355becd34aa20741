use Rattle.tree_laws.proofs.Facts.JoinedTree.{serials_are_drawn}
use Rattle.tree_laws.proofs.fact_laws.serials_are_drawn.Goals as goal

pub returns : goal.returns
returns c = serials_are_drawn
