use Rattle.tree_laws.proofs.Groups.Pays.{edit_pays}
use Rattle.tree_laws.proofs.placed_laws.edits_pay.Goals as goal

pub returns : goal.returns
returns c = edit_pays
