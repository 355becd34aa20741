use Rattle.tree_laws.proofs.Whole.Deletes.{delete_is_whole}
use Rattle.tree_laws.proofs.whole_laws.deletions_are_whole.Goals as goal

pub returns : goal.returns
returns c = delete_is_whole
