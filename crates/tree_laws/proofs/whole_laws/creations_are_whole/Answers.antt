use Rattle.tree_laws.proofs.Whole.Creates.{create_is_whole}
use Rattle.tree_laws.proofs.Whole.CreatesFull.{create_is_whole_full}
use Rattle.tree_laws.proofs.whole_laws.creations_are_whole.Goals as goal

pub returns-clause-entry : goal.returns-clause-entry
returns-clause-entry c = create_is_whole

pub returns-clause-full : goal.returns-clause-full
returns-clause-full c = create_is_whole_full
