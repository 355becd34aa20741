use Rattle.tree_laws.proofs.Holding.GiftsFolded as folded
use Rattle.tree_laws.proofs.delete_laws.gifts_end.Goals as goal

pub returns-clause-gifts : goal.returns-clause-gifts
returns-clause-gifts c = folded.gifts_end

pub returns-clause-taken : goal.returns-clause-taken
returns-clause-taken c = folded.deleted_are_taken

pub returns-clause-ends : goal.returns-clause-ends
returns-clause-ends c = folded.deletion_ends

pub returns-clause-order : goal.returns-clause-order
returns-clause-order c = folded.taken_in_any_order
