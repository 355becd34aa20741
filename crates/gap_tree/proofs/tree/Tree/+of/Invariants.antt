use Rattle.std.proofs.Common.{length}
use Rattle.gap_tree.proofs.tree.Tree.+of.Given as goal

abbrev pub decreases-of : goal.decreases-of
decreases-of l = length l.slots.now
