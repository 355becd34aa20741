use Rattle.std.proofs.Common.{length}
use Rattle.sids_node_rules.proofs.dims.+are_dims.Given as goal

abbrev pub decreases-are_dims : goal.decreases-are_dims
decreases-are_dims l = length l.sizes.now
