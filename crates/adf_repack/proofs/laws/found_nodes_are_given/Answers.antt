use Rattle.adf_repack.proofs.WholeLaws.{whole_given}
use Rattle.adf_repack.proofs.laws.found_nodes_are_given.Goals as goal

pub returns : goal.returns
returns c = λ image nodes gaps end format wide laid. whole_given image laid.tree laid.placement laid.laid_out laid.in_order nodes laid.listed
