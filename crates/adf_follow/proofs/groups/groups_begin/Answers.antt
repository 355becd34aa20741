use Rattle.adf_follow.proofs.GroupEnds.{begins}
use Rattle.adf_follow.proofs.groups.groups_begin.Goals as goal

pub returns : goal.returns
returns c = begins
