use Rattle.adf_follow.proofs.GroupEnds.{ends}
use Rattle.adf_follow.proofs.groups.groups_end.Goals as goal

pub returns : goal.returns
returns c = ends
