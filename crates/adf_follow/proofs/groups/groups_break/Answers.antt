use Rattle.adf_follow.proofs.GroupEnds.{breaks}
use Rattle.adf_follow.proofs.groups.groups_break.Goals as goal

pub returns : goal.returns
returns c = breaks
