use Rattle.adf_follow.proofs.GroupEnds.{stops}
use Rattle.adf_follow.proofs.groups.groups_stop.Goals as goal

pub returns : goal.returns
returns c = stops
