use Rattle.adf_follow.proofs.FileAnyway.{file_anyway}
use Rattle.adf_follow.proofs.file_groups.file_groups_hold_anyway.Goals as goal

pub returns : goal.returns
returns c = file_anyway
