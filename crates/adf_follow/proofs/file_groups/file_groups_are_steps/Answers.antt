use Rattle.adf_follow.proofs.FileSteps.{group_is_step}
use Rattle.adf_follow.proofs.file_groups.file_groups_are_steps.Goals as goal

pub returns : goal.returns
returns c = group_is_step
