use Rattle.adf_model.proofs.Keeping.EditsKeep.{apply_keeps, file_step_keeps, file_group_keeps}
use Rattle.adf_model.proofs.Keeping.GroupKeeps.{edit_group_keeps}
use Rattle.adf_model.proofs.laws.edits_keep_trees.Goals as goal

pub returns-clause-edit : goal.returns-clause-edit
returns-clause-edit c = apply_keeps

pub returns-clause-step : goal.returns-clause-step
returns-clause-step c writable tree after edit = file_step_keeps tree after writable edit

pub returns-clause-group : goal.returns-clause-group
returns-clause-group c = file_group_keeps

pub returns-clause-files : goal.returns-clause-files
returns-clause-files c = edit_group_keeps
