use Rattle.adf_model.proofs.Writes.DataLaws.{hold-alone, release-alone}
use Rattle.adf_model.proofs.laws.data_stand_alone.Goals as goal

pub returns-clause-resize : goal.returns-clause-resize
returns-clause-resize c limit size serial p parts here = hold-alone limit serial p parts here size

pub returns-clause-release : goal.returns-clause-release
returns-clause-release c = release-alone
