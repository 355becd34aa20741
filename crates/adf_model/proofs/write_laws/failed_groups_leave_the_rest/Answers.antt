use Rattle.adf_model.proofs.Writes.FailedWrites.{torn_beside, torn_elsewhere, failed_beside}
use Rattle.adf_model.proofs.write_laws.failed_groups_leave_the_rest.Goals as goal

pub returns-clause-beside : goal.returns-clause-beside
returns-clause-beside c = torn_beside

pub returns-clause-elsewhere : goal.returns-clause-elsewhere
returns-clause-elsewhere c = torn_elsewhere

pub returns-clause-group : goal.returns-clause-group
returns-clause-group c = failed_beside
