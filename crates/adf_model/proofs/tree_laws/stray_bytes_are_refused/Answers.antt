use Rattle.adf_model.proofs.Cases.StrayBytes.{stray_refused}
use Rattle.adf_model.proofs.tree_laws.stray_bytes_are_refused.Goals as goal

pub returns : goal.returns
returns c = stray_refused
