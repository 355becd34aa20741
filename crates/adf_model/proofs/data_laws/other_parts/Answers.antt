use Rattle.adf_model.proofs.Writes.UntouchedData.{others_kept}
use Rattle.adf_model.proofs.data_laws.other_parts.Goals as goal

pub returns : goal.returns
returns c = record { kept = others_kept }
