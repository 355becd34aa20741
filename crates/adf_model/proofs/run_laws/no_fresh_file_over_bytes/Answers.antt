use Rattle.adf_model.proofs.Answering.RunLaws.{not_fresh_again}
use Rattle.adf_model.proofs.run_laws.no_fresh_file_over_bytes.Goals as goal

pub returns : goal.returns
returns c = not_fresh_again
