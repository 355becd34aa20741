use Rattle.adf_format.proofs.LayoutLaws.{verdict_recorded}
use Rattle.adf_format.proofs.laws.verdict_of_header.Goals as goal

pub returns : goal.returns
returns c = verdict_recorded
