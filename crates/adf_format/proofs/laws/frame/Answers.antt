use Rattle.adf_format.proofs.FrameLaws.{holds_kept}
use Rattle.adf_format.proofs.laws.frame.Goals as goal

pub returns : goal.returns
returns c = holds_kept
