use Rattle.adf_format.proofs.LayoutLaws.{unused_byte}
use Rattle.adf_format.proofs.laws.unused_bytes.Goals as goal

pub returns : goal.returns
returns c = unused_byte
