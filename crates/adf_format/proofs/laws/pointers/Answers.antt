use Rattle.adf_format.proofs.PointerLaws.{pointer_tells}
use Rattle.adf_format.proofs.laws.pointers.Goals as goal

pub returns : goal.returns
returns c = pointer_tells
