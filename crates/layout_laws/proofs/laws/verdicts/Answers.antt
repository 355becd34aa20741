use Rattle.layout_laws.proofs.FoundVerdict.{verdict}
use Rattle.layout_laws.proofs.laws.verdicts.Goals as goal

pub returns : goal.returns
returns c = λ image nodes frees gaps places h fill l. verdict image nodes frees gaps h fill places l
