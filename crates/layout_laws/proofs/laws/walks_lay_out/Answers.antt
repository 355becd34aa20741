use Rattle.layout_laws.proofs.FoundLayoutLaws.{laid_out}
use Rattle.layout_laws.proofs.laws.walks_lay_out.Goals as goal

pub returns : goal.returns
returns c = laid_out
