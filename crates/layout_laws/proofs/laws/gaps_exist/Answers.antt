use Rattle.layout_laws.proofs.GapsFound.{gaps_left, gaps_fill}
use Rattle.layout_laws.proofs.laws.gaps_exist.Goals as goal

pub returns : goal.returns
returns c = λ image nodes frees h. (gaps_left image nodes frees h, gaps_fill image nodes frees h)
