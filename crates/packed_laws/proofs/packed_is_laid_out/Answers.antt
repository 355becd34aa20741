use Rattle.packed_laws.proofs.PackedFile.{is_laid_out, is_long}
use Rattle.packed_laws.proofs.packed_is_laid_out.Goals as goal

pub returns-clause-laid_out : goal.returns-clause-laid_out
returns-clause-laid_out c = is_laid_out

pub returns-clause-long : goal.returns-clause-long
returns-clause-long c = is_long
