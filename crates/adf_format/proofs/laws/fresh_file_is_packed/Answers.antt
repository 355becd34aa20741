use Rattle.adf_format.proofs.Cases.PackedTest.{fresh_is_packed}
use Rattle.adf_format.proofs.laws.fresh_file_is_packed.Goals as goal

pub returns : goal.returns
returns c = fresh_is_packed
