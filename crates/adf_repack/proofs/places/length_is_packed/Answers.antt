use Rattle.adf_repack.proofs.PlaceLaws.{length_is}
use Rattle.adf_repack.proofs.places.length_is_packed.Goals as goal

pub returns : goal.returns
returns c = length_is
