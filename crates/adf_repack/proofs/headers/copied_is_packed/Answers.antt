use Rattle.adf_repack.proofs.CopyLaws.{copied_is}
use Rattle.adf_repack.proofs.headers.copied_is_packed.Goals as goal

pub returns : goal.returns
returns c = copied_is
