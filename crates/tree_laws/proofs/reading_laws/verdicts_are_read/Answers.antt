use Rattle.tree_laws.proofs.Reading.VerdictRead.{verdict_is_read}
use Rattle.tree_laws.proofs.reading_laws.verdicts_are_read.Goals as goal

pub returns : goal.returns
returns c = verdict_is_read
