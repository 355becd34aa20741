use Rattle.adf_format.proofs.BehindEnd.{any_behind, more_behind}
use Rattle.adf_format.proofs.laws.bytes_behind_the_end.Goals as goal

pub returns-clause-any : goal.returns-clause-any
returns-clause-any c = any_behind

pub returns-clause-more : goal.returns-clause-more
returns-clause-more c = more_behind
