use Rattle.disk_ptr.proofs.Spelling.{spelled_again, apart, known_by_place}
use Rattle.disk_ptr.proofs.one_spelling.Goals as goal

pub returns-clause-again : goal.returns-clause-again
returns-clause-again c = spelled_again

pub returns-clause-apart : goal.returns-clause-apart
returns-clause-apart c = apart

pub returns-clause-known : goal.returns-clause-known
returns-clause-known c = known_by_place
