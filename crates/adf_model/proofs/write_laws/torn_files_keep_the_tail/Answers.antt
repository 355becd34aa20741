use Rattle.adf_model.proofs.Writes.TornTail.{behind_stays, tail_stays, written_stands}
use Rattle.adf_model.proofs.write_laws.torn_files_keep_the_tail.Goals as goal

pub returns-clause-behind : goal.returns-clause-behind
returns-clause-behind c = behind_stays

pub returns-clause-tail : goal.returns-clause-tail
returns-clause-tail c = tail_stays

pub returns-clause-written : goal.returns-clause-written
returns-clause-written c = written_stands
