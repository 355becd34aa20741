use Rattle.adf_model.proofs.Answering.FileGroupLaws.{refused_stays, written_breaks, read_fails, silent_read_fails, own_errors}
use Rattle.adf_model.proofs.file_group_laws.file_groups_have_causes.Goals as goal

pub returns-clause-stays : goal.returns-clause-stays
returns-clause-stays c = refused_stays

pub returns-clause-breaks : goal.returns-clause-breaks
returns-clause-breaks c = written_breaks

pub returns-clause-reads : goal.returns-clause-reads
returns-clause-reads c = read_fails

pub returns-clause-silent : goal.returns-clause-silent
returns-clause-silent c = silent_read_fails

pub returns-clause-own : goal.returns-clause-own
returns-clause-own c = own_errors
