use Rattle.adf_model.proofs.Answering.AskLaws.{query_is_read, may_is_query, query_no_room, query_no_other_file, query_no_write}
use Rattle.adf_model.proofs.ask_laws.queries_have_causes.Goals as goal

pub returns-clause-read : goal.returns-clause-read
returns-clause-read c = query_is_read

pub returns-clause-errors : goal.returns-clause-errors
returns-clause-errors c = may_is_query

pub returns-clause-no_room : goal.returns-clause-no_room
returns-clause-no_room c = query_no_room

pub returns-clause-no_other_file : goal.returns-clause-no_other_file
returns-clause-no_other_file c = query_no_other_file

pub returns-clause-no_write : goal.returns-clause-no_write
returns-clause-no_write c = query_no_write
