use Rattle.adf_format.proofs.WrittenParts.{end_written, ends_written, entry_written, payload_written, next_written}
use Rattle.adf_format.proofs.writes.fields_written.Goals as goal

pub returns-clause-end : goal.returns-clause-end
returns-clause-end c = end_written

pub returns-clause-list_ends : goal.returns-clause-list_ends
returns-clause-list_ends c = ends_written

pub returns-clause-entry : goal.returns-clause-entry
returns-clause-entry c = entry_written

pub returns-clause-payload : goal.returns-clause-payload
returns-clause-payload c = payload_written

pub returns-clause-next : goal.returns-clause-next
returns-clause-next c = next_written
