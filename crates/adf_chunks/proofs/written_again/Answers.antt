use Rattle.adf_chunks.proofs.RoundTrip.{head_written, free_head_written, entry_written, chunk_entry_written}
use Rattle.adf_chunks.proofs.written_again.Goals as goal

pub returns-clause-head : goal.returns-clause-head
returns-clause-head c = head_written

pub returns-clause-free_head : goal.returns-clause-free_head
returns-clause-free_head c = free_head_written

pub returns-clause-entry : goal.returns-clause-entry
returns-clause-entry c = entry_written

pub returns-clause-chunk_entry : goal.returns-clause-chunk_entry
returns-clause-chunk_entry c = chunk_entry_written
