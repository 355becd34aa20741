use Rattle.adf_chunks.proofs.RoundTrip.{head_read, free_head_read, entry_read, chunk_entry_read}
use Rattle.adf_chunks.proofs.read_again.Goals as goal

pub returns-clause-head : goal.returns-clause-head
returns-clause-head c = head_read

pub returns-clause-free_head : goal.returns-clause-free_head
returns-clause-free_head c = free_head_read

pub returns-clause-entry : goal.returns-clause-entry
returns-clause-entry c = entry_read

pub returns-clause-chunk_entry : goal.returns-clause-chunk_entry
returns-clause-chunk_entry c = chunk_entry_read
