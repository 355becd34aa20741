use Rattle.adf_format.proofs.WrittenParts.{table_written, chunk_table_written, chunk_written, free_written, filler_written}
use Rattle.adf_format.proofs.writes.parts_written.Goals as goal

pub returns-clause-table : goal.returns-clause-table
returns-clause-table c = table_written

pub returns-clause-chunk_table : goal.returns-clause-chunk_table
returns-clause-chunk_table c = chunk_table_written

pub returns-clause-chunk : goal.returns-clause-chunk
returns-clause-chunk c = chunk_written

pub returns-clause-free : goal.returns-clause-free
returns-clause-free c = free_written

pub returns-clause-filler : goal.returns-clause-filler
returns-clause-filler c = filler_written
