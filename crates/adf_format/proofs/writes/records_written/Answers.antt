use Rattle.adf_format.proofs.WrittenParts.{header_written, free_table_written, node_written}
use Rattle.adf_format.proofs.writes.records_written.Goals as goal

pub returns-clause-header : goal.returns-clause-header
returns-clause-header c = header_written

pub returns-clause-free_table : goal.returns-clause-free_table
returns-clause-free_table c = free_table_written

pub returns-clause-node : goal.returns-clause-node
returns-clause-node c = node_written
