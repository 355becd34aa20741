use Rattle.adf_records.proofs.Respelling.{header_written, free_written, node_written}
use Rattle.adf_records.proofs.written_again.Goals as goal

pub returns-clause-header : goal.returns-clause-header
returns-clause-header c = header_written

pub returns-clause-free : goal.returns-clause-free
returns-clause-free c = free_written

pub returns-clause-node : goal.returns-clause-node
returns-clause-node c = node_written
