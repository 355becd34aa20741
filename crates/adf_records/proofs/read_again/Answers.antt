use Rattle.adf_records.proofs.Rereading.{header_read, free_read, node_read}
use Rattle.adf_records.proofs.read_again.Goals as goal

pub returns-clause-header : goal.returns-clause-header
returns-clause-header c = header_read

pub returns-clause-free : goal.returns-clause-free
returns-clause-free c = free_read

pub returns-clause-node : goal.returns-clause-node
returns-clause-node c = node_read
