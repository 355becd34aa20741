use Rattle.node_reads.proofs.LaidOut.{header_is_read, header_breaks_none, table_breaks_none, entries_are_children}
use Rattle.node_reads.proofs.laws.nodes_are_read.Goals as goal

pub returns-clause-header : goal.returns-clause-header
returns-clause-header c = header_is_read

pub returns-clause-unbroken : goal.returns-clause-unbroken
returns-clause-unbroken c = header_breaks_none

pub returns-clause-table : goal.returns-clause-table
returns-clause-table c = table_breaks_none

pub returns-clause-entries : goal.returns-clause-entries
returns-clause-entries c = entries_are_children
