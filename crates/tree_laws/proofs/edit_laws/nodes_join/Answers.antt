use Rattle.tree_laws.proofs.Edits.NodeJoined.{node_joins}
use Rattle.tree_laws.proofs.Edits.NodeWithTable.{node_joins_table}
use Rattle.tree_laws.proofs.edit_laws.nodes_join.Goals as goal

pub returns-clause-entry : goal.returns-clause-entry
returns-clause-entry c = node_joins

pub returns-clause-table : goal.returns-clause-table
returns-clause-table c = node_joins_table
