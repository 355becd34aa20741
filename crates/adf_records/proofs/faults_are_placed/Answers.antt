use Rattle.adf_records.proofs.Places.{free_placed, node_placed}
use Rattle.adf_records.proofs.faults_are_placed.Goals as goal

pub returns-clause-free : goal.returns-clause-free
returns-clause-free c = free_placed

pub returns-clause-node : goal.returns-clause-node
returns-clause-node c = node_placed
