use Rattle.adf_format.proofs.WalkLaws.{node_walk_ends}
use Rattle.adf_format.proofs.FaultLaws.{free_walk_ends}
use Rattle.adf_format.proofs.CheckLaws.{one_outcome}
use Rattle.adf_format.proofs.laws.walks_end.Goals as goal

pub returns-clause-nodes : goal.returns-clause-nodes
returns-clause-nodes c = node_walk_ends

pub returns-clause-frees : goal.returns-clause-frees
returns-clause-frees c = free_walk_ends

pub returns-clause-one : goal.returns-clause-one
returns-clause-one c = λ image x y v w. one_outcome v w
