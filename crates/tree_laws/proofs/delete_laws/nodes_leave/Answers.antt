use Rattle.tree_laws.proofs.Deletes.NodesLeft.{nodes_left}
use Rattle.tree_laws.proofs.delete_laws.nodes_leave.Goals as goal

pub returns : goal.returns
returns c old middle new tree p taken s par i parent at t h over placed has listed par_stays root_stays few_dims few v w is =
    nodes_left old middle new tree p taken s par i parent at t h over placed has listed par_stays root_stays few_dims few v w is
