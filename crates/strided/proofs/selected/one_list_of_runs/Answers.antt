use Rattle.strided.proofs.RunLaws.{one_list}
use Rattle.strided.proofs.selected.one_list_of_runs.Goals as goal

pub returns : goal.returns
returns c = one_list
