use Rattle.tree_laws.proofs.Data.DataSwitched.{data_switches}
use Rattle.tree_laws.proofs.data_laws.data_switch.Goals as goal

pub returns : goal.returns
returns c = data_switches
