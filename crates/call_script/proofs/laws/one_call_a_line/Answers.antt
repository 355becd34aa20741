use Rattle.call_script.proofs.CallLaws.{one_call}
use Rattle.call_script.proofs.laws.one_call_a_line.Goals as goal

pub returns : goal.returns
returns c = one_call
