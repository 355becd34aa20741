use Rattle.session.proofs.Faults.{ran_bound}
use Rattle.session.proofs.laws.faults_bound_replies.Goals as goal

pub returns : goal.returns
returns c = ran_bound
