use Rattle.call_script.proofs.Reading.{ended_by}
use Rattle.session.proofs.Running.{nothing_put}
use Rattle.session.proofs.session.reply.Goals as goal

pub returns-in_err-line-in-Some-clause-part : goal.returns-in_err-line-in-Some-clause-part
returns-in_err-line-in-Some-clause-part g c = nothing_put _ _ _ _ (ended_by _ _ c.from_residual.ensures.1) c.in_err-line-in-Some.ensures.memory
