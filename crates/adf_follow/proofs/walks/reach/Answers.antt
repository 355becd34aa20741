use Rattle.adf_follow.proofs.Found.{reach_fails}
use Rattle.adf_follow.proofs.walks.reach.Goals as goal

pub returns-in-Err-clause-found : goal.returns-in-Err-clause-found
returns-in-Err-clause-found g c = reach_fails _ _ _ c.args.node c.in-Err.error c.in-Err.ensures.found
