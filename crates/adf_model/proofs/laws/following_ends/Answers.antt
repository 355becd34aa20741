use Rattle.adf_model.proofs.Following.FollowLaws.{follow-step, follow_spends, follow_spends_link}
use Rattle.adf_model.proofs.Following.ReachLemmas.{follow_well}
use Rattle.adf_model.proofs.laws.following_ends.Goals as goal

pub returns-clause-step : goal.returns-clause-step
returns-clause-step c = follow-step

pub returns-clause-spends : goal.returns-clause-spends
returns-clause-spends c = follow_spends

pub returns-clause-link : goal.returns-clause-link
returns-clause-link c = follow_spends_link

pub returns-clause-reached : goal.returns-clause-reached
returns-clause-reached c files node left spot trees live e = follow_well files trees node left spot live e
