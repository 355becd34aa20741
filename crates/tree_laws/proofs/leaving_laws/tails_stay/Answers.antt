use Rattle.tree_laws.proofs.Leaving.TailsKept.{tail_stays, tails_go_on, written_tail, taken_tail, given_tail, ends_rise, one_more_tail}
use Rattle.tree_laws.proofs.leaving_laws.tails_stay.Goals as goal

pub returns-clause-same : goal.returns-clause-same
returns-clause-same c = tail_stays

pub returns-clause-steps : goal.returns-clause-steps
returns-clause-steps c = tails_go_on

pub returns-clause-written : goal.returns-clause-written
returns-clause-written c = written_tail

pub returns-clause-taken : goal.returns-clause-taken
returns-clause-taken c = taken_tail

pub returns-clause-given : goal.returns-clause-given
returns-clause-given c = given_tail

pub returns-clause-ends : goal.returns-clause-ends
returns-clause-ends c = ends_rise

pub returns-clause-more : goal.returns-clause-more
returns-clause-more c = one_more_tail
