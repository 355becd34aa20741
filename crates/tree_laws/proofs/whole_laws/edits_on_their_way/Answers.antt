use Rattle.tree_laws.proofs.Whole.Mid.{mid_begins, mid_goes_on, mid_takes, mid_writes, mid_switches, mid_gives}
use Rattle.tree_laws.proofs.whole_laws.edits_on_their_way.Goals as goal

pub returns-clause-begins : goal.returns-clause-begins
returns-clause-begins c = mid_begins

pub returns-clause-goes_on : goal.returns-clause-goes_on
returns-clause-goes_on c = mid_goes_on

pub returns-clause-takes : goal.returns-clause-takes
returns-clause-takes c = mid_takes

pub returns-clause-writes : goal.returns-clause-writes
returns-clause-writes c = mid_writes

pub returns-clause-switches : goal.returns-clause-switches
returns-clause-switches c = mid_switches

pub returns-clause-gives : goal.returns-clause-gives
returns-clause-gives c = mid_gives
