use Rattle.layout_laws.proofs.ListPassLaws.{begin, meet, break, next_list, finish}
use Rattle.layout_laws.proofs.passes.over_lists.Goals as goal

pub returns-clause-start : goal.returns-clause-start
returns-clause-start c = begin

pub returns-clause-on : goal.returns-clause-on
returns-clause-on c = meet

pub returns-clause-broken : goal.returns-clause-broken
returns-clause-broken c = break

pub returns-clause-next : goal.returns-clause-next
returns-clause-next c = next_list

pub returns-clause-ended : goal.returns-clause-ended
returns-clause-ended c = finish
