use Rattle.adf_format.proofs.GiveOrder.{gives_commute, gives_in_any_order}
use Rattle.adf_format.proofs.laws.gives_in_any_order.Goals as goal

pub returns-clause-two : goal.returns-clause-two
returns-clause-two c = gives_commute

pub returns-clause-all : goal.returns-clause-all
returns-clause-all c = gives_in_any_order
