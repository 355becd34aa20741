use Rattle.tree_laws.proofs.Holding.Steps.{from_layout, to_layout}
use Rattle.tree_laws.proofs.holding_laws.layouts_take_nothing.Goals as goal

pub returns-clause-from : goal.returns-clause-from
returns-clause-from c = from_layout

pub returns-clause-to : goal.returns-clause-to
returns-clause-to c = to_layout
