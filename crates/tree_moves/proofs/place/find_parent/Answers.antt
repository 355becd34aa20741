use Rattle.std.proofs.Common.{◌∙◌, sym, ap}
use Rattle.std.specs.Prelude.{is_some}
use Rattle.tree_moves.proofs.place.find_parent.Goals as goal

pub returns-then-is_below-clause-lacks : goal.returns-then-is_below-clause-lacks
returns-then-is_below-clause-lacks c = (ap is_some c.in-Some.is, sym c.is_below.ensures ∙ c.if-is_below.true)

pub returns-clause-leaves : goal.returns-clause-leaves
returns-clause-leaves c = record { above = c.in-Some.is; outside = sym c.is_below.ensures ∙ c.if-is_below.false }
