use Rattle.std.proofs.Common.{◌∙◌, sym, None, Some}
use Rattle.tree_moves.proofs.Climbs.{below_of_none, not_below, below_by_climb}
use Rattle.tree_moves.proofs.depths.is_below.Goals as goal

pub returns-in-None : goal.returns-in-None
returns-in-None c = sym (below_of_none c.args.rows.now.items c.args.top c.args.depth c.args.serial (sym c.get.ensures ∙ c.in-None.is))

pub returns-then-row-depth : goal.returns-then-row-depth
returns-then-row-depth c = sym (not_below c.args.rows.now.items c.args.top c.args.depth c.args.serial c.in-Some.row (sym c.get.ensures ∙ c.in-Some.is) c.if-row-depth.true)

pub returns-in-Some-climb : goal.returns-in-Some-climb
returns-in-Some-climb c = sym (below_by_climb c.args.rows.now.items c.args.top c.args.depth c.args.serial c.in-Some.row (sym c.get.ensures ∙ c.in-Some.is) c.if-row-depth.false (Some c.in-Some-climb.at) (sym c.in-Some-climb.is ∙ c.climb.ensures))

pub returns-in-None-climb : goal.returns-in-None-climb
returns-in-None-climb c = sym (below_by_climb c.args.rows.now.items c.args.top c.args.depth c.args.serial c.in-Some.row (sym c.get.ensures ∙ c.in-Some.is) c.if-row-depth.false None (sym c.in-None-climb.is ∙ c.climb.ensures))
