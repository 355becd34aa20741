use Rattle.std.proofs.Common.{◌∙◌, sym, inr, refl, arith}
use Rattle.tree_moves.proofs.Climbs.{below_of_none, none_deeper_not, none_deeper_own}
use Rattle.tree_moves.proofs.depths.deeper.Goals as goal

pub returns-in-None-clause-all : goal.returns-in-None-clause-all
returns-in-None-clause-all c = none_deeper_not c.args.rows.now.items c.args.top c.args.depth c.args.most c.args.serial (below_of_none c.args.rows.now.items c.args.top c.args.depth c.args.serial (sym c.get.ensures ∙ c.in-None.is))

pub returns-then-row-most-clause-all : goal.returns-then-row-most-clause-all
returns-then-row-most-clause-all c = none_deeper_own c.args.rows.now.items c.args.top c.args.depth c.args.most c.args.serial c.in-Some.row (sym c.get.ensures ∙ c.in-Some.is) c.if-row-most.true

pub returns-then-is_below-clause-all : goal.returns-then-is_below-clause-all
returns-then-is_below-clause-all c = none_deeper_own c.args.rows.now.items c.args.top c.args.depth c.in-Some.row.depth c.args.serial c.in-Some.row (sym c.get.ensures ∙ c.in-Some.is) (omega arith)

pub returns-then-is_below-clause-one : goal.returns-then-is_below-clause-one
returns-then-is_below-clause-one c = inr (record { serial = c.args.serial; row = c.in-Some.row; found = sym c.get.ensures ∙ c.in-Some.is; below = sym c.is_below.ensures ∙ c.if-is_below.true; deep_is = refl })

pub returns-clause-all : goal.returns-clause-all
returns-clause-all c = none_deeper_not c.args.rows.now.items c.args.top c.args.depth c.args.most c.args.serial (sym c.is_below.ensures ∙ c.if-is_below.false)
