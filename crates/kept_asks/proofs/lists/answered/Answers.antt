use Rattle.std.proofs.Common.{◌∙◌, arith, sym}
use Rattle.kept_asks.proofs.KeptLists.{answered_all, answered_more}
use Rattle.kept_asks.proofs.lists.answered.Goals as goal

pub loop-entry-preserved : goal.loop-entry-preserved
loop-entry-preserved c = answered_more _ _ _ _ _ _ _ (omega (arith, c.len.ensures)) (sym c.get.ensures ∙ c.in-Some.is) c.in-Ok.ensures.child c.in-Ok-push.ensures.items c.loop-entry.invariant

pub returns-clause-children : goal.returns-clause-children
returns-clause-children c = answered_all _ _ _ _ (omega (arith, c.len.ensures)) (sym c.get.ensures ∙ c.in_default.is) c.loop-entry.invariant
