use Rattle.std.proofs.Common.{◌∙◌, ◌+◌, ◌-◌, sym, None, Some}
use Rattle.tree_moves.proofs.Climbs.{one_more_step, no_more_step, no_step_left}
use Rattle.tree_moves.proofs.depths.climb.Goals as goal

pub loop-step-preserved : goal.loop-step-preserved
loop-step-preserved c = one_more_step c.args.rows.now.items c.args.steps c.loop-step.step c.loop-step.at (Some c.in-Some.parent) _ c.loop-step-test.true (sym c.above.ensures ∙ c.in-Some.is) c.loop-step.invariant

pub returns-in-None : goal.returns-in-None
returns-in-None c =
    sym (no_more_step c.args.rows.now.items (c.args.steps - (c.loop-step.step + 1)))
    ∙ one_more_step c.args.rows.now.items c.args.steps c.loop-step.step c.loop-step.at None _ c.loop-step-test.true (sym c.above.ensures ∙ c.in-None.is) c.loop-step.invariant

pub returns : goal.returns
returns c = no_step_left c.args.rows.now.items c.args.steps c.loop-step.step c.loop-step.at _ c.loop-step-test.false c.loop-step.invariant
