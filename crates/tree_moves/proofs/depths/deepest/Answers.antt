use Rattle.std.proofs.Common.{arith}
use Rattle.tree_moves.proofs.Climbs.{deepest_none, deepest_more, deepest_all}
use Rattle.tree_moves.proofs.depths.deepest.Goals as goal

pub loop-serial-init : goal.loop-serial-init
loop-serial-init c = deepest_none c.args.rows.now.items c.args.top c.args.depth

pub loop-serial-preserved : goal.loop-serial-preserved
loop-serial-preserved c =
    deepest_more c.args.rows.now.items c.args.top c.args.depth c.loop-serial.most c.deeper-most.result c.loop-serial.serial c.deeper-most.ensures.least c.deeper-most.ensures.all c.deeper-most.ensures.one c.loop-serial.invariant

pub returns : goal.returns
returns c = deepest_all c.args.rows.now.items c.args.top c.args.depth c.loop-serial.most c.loop-serial.serial (omega (arith, c.loop-serial-test.false, c.count-serial-end.ensures)) c.loop-serial.invariant
