use Rattle.std.proofs.Common.{arith}
use Rattle.element_ranges.proofs.RangeLaws.{removed}
use Rattle.element_ranges.proofs.union.put_between.Goals as goal

pub loop-left-preserved : goal.loop-left-preserved
loop-left-preserved c = record {
  few = omega arith;
  items = removed c.args.begun c.args.ended c.loop-left.left c.args.ranges.now.items c.loop-left.ranges.items _ c.args.range c.requires.order c.requires.within c.loop-left-test.true c.loop-left.invariant.few c.loop-left.invariant.items c.remove.ensures.by_index.2;
}
