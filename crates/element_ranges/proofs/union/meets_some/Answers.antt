use Rattle.std.proofs.Common.{◌∙◌}
use Rattle.element_ranges.proofs.RangeLaws.{halved, front_rises, behind_rises, behind_says, front_says}
use Rattle.element_ranges.proofs.union.meets_some.Goals as goal

pub loop-rest-preserved-then-middle-first : goal.loop-rest-preserved-then-middle-first
loop-rest-preserved-then-middle-first c =
    let is = halved _ c.loop-rest.rest.now _ _ c.in-Some.behind.now c.in-Some.middle.now c.split_at.ensures.front c.split_at.ensures.back c.in-Some.ensures.cases.0 in
    record {
      rising = behind_rises c.args.first c.args.last _ _ _ _ is c.loop-rest.invariant.rising;
      same = behind_says c.args.first c.args.last _ _ _ _ is c.loop-rest.invariant.rising c.if-middle-first.true ∙ c.loop-rest.invariant.same;
    }

pub loop-rest-preserved : goal.loop-rest-preserved
loop-rest-preserved c =
    let is = halved _ c.loop-rest.rest.now _ _ c.in-Some.behind.now c.in-Some.middle.now c.split_at.ensures.front c.split_at.ensures.back c.in-Some.ensures.cases.0 in
    record {
      rising = front_rises c.args.first c.args.last _ _ _ _ is c.loop-rest.invariant.rising;
      same = front_says c.args.first c.args.last _ _ _ _ is c.loop-rest.invariant.rising c.if-middle-last.false ∙ c.loop-rest.invariant.same;
    }
