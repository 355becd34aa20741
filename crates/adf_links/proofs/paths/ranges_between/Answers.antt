use Rattle.std.proofs.Common.{arith}
use Rattle.std.proofs.lemmas.Grind.{common_steps}
use Rattle.adf_links.proofs.PathLaws.{last_range}
use Rattle.adf_links.proofs.paths.ranges_between.Goals as goal

pub returns-clause-ranges : goal.returns-clause-ranges
returns-clause-ranges c =
    let all = last_range c.args.path.now c.loop-end.ranges.items c.loop-end.start c.loop-end.end c.args.from (omega arith) c.loop-end.invariant.found in
    grind (arith, common_steps, all)
