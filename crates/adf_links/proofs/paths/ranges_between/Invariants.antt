use Rattle.std.proofs.Common.{◌≡◌, ◌≤◌, ◌++◌, drop}
use Rattle.adf_links.proofs.PathLaws.{ranges_left}
use Rattle.adf_links.proofs.paths.ranges_between.Given as goal

abbrev pub invariant-loop-end : goal.invariant-loop-end
invariant-loop-end l = record {
  found : l.ranges.items ++ ranges_left l.start l.end (drop l.end l.path) ≡ ranges_left l.from l.from (drop l.from l.path);
  started : l.start ≤ l.end;
}
