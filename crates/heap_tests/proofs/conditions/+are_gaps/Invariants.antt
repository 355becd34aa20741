use Rattle.std.specs.Prelude.{length}
use Rattle.heap_tests.proofs.conditions.+are_gaps.Given as goal

abbrev pub decreases-are_gaps : goal.decreases-are_gaps
decreases-are_gaps l = length l.gaps.now
