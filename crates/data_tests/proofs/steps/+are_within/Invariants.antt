use Rattle.std.specs.Prelude.{length}
use Rattle.data_tests.proofs.steps.+are_within.Given as goal

abbrev pub decreases-are_within : goal.decreases-are_within
decreases-are_within l = length l.runs.now
