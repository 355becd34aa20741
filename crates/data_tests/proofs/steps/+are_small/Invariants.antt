use Rattle.std.specs.Prelude.{length}
use Rattle.data_tests.proofs.steps.+are_small.Given as goal

abbrev pub decreases-are_small : goal.decreases-are_small
decreases-are_small l = length l.runs.now
