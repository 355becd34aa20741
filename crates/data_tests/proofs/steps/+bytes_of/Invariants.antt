use Rattle.std.specs.Prelude.{length}
use Rattle.data_tests.proofs.steps.+bytes_of.Given as goal

abbrev pub decreases-bytes_of : goal.decreases-bytes_of
decreases-bytes_of l = length l.runs.now
