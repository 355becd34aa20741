use Rattle.std.specs.Prelude.{length}
use Rattle.data_tests.proofs.steps.+run.Given as goal

abbrev pub decreases-run : goal.decreases-run
decreases-run g l = length l.steps.now
