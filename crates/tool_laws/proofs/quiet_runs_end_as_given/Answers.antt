use Rattle.tool_laws.proofs.Decided.{run_given}
use Rattle.tool_laws.proofs.quiet_runs_end_as_given.Goals as goal

pub returns : goal.returns
returns c wanted result old new before now on ends quiet = run_given result old new before now quiet wanted on ends
