use Rattle.adf_model.proofs.Answering.CostLaws.{step_within, run_within, run_costs}
use Rattle.adf_model.proofs.laws.writes_are_bounded.Goals as goal

pub returns-clause-call : goal.returns-clause-call
returns-clause-call c one files after before now call = step_within one before now files after call

pub returns-clause-run : goal.returns-clause-run
returns-clause-run c one files after before now calls = run_within one files before calls now after

pub returns-clause-each : goal.returns-clause-each
returns-clause-each c one files after before now calls = run_costs one files before calls now after
