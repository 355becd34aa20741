use Rattle.adf_model.proofs.Answering.FaultBound.{run_counts, step_bound, run_bound}
use Rattle.adf_model.proofs.fault_laws.faults_bound_replies.Goals as goal

pub returns-clause-counts : goal.returns-clause-counts
returns-clause-counts c = run_counts

pub returns-clause-call : goal.returns-clause-call
returns-clause-call c files after before now call = step_bound before now files after call

pub returns-clause-run : goal.returns-clause-run
returns-clause-run c = run_bound
