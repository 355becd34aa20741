use Rattle.session.proofs.Faults.{ran_steps, ran_told, ran_laid_out, ran_counts, ran_names}
use Rattle.session.proofs.laws.sessions_are_steps.Goals as goal

pub returns-clause-steps : goal.returns-clause-steps
returns-clause-steps c = ran_steps

pub returns-clause-told : goal.returns-clause-told
returns-clause-told c = ran_told

pub returns-clause-laid_out : goal.returns-clause-laid_out
returns-clause-laid_out c = ran_laid_out

pub returns-clause-counts : goal.returns-clause-counts
returns-clause-counts c = ran_counts

pub returns-clause-names : goal.returns-clause-names
returns-clause-names c = ran_names
