use Rattle.adf_model.proofs.Answering.RunLaws.{run_told, run_laid_out, run_parts, run_ends}
use Rattle.adf_model.proofs.run_laws.states_are_laid_out.Goals as goal

pub returns-clause-told : goal.returns-clause-told
returns-clause-told c = run_told

pub returns-clause-all_told : goal.returns-clause-all_told
returns-clause-all_told c files after before now calls h told number = run_told files after before now calls h number (told number)

pub returns-clause-laid_out : goal.returns-clause-laid_out
returns-clause-laid_out c = run_laid_out

pub returns-clause-ends : goal.returns-clause-ends
returns-clause-ends c = run_ends

pub returns-clause-each : goal.returns-clause-each
returns-clause-each c = run_parts
