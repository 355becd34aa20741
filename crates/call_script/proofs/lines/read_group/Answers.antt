use Rattle.std.proofs.Common.{refl, sym, ◌∙◌, ap, Err}
use Rattle.call_script.proofs.Reading.{ended_by}
use Rattle.call_script.proofs.CallLaws.{group_none, err_same}
use Rattle.call_script.proofs.lines.read_group.Goals as goal

pub returns-in_err-edits-clause-none : goal.returns-in_err-edits-clause-none
returns-in_err-edits-clause-none c = λ is call h. group_none _ call (c.in_err-edits.ensures.none (ap Err (err_same _ _ (sym (ended_by _ _ c.from_residual.ensures.1) ∙ is)))) h

pub returns-clause-found : goal.returns-clause-found
returns-clause-found c = (_, _, refl, c.in_ok-edits.ensures.found, refl)
