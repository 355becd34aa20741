use Rattle.std.proofs.Common.{refl}
use Rattle.call_script.specs.Fields.Kind.{a_text}
use Rattle.call_script.proofs.Reading.{ended_by, fails_here, fails_later}
use Rattle.call_script.proofs.edits.read_create.Goals as goal

pub returns-in_err-name : goal.returns-in_err-name
returns-in_err-name c = rw (ended_by _ _ c.from_residual.ensures.1) (fails_here a_text _ _ _ c.in_err-name.ensures)

pub returns-in_err-label : goal.returns-in_err-label
returns-in_err-label c = rw (ended_by _ _ c.from_residual-in_err-label.ensures.1) (fails_later a_text _ _ _ _ _ c.in_ok-name.ensures c.in_err-label.ensures)

pub returns : goal.returns
returns c = ((_, (_, tt)), refl, (_, c.in_ok-name.ensures, (_, c.in_ok-label.ensures, refl)))
