use Rattle.std.proofs.Common.{refl}
use Rattle.call_script.specs.Fields.Kind.{a_selection}
use Rattle.call_script.proofs.Reading.{ended_by, fails_here, fails_later}
use Rattle.call_script.proofs.edits.read_put_part.Goals as goal

pub returns-in_err-selection : goal.returns-in_err-selection
returns-in_err-selection c = rw (ended_by _ _ c.from_residual.ensures.1) (fails_here a_selection _ _ _ c.in_err-selection.ensures)

pub returns-in_err-bytes : goal.returns-in_err-bytes
returns-in_err-bytes c = rw (ended_by _ _ c.from_residual-in_err-bytes.ensures.1) (fails_later a_selection _ _ _ _ _ c.in_ok-selection.ensures c.in_err-bytes.ensures)

pub returns : goal.returns
returns c = ((_, (_, tt)), refl, (_, c.in_ok-selection.ensures, (_, c.in_ok-bytes.ensures, refl)))
