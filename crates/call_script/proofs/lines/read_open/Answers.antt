use Rattle.std.proofs.Common.{refl}
use Rattle.call_script.specs.Fields.Kind.{a_file, a_mode}
use Rattle.call_script.proofs.Reading.{ended_by, fails_here, fails_later}
use Rattle.call_script.proofs.lines.read_open.Goals as goal

pub returns-in_err-number : goal.returns-in_err-number
returns-in_err-number c = rw (ended_by _ _ c.from_residual.ensures.1) (fails_here a_file _ _ _ c.in_err-number.ensures)

pub returns-in_err-mode : goal.returns-in_err-mode
returns-in_err-mode c = rw (ended_by _ _ c.from_residual-in_err-mode.ensures.1) (fails_later a_file _ _ _ _ _ c.in_ok-number.ensures (fails_here a_mode _ _ _ c.in_err-mode.ensures))

pub returns-in_err-limit : goal.returns-in_err-limit
returns-in_err-limit c = rw (ended_by _ _ c.from_residual-in_err-limit.ensures.1) (fails_later a_file _ _ _ _ _ c.in_ok-number.ensures (fails_later a_mode _ _ _ _ _ c.in_ok-mode.ensures c.in_err-limit.ensures))

pub returns : goal.returns
returns c = ((_, (_, (_, tt))), refl, (_, c.in_ok-number.ensures, (_, c.in_ok-mode.ensures, (_, c.in_ok-limit.ensures, refl))))
