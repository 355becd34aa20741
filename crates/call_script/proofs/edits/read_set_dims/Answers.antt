use Rattle.std.proofs.Common.{refl}
use Rattle.call_script.specs.Fields.Kind.{a_type}
use Rattle.call_script.proofs.Reading.{ended_by, fails_here, fails_later}
use Rattle.call_script.proofs.edits.read_set_dims.Goals as goal

pub returns-in_err-kind : goal.returns-in_err-kind
returns-in_err-kind c = rw (ended_by _ _ c.from_residual.ensures.1) (fails_here a_type _ _ _ c.in_err-kind.ensures)

pub returns-in_err-sizes : goal.returns-in_err-sizes
returns-in_err-sizes c = rw (ended_by _ _ c.from_residual-in_err-sizes.ensures.1) (fails_later a_type _ _ _ _ _ c.in_ok-kind.ensures c.in_err-sizes.ensures)

pub returns : goal.returns
returns c = ((_, (_, tt)), refl, (_, c.in_ok-kind.ensures, (_, c.in_ok-sizes.ensures, refl)))
