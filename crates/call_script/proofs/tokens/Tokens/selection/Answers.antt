use Rattle.std.proofs.Common.{arith}
use Rattle.call_script.specs.Fields.Kind.{some_dims}
use Rattle.call_script.proofs.Reading.{ended_by, fails_here, fails_later}
use Rattle.call_script.proofs.Selections.{no_parts, no_selection, selected}
use Rattle.call_script.proofs.tokens.Tokens.selection.Goals as goal
use Rattle.call_script.proofs.tokens.Tokens.selection.Goals.{then-rank-eq0-via-then-rank-eq0, then-rank-eq0-via-else-rank-eq0+then-end-rank, then-rank-eq0-via-else-rank-eq0+else-end-rank+then-stride-rank}

pub returns-in_err-start : goal.returns-in_err-start
returns-in_err-start c = rw (ended_by _ _ c.from_residual.ensures.1) (no_parts _ _ (fails_here some_dims _ _ _ c.in_err-start.ensures))

pub returns-in_err-end : goal.returns-in_err-end
returns-in_err-end c = rw (ended_by _ _ c.from_residual-in_err-end.ensures.1) (no_parts _ _ (fails_later some_dims _ _ _ _ _ c.in_ok-start.ensures (fails_here some_dims _ _ _ c.in_err-end.ensures)))

pub returns-in_err-stride : goal.returns-in_err-stride
returns-in_err-stride c = rw (ended_by _ _ c.from_residual-in_err-stride.ensures.1) (no_parts _ _ (fails_later some_dims _ _ _ _ _ c.in_ok-start.ensures (fails_later some_dims _ _ _ _ _ c.in_ok-end.ensures c.in_err-stride.ensures)))

pub returns : goal.returns
returns c = selected _ _ _ _ _ _ _ _ _ _ c.in_ok-start.ensures c.in_ok-end.ensures c.in_ok-stride.ensures (omega arith) (omega arith) (omega arith)

pub returns-then-rank-eq0 : goal.returns-then-rank-eq0
returns-then-rank-eq0 c = no_selection _ _ _ _ _ _ _ c.in_ok-start.ensures c.in_ok-end.ensures c.in_ok-stride.ensures (λ some second third.
    elim c.then-rank-eq0.branch [
      | then-rank-eq0-via-then-rank-eq0 w ↦ omega arith
      | then-rank-eq0-via-else-rank-eq0+then-end-rank w ↦ omega arith
      | then-rank-eq0-via-else-rank-eq0+else-end-rank+then-stride-rank w ↦ omega arith
    ])
