use Rattle.layout_lint.proofs.VerdictLaws.{head_fault}
use Rattle.layout_lint.proofs.RowSteps.{refused}
use Rattle.layout_lint.proofs.examine.look_at_all.Goals as goal

pub returns-in_err-head-clause-broken : goal.returns-in_err-head-clause-broken
returns-in_err-head-clause-broken g c = refused _ _ _ c.from_residual.ensures.1 (λ image told. head_fault image c.in_err-head.field-0.0 (c.in_err-head.ensures.rows image told))
