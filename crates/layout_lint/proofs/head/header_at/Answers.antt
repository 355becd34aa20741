use Rattle.layout_laws.proofs.RuleRows.{header_rule}
use Rattle.layout_lint.proofs.head.header_at.Goals as goal

pub returns-in-Err-clause-cause : goal.returns-in-Err-clause-cause
returns-in-Err-clause-cause g c = rw c.halt_at.ensures (header_rule _ _ c.in-Err.ensures.bad)
