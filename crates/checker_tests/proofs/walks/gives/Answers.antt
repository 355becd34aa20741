use Rattle.checker_tests.proofs.PlainLaws.{not_told}
use Rattle.checker_tests.proofs.walks.gives.Goals as goal

pub next-requires-clause-stands : goal.next-requires-clause-stands
next-requires-clause-stands c told = absurd (not_told told)
