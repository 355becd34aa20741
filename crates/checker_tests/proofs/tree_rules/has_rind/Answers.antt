use Rattle.checker_tests.proofs.PlainLaws.{not_told}
use Rattle.checker_tests.proofs.tree_rules.has_rind.Goals as goal

pub rind_there-requires-clause-plain : goal.rind_there-requires-clause-plain
rind_there-requires-clause-plain c told = absurd (not_told told)
