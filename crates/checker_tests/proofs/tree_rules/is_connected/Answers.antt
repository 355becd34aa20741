use Rattle.checker_tests.proofs.PlainLaws.{not_told}
use Rattle.checker_tests.proofs.tree_rules.is_connected.Goals as goal

pub connectivity_of-requires-clause-plain : goal.connectivity_of-requires-clause-plain
connectivity_of-requires-clause-plain c told = absurd (not_told told)
