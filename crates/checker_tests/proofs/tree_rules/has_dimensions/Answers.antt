use Rattle.checker_tests.proofs.PlainLaws.{not_told}
use Rattle.checker_tests.proofs.tree_rules.has_dimensions.Goals as goal

pub base_dimensions-requires-clause-plain : goal.base_dimensions-requires-clause-plain
base_dimensions-requires-clause-plain c told = absurd (not_told told)
