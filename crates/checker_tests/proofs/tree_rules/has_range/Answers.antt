use Rattle.checker_tests.proofs.PlainLaws.{not_told}
use Rattle.checker_tests.proofs.tree_rules.has_range.Goals as goal

pub section_range-requires-clause-plain : goal.section_range-requires-clause-plain
section_range-requires-clause-plain c told = absurd (not_told told)
