use Rattle.checker_tests.proofs.PlainLaws.{not_told}
use Rattle.checker_tests.proofs.tree_rules.has_head.Goals as goal

pub section_head-requires-clause-plain : goal.section_head-requires-clause-plain
section_head-requires-clause-plain c told = absurd (not_told told)
