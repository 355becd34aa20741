use Rattle.checker_tests.proofs.PlainLaws.{not_told}
use Rattle.checker_tests.proofs.tree_rules.has_offsets.Goals as goal

pub offsets_of-requires-clause-plain : goal.offsets_of-requires-clause-plain
offsets_of-requires-clause-plain c told = absurd (not_told told)
