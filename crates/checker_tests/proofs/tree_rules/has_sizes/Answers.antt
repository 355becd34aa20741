use Rattle.checker_tests.proofs.PlainLaws.{not_told}
use Rattle.checker_tests.proofs.tree_rules.has_sizes.Goals as goal

pub zone_sizes-requires-clause-plain : goal.zone_sizes-requires-clause-plain
zone_sizes-requires-clause-plain c told = absurd (not_told told)
