use Rattle.checker_tests.proofs.PlainLaws.{not_told}
use Rattle.checker_tests.proofs.tree_rules.is_unstructured.Goals as goal

pub zone_kind-requires-clause-plain : goal.zone_kind-requires-clause-plain
zone_kind-requires-clause-plain c told = absurd (not_told told)
