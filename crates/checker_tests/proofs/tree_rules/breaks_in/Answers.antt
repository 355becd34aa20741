use Rattle.checker_tests.proofs.PlainLaws.{not_told}
use Rattle.checker_tests.proofs.tree_rules.breaks_in.Goals as goal

pub zone_sizes-requires-clause-plain : goal.zone_sizes-requires-clause-plain
zone_sizes-requires-clause-plain c told = absurd (not_told told)

pub dims_under-requires-clause-plain : goal.dims_under-requires-clause-plain
dims_under-requires-clause-plain c told = absurd (not_told told)

pub breaks_dims-requires-clause-plain : goal.breaks_dims-requires-clause-plain
breaks_dims-requires-clause-plain c told = absurd (not_told told)
