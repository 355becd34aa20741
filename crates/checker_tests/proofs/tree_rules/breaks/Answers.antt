use Rattle.checker_tests.proofs.PlainLaws.{not_told}
use Rattle.checker_tests.proofs.tree_rules.breaks.Goals as goal

pub breaks_place-requires-clause-plain : goal.breaks_place-requires-clause-plain
breaks_place-requires-clause-plain c told = absurd (not_told told)

pub breaks_version-requires-clause-plain : goal.breaks_version-requires-clause-plain
breaks_version-requires-clause-plain c told = absurd (not_told told)

pub breaks_version_data-requires-clause-plain : goal.breaks_version_data-requires-clause-plain
breaks_version_data-requires-clause-plain c told = absurd (not_told told)

pub is_no_word-requires-clause-plain : goal.is_no_word-requires-clause-plain
is_no_word-requires-clause-plain c told = absurd (not_told told)

pub breaks_zone_types-requires-clause-plain : goal.breaks_zone_types-requires-clause-plain
breaks_zone_types-requires-clause-plain c told = absurd (not_told told)

pub breaks_not_empty-requires-clause-plain : goal.breaks_not_empty-requires-clause-plain
breaks_not_empty-requires-clause-plain c told = absurd (not_told told)

pub breaks_array_data-requires-clause-plain : goal.breaks_array_data-requires-clause-plain
breaks_array_data-requires-clause-plain c told = absurd (not_told told)

pub breaks_coordinate_type-requires-clause-plain : goal.breaks_coordinate_type-requires-clause-plain
breaks_coordinate_type-requires-clause-plain c told = absurd (not_told told)

pub breaks_rind_name-requires-clause-plain : goal.breaks_rind_name-requires-clause-plain
breaks_rind_name-requires-clause-plain c told = absurd (not_told told)

pub breaks_rind_data-requires-clause-plain : goal.breaks_rind_data-requires-clause-plain
breaks_rind_data-requires-clause-plain c told = absurd (not_told told)

pub breaks_field_type-requires-clause-plain : goal.breaks_field_type-requires-clause-plain
breaks_field_type-requires-clause-plain c told = absurd (not_told told)

pub breaks_bc_points-requires-clause-plain : goal.breaks_bc_points-requires-clause-plain
breaks_bc_points-requires-clause-plain c told = absurd (not_told told)

pub breaks_bc_family-requires-clause-plain : goal.breaks_bc_family-requires-clause-plain
breaks_bc_family-requires-clause-plain c told = absurd (not_told told)

pub breaks_small_node-requires-clause-plain : goal.breaks_small_node-requires-clause-plain
breaks_small_node-requires-clause-plain c told = absurd (not_told told)
