use Rattle.checker_tests.proofs.PlainLaws.{not_told}
use Rattle.checker_tests.proofs.tree_rules.breaks_in_section.Goals as goal

pub section_head-requires-clause-plain : goal.section_head-requires-clause-plain
section_head-requires-clause-plain c told = absurd (not_told told)

pub section_range-requires-clause-plain : goal.section_range-requires-clause-plain
section_range-requires-clause-plain c told = absurd (not_told told)

pub breaks_connectivity_size-requires-clause-plain : goal.breaks_connectivity_size-requires-clause-plain
breaks_connectivity_size-requires-clause-plain c told = absurd (not_told told)

pub breaks_sections_overlap-requires-clause-plain : goal.breaks_sections_overlap-requires-clause-plain
breaks_sections_overlap-requires-clause-plain c told = absurd (not_told told)

pub breaks_start_offset-requires-clause-plain : goal.breaks_start_offset-requires-clause-plain
breaks_start_offset-requires-clause-plain c told = absurd (not_told told)

pub breaks_offset_size-requires-clause-plain : goal.breaks_offset_size-requires-clause-plain
breaks_offset_size-requires-clause-plain c told = absurd (not_told told)
