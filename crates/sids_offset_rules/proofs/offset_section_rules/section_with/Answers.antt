use Rattle.sids_views.proofs.Gathered.{asks-trans}
use Rattle.sids_offset_rules.proofs.offset_section_rules.section_with.Goals as goal

pub returns-in-Ok-false-breaks_offset_size-clause-only : goal.returns-in-Ok-false-breaks_offset_size-clause-only
returns-in-Ok-false-breaks_offset_size-clause-only g c = asks-trans _ _ _ _ _ _ c.breaks_connectivity_size.ensures.only c.breaks_offset_size.ensures.only
