use Rattle.std.proofs.Common.{◌≡◌, ap}
use Rattle.sids_rules.specs.Terms.{is_range, if_passes, good_range}
use Rattle.sids_readings.proofs.Keeping.{kept}
use Rattle.sids_section_rules.specs.declared.part_rules.SectionParts.{SectionParts}
use Rattle.sids_broken.proofs.element_rules.with_section_rules.Goals as goal

pub with_parts_rules-requires-clause-range : goal.with_parts_rules-requires-clause-range
with_parts_rules-requires-clause-range g c =
    kept (λ fs. if_passes is_range c.in-Ok.parts.range ≡ good_range fs c.args.spot.now.at) _ _ _ _ c.section_parts.ensures.only
    (λ told. ap (λ (parts : SectionParts). if_passes is_range parts.range) (c.in-Ok.ensures.value told))
