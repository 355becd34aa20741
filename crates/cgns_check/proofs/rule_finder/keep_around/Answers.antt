use Rattle.sids_views.proofs.Gathered.{asks-trans}
use Rattle.cgns_check.proofs.KeptLaws.{later_ask}
use Rattle.cgns_check.proofs.rule_finder.keep_around.Goals as goal

pub returns-in-Ok-keep_zone-clause-cause : goal.returns-in-Ok-keep_zone-clause-cause
returns-in-Ok-keep_zone-clause-cause g c =
    later_ask _ _ _ _ _ c.keep_dims.result (asks-trans _ _ _ _ _ _ c.keep_base.ensures.only c.keep_zone.ensures.only) c.keep_dims.ensures.cause
