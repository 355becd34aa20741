use Rattle.sids_views.proofs.Gathered.{asks-trans}
use Rattle.sids_offset_rules.proofs.faces.face_range.Goals as goal

pub returns-then-code-eq-POLYGONS-clause-only : goal.returns-then-code-eq-POLYGONS-clause-only
returns-then-code-eq-POLYGONS-clause-only g c = asks-trans _ _ _ _ _ _ c.section_head.ensures.only c.good_range.ensures.only
