-- The sections of polygons of a zone, as its children tell them.
use Rattle.std.specs.Prelude.{if◌then◌else◌, Option, None}
use Rattle.adf_model.specs.Slots.{Files}
use Rattle.sids_tables.specs.declared.labels.LabelKind.TheVariants.{Elements}
use Rattle.sids_tables.specs.contracts.labels.LabelKindPartialEq.TheImpl as kind_eq
use Rattle.sids_views.specs.declared.child.SeenChild.{SeenChild}
use Rattle.sids_rules.specs.Terms.{Range}
use Rattle.sids_rules.specs.OffsetRules.{face_range}

-- the range of a child that is a section of polygons
abbrev pub face_of : Files → SeenChild → Option Range
face_of files child = if kind_eq.ghosts.eq child.kind Elements then face_range files child.target else None
