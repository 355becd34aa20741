-- The largest number of a vertex, as the children of a zone tell it.
use Rattle.std.specs.Prelude.{ℤ, Bool, ◌&&◌, List, Option}
use Rattle.std.specs.List.{list_any}
use Rattle.adf_model.specs.Slots.{Files}
use Rattle.sids_tables.specs.declared.labels.LabelKind.TheVariants.{ZoneType, GridCoordinates, Rind}
use Rattle.sids_tables.specs.contracts.labels.LabelKindPartialEq.TheImpl as kind_eq
use Rattle.sids_views.specs.declared.child.SeenChild.{SeenChild}
use Rattle.sids_views.specs.Views.{first_of}
use Rattle.sids_rules.specs.Values.{int_at}
use Rattle.sids_rules.specs.Terms.{Sizes, has_child, limit_of}
use Rattle.sids_readings.specs.Kinds.{kind_by}

-- a child is a grid that has a rind
abbrev pub has_grid_rind : Files → SeenChild → Bool
has_grid_rind files child = kind_eq.ghosts.eq child.kind GridCoordinates && has_child files child.target Rind

-- the number of vertices, in an unstructured zone of these children whose grids have no rind
abbrev pub limit_in : Files → Sizes → List SeenChild → Option ℤ
limit_in files sizes children = limit_of (kind_by files (first_of ZoneType children)) (list_any (has_grid_rind files) children) (int_at sizes.vertex 0)
