-- Which sizes of a zone the arrays in a solution are of, as its children tell.
use Rattle.std.specs.Prelude.{ℕ, ℤ, Bool, true, false, if◌then◌else◌, List, codes, bytes_eq, Option, Some, None, is_some, option_map}
use Rattle.adf_model.specs.declared.tree.NodeId.{NodeId}
use Rattle.adf_model.specs.Slots.{Files}
use Rattle.sids_tables.specs.declared.labels.LabelKind.{LabelKind}
use Rattle.sids_tables.specs.declared.labels.LabelKind.TheVariants as kind
use Rattle.sids_tables.specs.declared.labels.LabelKind.TheVariants.{IndexRange, IndexArray, GridLocation}
use Rattle.sids_views.specs.declared.child.SeenChild.{SeenChild}
use Rattle.sids_views.specs.Views.{kind_there, first_of}
use Rattle.sids_rules.specs.Values.{with_rind}
use Rattle.sids_rules.specs.Terms.{Sizes, text_of_first, coordinate_dims, field_dims}
use Rattle.sids_node_rules.specs.declared.arrays.FieldPlace.{FieldPlace}
use Rattle.sids_node_rules.specs.declared.arrays.FieldPlace.TheVariants as place
use Rattle.sids_readings.specs.Rinds.{rind_in}

abbrev pub place_of_word : List ℕ → FieldPlace
place_of_word word = if bytes_eq word (codes "Vertex") then place.Vertex else if bytes_eq word (codes "CellCenter") then place.CellCenter else place.Untested

-- fields that have ranges or lists of points are not tested
abbrev pub place_in : Files → List SeenChild → FieldPlace
place_in files children =
    if is_some (first_of IndexRange children) then place.Untested
    else if is_some (first_of IndexArray children) then place.Untested
    else place_of_word (text_of_first files (codes "Vertex") (first_of GridLocation children))

abbrev pub sizes_at : FieldPlace → Sizes → Option (List ℤ)
sizes_at place.Vertex sizes = Some sizes.vertex
sizes_at place.CellCenter sizes = Some sizes.cell
sizes_at place.Untested sizes = None

-- the dimensions of the fields in a solution of these children
abbrev pub dims_in : Files → List SeenChild → Sizes → Option (List ℤ)
dims_in files children sizes = option_map (λ plain. with_rind plain (rind_in sizes.index files children)) (sizes_at (place_in files children) sizes)

-- rules speak of the dimensions of the arrays in a node of a kind
abbrev pub holds_arrays : LabelKind → Bool
holds_arrays kind.GridCoordinates = true
holds_arrays kind.FlowSolution = true
holds_arrays _ = false

-- the dimensions that the arrays under a node of a kind are to have, in a zone of these sizes
abbrev pub dims_by : LabelKind → Files → NodeId → Sizes → Option (List ℤ)
dims_by kind.GridCoordinates files at sizes = Some (coordinate_dims files at sizes)
dims_by kind.FlowSolution files at sizes = field_dims files at sizes
dims_by _ files at sizes = None

-- that, where the sizes of the zone are known
abbrev pub dims_of : LabelKind → Files → NodeId → Option Sizes → Option (List ℤ)
dims_of k files at None = None
dims_of k files at (Some sizes) = dims_by k files at sizes

-- that of a node, where there is one
abbrev pub dims_under : Files → Option Sizes → Option NodeId → Option (List ℤ)
dims_under files sizes None = None
dims_under files sizes (Some at) = dims_of (kind_there files at) files at sizes
