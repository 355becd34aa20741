-- What rules speak of: the numbers of bases, zones, sections and rinds, and the words of kinds and locations.
use Rattle.std.specs.Prelude.{ℕ, suc, ◌*◌, ℤ, pos, ◌-ℤ◌, Bool, false, ◌&&◌, ◌||◌, ◌==◌, nat_le, int_le, unsigned_abs, if◌then◌else◌, List, [], ◌∷◌, codes, take, drop, find, replicate, bytes_eq, Option, Some, None, is_some, option_map}
use Rattle.std.specs.List.{list_any}
use Rattle.adf_format.specs.declared.types.DataType.TheVariants.{I4}
use Rattle.adf_format.specs.Tree.{Node}
use Rattle.adf_model.specs.declared.tree.NodeId.{NodeId}
use Rattle.adf_model.specs.Slots.{Files}
use Rattle.sids_tables.specs.declared.labels.LabelKind.{LabelKind}
use Rattle.sids_tables.specs.declared.labels.LabelKind.TheVariants.{ZoneType, GridCoordinates, Rind, IndexRange, IndexArray, GridLocation, DataArray}
use Rattle.sids_rules.specs.declared.zones.RuleKind.{RuleKind}
use Rattle.sids_rules.specs.declared.zones.RuleKind.TheVariants as zone
use Rattle.sids_views.specs.declared.child.SeenChild.{SeenChild}
use Rattle.sids_views.specs.Views.{node_there, children_of_kind, first_of_kind, child_called, of_that_kind}
use Rattle.sids_rules.specs.Values.{is_array_of, is_ints, is_ints_of, ints_there, int_at, text_of, with_rind}

-- what is there, where it passes a test
abbrev pub if_passes : {A : Type 0} → (A → Bool) → Option A → Option A
if_passes test None = None
if_passes test (Some a) = if test a then Some a else None

-- ---- bases

-- the cell dimension and the physical one
pub record Dimensions : Type 0 where
  pub cell : ℤ
  pub phys : ℤ

-- those of a base that meets K05
abbrev pub base_dimensions : Files → NodeId → Option Dimensions
base_dimensions files base =
    if is_array_of I4 (2 ∷ []) (node_there files base) then Some (record { cell = int_at (ints_there files base) 0; phys = int_at (ints_there files base) 1 }) else None

abbrev pub is_dimension : ℤ → Bool
is_dimension n = int_le (pos 1) n && int_le n (pos 3)

-- both are 1 to 3, and the cells fit in space
abbrev pub are_dimensions : Dimensions → Bool
are_dimensions d = is_dimension d.cell && is_dimension d.phys && int_le d.cell d.phys

-- ---- zones

-- the sizes of a zone along each index
pub record Sizes : Type 0 where
  pub index : ℕ
  pub vertex : List ℤ
  pub cell : List ℤ
  pub boundary : List ℤ

abbrev pub sizes_in : ℕ → List ℤ → Sizes
sizes_in index numbers = record { index = index; vertex = take index numbers; cell = take index (drop index numbers); boundary = drop (2 * index) numbers }

-- for Ints (i, 3) with i 1 to 3, this i; else 0
abbrev pub index_in : List ℕ → ℕ
index_in (i ∷ n ∷ []) = if nat_le 1 i && nat_le i 3 && (n == 3) then i else 0
index_in dims = 0

abbrev pub index_of : Node → ℕ
index_of node = if is_ints node then index_in node.dims else 0

-- the sizes of a zone that meets K07
abbrev pub zone_sizes : Files → NodeId → Option Sizes
zone_sizes files at = let index = index_of (node_there files at) in if index == 0 then None else Some (sizes_in index (ints_there files at))

abbrev pub sizes_of_zone : Files → Option NodeId → Option Sizes
sizes_of_zone files None = None
sizes_of_zone files (Some at) = zone_sizes files at

abbrev pub text_of_first : Files → List ℕ → Option NodeId → List ℕ
text_of_first files other None = other
text_of_first files other (Some at) = text_of (node_there files at)

-- the word of a zone's kind: Structured where it has no child that says so; the empty text where the first that does is no Text
abbrev pub zone_word : Files → NodeId → List ℕ
zone_word files at = text_of_first files (codes "Structured") (first_of_kind ZoneType files at)

abbrev pub kind_of_word : List ℕ → RuleKind
kind_of_word word = if bytes_eq word (codes "Structured") then zone.Structured else if bytes_eq word (codes "Unstructured") then zone.Unstructured else zone.Other

abbrev pub zone_kind : Files → NodeId → RuleKind
zone_kind files at = kind_of_word (zone_word files at)

-- ---- rinds and locations

-- the planes of a rind: zeros where there is none
abbrev pub rind_of : ℕ → Files → Option SeenChild → List ℤ
rind_of index files None = replicate (2 * index) (pos 0)
rind_of index files (Some child) = ints_there files child.target

-- the numbers of the first Rind_t child that meets K19, else zeros
abbrev pub rind_there : ℕ → Files → NodeId → List ℤ
rind_there index files at = rind_of index files (find (λ child. is_ints_of ((2 * index) ∷ []) (node_there files child.target)) (children_of_kind Rind files at))

-- the text of the first GridLocation_t child: Vertex without one, the empty text where that is no Text
abbrev pub location_there : Files → NodeId → List ℕ
location_there files at = text_of_first files (codes "Vertex") (first_of_kind GridLocation files at)

abbrev pub has_child : Files → NodeId → LabelKind → Bool
has_child files at kind = is_some (first_of_kind kind files at)

-- the sizes that fields in a solution are of, before its rind: none where they are not tested
abbrev pub field_sizes : Files → NodeId → Sizes → Option (List ℤ)
field_sizes files solution sizes =
    if has_child files solution IndexRange || has_child files solution IndexArray then None
    else if bytes_eq (location_there files solution) (codes "Vertex") then Some sizes.vertex
    else if bytes_eq (location_there files solution) (codes "CellCenter") then Some sizes.cell
    else None

-- the dimensions of fields in a solution
abbrev pub field_dims : Files → NodeId → Sizes → Option (List ℤ)
field_dims files solution sizes = option_map (λ plain. with_rind plain (rind_there sizes.index files solution)) (field_sizes files solution sizes)

-- the dimensions of coordinates in a grid
abbrev pub coordinate_dims : Files → NodeId → Sizes → List ℤ
coordinate_dims files grid sizes = with_rind sizes.vertex (rind_there sizes.index files grid)

abbrev pub limit_of : RuleKind → Bool → ℤ → Option ℤ
limit_of zone.Unstructured false n = Some n
limit_of kind rind n = None

-- whether some grid of a zone has a rind
abbrev pub has_rind : Files → NodeId → Bool
has_rind files at = list_any (λ grid. has_child files grid.target Rind) (children_of_kind GridCoordinates files at)

-- the number of vertices that node numbers may not exceed, where there is one: in an unstructured zone whose grids have no rind
abbrev pub vertex_limit : Files → NodeId → Sizes → Option ℤ
vertex_limit files at sizes = limit_of (zone_kind files at) (has_rind files at) (int_at sizes.vertex 0)

-- ---- sections of elements

-- the code of the elements, and how many are on the boundary
pub record Head : Type 0 where
  pub code : ℤ
  pub boundary : ℤ

-- that of a section that meets K23
abbrev pub section_head : Files → NodeId → Option Head
section_head files section =
    if is_array_of I4 (2 ∷ []) (node_there files section) then Some (record { code = int_at (ints_there files section) 0; boundary = int_at (ints_there files section) 1 }) else None

-- code and boundary are not negative
abbrev pub is_head : Head → Bool
is_head head = int_le (pos 0) head.code && int_le (pos 0) head.boundary

-- the numbers of the first and of the last element
pub record Range : Type 0 where
  pub start : ℤ
  pub end : ℤ

-- the child that K25 wants
abbrev pub range_child : Files → NodeId → Option NodeId
range_child files section = if_passes (λ at. is_ints_of (2 ∷ []) (node_there files at)) (of_that_kind IndexRange (child_called (codes "ElementRange") files section))

abbrev pub range_at : Files → NodeId → Range
range_at files at = record { start = int_at (ints_there files at) 0; end = int_at (ints_there files at) 1 }

-- the range of a section that meets K25
abbrev pub section_range : Files → NodeId → Option Range
section_range files section = option_map (range_at files) (range_child files section)

-- it starts at 1 or later, and does not end before its start
abbrev pub is_range : Range → Bool
is_range range = int_le (pos 1) range.start && int_le range.start range.end

-- the range of a section that meets K25 and K26
abbrev pub good_range : Files → NodeId → Option Range
good_range files section = if_passes is_range (section_range files section)

-- how many elements a range has that is one
abbrev pub element_count : Range → ℕ
element_count range = suc (unsigned_abs (range.end -ℤ range.start))

-- the child that K27 wants
abbrev pub connectivity_child : Files → NodeId → Option NodeId
connectivity_child files section = of_that_kind DataArray (child_called (codes "ElementConnectivity") files section)
