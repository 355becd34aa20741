-- The rules of the checker, each told broken of a seen node. A rule that needs another is not tested where that is broken, nor where there is no zone or base that it speaks of.
use Rattle.std.specs.Prelude.{ℕ, suc, ◌*◌, ℤ, pos, ◌-ℤ◌, Bool, false, not, ◌&&◌, ◌||◌, ◌==◌, nat_lt, int_lt, int_le, if◌then◌else◌, List, [], ◌∷◌, codes, length, map, filter, filter_map, take_while, zip, bytes_eq, Option, Some, None, is_some, is_none}
use Rattle.std.specs.List.{list_any}
use Rattle.std.specs.Int.{int_min, int_max}
use Rattle.std.specs.Ordering.{int_eq}
use Rattle.adf_format.specs.declared.types.DataType.TheVariants.{Mt, R4, R8, B1, C1}
use Rattle.adf_format.specs.Tree.{Node}
use Rattle.adf_model.specs.declared.tree.NodeId.{NodeId}
use Rattle.adf_model.specs.Slots.{Files}
use Rattle.sids_tables.specs.declared.labels.LabelKind.{LabelKind}
use Rattle.sids_tables.specs.declared.labels.LabelKind.TheVariants.{Root, CgnsLibraryVersion, CgnsBase, Zone, ZoneType, GridCoordinates, Elements, FlowSolution, ZoneBc, Bc, DataArray, Family, FamilyName, SimulationType, DataClass, DimensionalUnits, DimensionalExponents, Descriptor, UserDefinedData, Rind, IndexRange, IndexArray, GridLocation, Other}
use Rattle.sids_tables.specs.contracts.labels.LabelKindPartialEq.TheImpl as kind_eq
use Rattle.sids_tables.specs.Labels.{children_of}
use Rattle.sids_tables.specs.Words.{grid_locations, zone_types, simulation_types, data_classes, bc_types}
use Rattle.sids_rules.specs.declared.seen.Seen.{Seen}
use Rattle.sids_rules.specs.declared.zones.RuleKind.{RuleKind}
use Rattle.sids_rules.specs.declared.zones.RuleKind.TheVariants as zone
use Rattle.sids_rules.specs.Sections.{fixed_nodes}
use Rattle.sids_views.specs.declared.child.SeenChild.{SeenChild}
use Rattle.sids_views.specs.Views.{given, is_same_node, node_there, kind_there, is_kind, children_there, children_of_kind, child_called, count_of}
use Rattle.sids_rules.specs.Values.{is_type, has_data, has_rank, is_array_of, is_ints, is_ints_of, is_small, ints_there, text_of, is_word, are_dims}
use Rattle.sids_rules.specs.Terms.{base_dimensions, are_dimensions, zone_sizes, sizes_of_zone, zone_kind, has_child, coordinate_dims, field_dims, vertex_limit, Head, section_head, is_head, Range, section_range, is_range, good_range, element_count, connectivity_child}

-- ---- which nodes a rule is on

-- a rule on nodes of a kind, other than the first of the walk, with the node that each is seen as
abbrev pub on : LabelKind → Files → Seen → (NodeId → Bool) → Bool
on kind files seen test = given seen.target (λ at. is_some seen.parent && is_kind kind files at && test at)

-- a rule on nodes of a kind in a parent of a kind, with the node and that parent
abbrev pub on_in : LabelKind → LabelKind → Files → Seen → (NodeId → NodeId → Bool) → Bool
on_in kind place files seen test = given seen.target (λ at. given seen.parent (λ parent. is_kind kind files at && is_kind place files parent && test at parent))

-- ---- every node

-- K01 link: it cannot be followed
abbrev pub breaks_link : Files → Seen → Bool
breaks_link files seen = is_none seen.target

-- what a parent is in the table of allowed children: the root where it is that of its file, else what its label says
abbrev pub place_kind : Files → NodeId → LabelKind
place_kind files parent = if parent.serial == 0 then Root else kind_there files parent

abbrev pub is_allowed : LabelKind → LabelKind → Bool
is_allowed parent child = list_any (λ kind. kind_eq.ghosts.eq kind child) (children_of parent)

-- K02 place: a node of the profile that is not allowed under its parent
abbrev pub breaks_place : Files → Seen → Bool
breaks_place files seen = given seen.target (λ at. given seen.parent (λ parent. not (is_kind Other files at) && not (is_allowed (place_kind files parent) (kind_there files at))))

-- ---- the root and bases

-- K03 version: the root has not exactly one version
abbrev pub breaks_version : Files → Seen → Bool
breaks_version files seen = given seen.target (λ at. is_none seen.parent && not (count_of CgnsLibraryVersion (children_there files at) == 1))

-- K04 version-data: not R4 (1) with data
abbrev pub breaks_version_data : Files → Seen → Bool
breaks_version_data files seen = on CgnsLibraryVersion files seen (λ at. not (is_array_of R4 (1 ∷ []) (node_there files at)))

-- K05 base-data: not I4 (2) with data
abbrev pub breaks_base_data : Files → Seen → Bool
breaks_base_data files seen = on CgnsBase files seen (λ at. is_none (base_dimensions files at))

-- K06 base-dimensions, needs K05: a number that is not 1 to 3, or more cell dimensions than physical ones
abbrev pub breaks_base_dimensions : Files → Seen → Bool
breaks_base_dimensions files seen = on CgnsBase files seen (λ at. given (base_dimensions files at) (λ d. not (are_dimensions d)))

-- ---- zones

-- K07 zone-data: not Ints (i, 3) with i 1 to 3
abbrev pub breaks_zone_data : Files → Seen → Bool
breaks_zone_data files seen = on Zone files seen (λ at. is_none (zone_sizes files at))

abbrev pub is_index_off : RuleKind → ℕ → ℤ → Bool
is_index_off zone.Structured index cell = not (int_eq (pos index) cell)
is_index_off zone.Unstructured index cell = not (index == 1)
is_index_off zone.Other index cell = false

-- K08 index-dimension, needs K05, K06 and K07: in a structured zone the indices are not as many as the cell dimensions, in an unstructured one not one
abbrev pub breaks_index_dimension : Files → Seen → Bool
breaks_index_dimension files seen = on Zone files seen (λ at.
    given seen.base (λ base. given (base_dimensions files base) (λ d. are_dimensions d &&
    given (zone_sizes files at) (λ sizes. is_index_off (zone_kind files at) sizes.index d.cell))))

-- K09 vertex-size, needs K07: under 1 vertex or under 0 cells
abbrev pub breaks_vertex_size : Files → Seen → Bool
breaks_vertex_size files seen = on Zone files seen (λ at. given (zone_sizes files at) (λ sizes.
    list_any (λ n. int_lt n (pos 1)) sizes.vertex || list_any (λ n. int_lt n (pos 0)) sizes.cell))

abbrev pub are_cells_off : RuleKind → List ℤ → List ℤ → Bool
are_cells_off zone.Structured vertex cell = list_any (λ p. not (int_eq p.1 (p.0 -ℤ pos 1))) (zip vertex cell)
are_cells_off zone.Unstructured vertex cell = false
are_cells_off zone.Other vertex cell = false

-- K10 cell-size, needs K07: in a structured zone the cells are not one fewer than the vertices
abbrev pub breaks_cell_size : Files → Seen → Bool
breaks_cell_size files seen = on Zone files seen (λ at. given (zone_sizes files at) (λ sizes. are_cells_off (zone_kind files at) sizes.vertex sizes.cell))

abbrev pub is_boundary_off : RuleKind → List ℤ → List ℤ → Bool
is_boundary_off zone.Structured vertex boundary = list_any (λ n. not (int_eq n (pos 0))) boundary
is_boundary_off zone.Unstructured vertex boundary = list_any (λ p. int_lt p.1 (pos 0) || int_lt p.0 p.1) (zip vertex boundary)
is_boundary_off zone.Other vertex boundary = false

-- K11 boundary-size, needs K07: boundary vertices in a structured zone; in an unstructured one under 0, or more than vertices
abbrev pub breaks_boundary_size : Files → Seen → Bool
breaks_boundary_size files seen = on Zone files seen (λ at. given (zone_sizes files at) (λ sizes. is_boundary_off (zone_kind files at) sizes.vertex sizes.boundary))

-- no Text that is one of these words
abbrev pub is_no_word : List (List ℕ) → Files → NodeId → Bool
is_no_word words files at = not (is_word words (text_of (node_there files at)))

-- K12 zone-type: no Text of a zone type
abbrev pub breaks_zone_type : Files → Seen → Bool
breaks_zone_type files seen = on ZoneType files seen (is_no_word zone_types files)

-- K13 zone-types: more than one
abbrev pub breaks_zone_types : Files → Seen → Bool
breaks_zone_types files seen = on Zone files seen (λ at. nat_lt 1 (count_of ZoneType (children_there files at)))

-- ---- nodes without data, and arrays

abbrev pub has_type : Files → NodeId → Bool
has_type files at = not (is_type Mt (node_there files at))

-- K14 not-empty: not MT
abbrev pub breaks_not_empty : Files → Seen → Bool
breaks_not_empty files seen =
    on GridCoordinates files seen (has_type files) || on FlowSolution files seen (has_type files) || on ZoneBc files seen (has_type files)
    || on Family files seen (has_type files) || on UserDefinedData files seen (has_type files)

-- an array with a type and data
abbrev pub is_filled : Files → NodeId → Bool
is_filled files at = has_type files at && has_data (node_there files at)

-- K15 array-data: MT or without data
abbrev pub breaks_array_data : Files → Seen → Bool
breaks_array_data files seen = on DataArray files seen (λ at. not (is_filled files at))

-- K16 coordinate-type, in GridCoordinates_t, needs K15: not R4 or R8
abbrev pub breaks_coordinate_type : Files → Seen → Bool
breaks_coordinate_type files seen = on_in DataArray GridCoordinates files seen (λ at grid.
    is_filled files at && not (is_type R4 (node_there files at)) && not (is_type R8 (node_there files at)))

-- K17 coordinate-size, in GridCoordinates_t, needs K15 and K07: the dimensions are not VertexSize plus the parent's rind
abbrev pub breaks_coordinate_size : Files → Seen → Bool
breaks_coordinate_size files seen = on_in DataArray GridCoordinates files seen (λ at grid.
    is_filled files at && given (sizes_of_zone files seen.zone) (λ sizes. not (are_dims (node_there files at).dims (coordinate_dims files grid sizes))))

-- K18 rind-name: not named `Rind`
abbrev pub breaks_rind_name : Files → Seen → Bool
breaks_rind_name files seen = on Rind files seen (λ at. not (bytes_eq (node_there files seen.node).name (codes "Rind")))

-- K19 rind-data, needs K07: not Ints (2 * Index)
abbrev pub breaks_rind_data : Files → Seen → Bool
breaks_rind_data files seen = on Rind files seen (λ at. given (sizes_of_zone files seen.zone) (λ sizes. not (is_ints_of ((2 * sizes.index) ∷ []) (node_there files at))))

-- K20 location: no Text of a grid location
abbrev pub breaks_location : Files → Seen → Bool
breaks_location files seen = on GridLocation files seen (is_no_word grid_locations files)

-- K21 field-type, in FlowSolution_t, needs K15: C1 or B1
abbrev pub breaks_field_type : Files → Seen → Bool
breaks_field_type files seen = on_in DataArray FlowSolution files seen (λ at solution.
    is_filled files at && (is_type C1 (node_there files at) || is_type B1 (node_there files at)))

-- K22 field-size, in FlowSolution_t, needs K15 and K07: the dimensions are not the sizes at the parent's location plus its rind
abbrev pub breaks_field_size : Files → Seen → Bool
breaks_field_size files seen = on_in DataArray FlowSolution files seen (λ at solution.
    is_filled files at && given (sizes_of_zone files seen.zone) (λ sizes. given (field_dims files solution sizes) (λ wanted. not (are_dims (node_there files at).dims wanted))))

-- ---- sections of elements

-- K23 section-data: not I4 (2) with data
abbrev pub breaks_section_data : Files → Seen → Bool
breaks_section_data files seen = on Elements files seen (λ at. is_none (section_head files at))

-- K24 section-numbers, needs K23: code or boundary under 0
abbrev pub breaks_section_numbers : Files → Seen → Bool
breaks_section_numbers files seen = on Elements files seen (λ at. given (section_head files at) (λ head. not (is_head head)))

-- K25 range: no child `ElementRange` that is IndexRange_t and Ints (2)
abbrev pub breaks_range : Files → Seen → Bool
breaks_range files seen = on Elements files seen (λ at. is_none (section_range files at))

-- K26 range-numbers, needs K25: a start under 1, or an end under the start
abbrev pub breaks_range_numbers : Files → Seen → Bool
breaks_range_numbers files seen = on Elements files seen (λ at. given (section_range files at) (λ range. not (is_range range)))

-- K27 connectivity: no child `ElementConnectivity` that is DataArray_t
abbrev pub breaks_connectivity : Files → Seen → Bool
breaks_connectivity files seen = on Elements files seen (λ at. is_none (connectivity_child files at))

-- for a fixed code, not as many as nodes times elements
abbrev pub is_count_off : Option ℕ → ℕ → ℕ → Bool
is_count_off None elements entries = false
is_count_off (Some nodes) elements entries = not (entries == nodes * elements)

abbrev pub first_dimension : List ℕ → ℕ
first_dimension [] = 0
first_dimension (dim ∷ dims) = dim

-- Ints of rank 1 of the right length
abbrev pub is_connected : Head → Range → Node → Bool
is_connected head range node = is_ints node && has_rank 1 node && not (is_count_off (fixed_nodes head.code) (element_count range) (first_dimension node.dims))

-- a section that meets K23 to K27
pub record Section : Type 0 where
  pub head : Head
  pub range : Range
  pub connectivity : NodeId

abbrev pub whole_section : Option Head → Option Range → Option NodeId → Option Section
whole_section (Some head) (Some range) (Some connectivity) = if is_head head then Some (record { head = head; range = range; connectivity = connectivity }) else None
whole_section head range connectivity = None

abbrev pub section_there : Files → NodeId → Option Section
section_there files at = whole_section (section_head files at) (good_range files at) (connectivity_child files at)

-- K28 connectivity-size, needs K23 to K27: the child is not Ints of rank 1, or for a fixed code not as long as nodes times elements
abbrev pub breaks_connectivity_size : Files → Seen → Bool
breaks_connectivity_size files seen = on Elements files seen (λ at. given (section_there files at) (λ section. not (is_connected section.head section.range (node_there files section.connectivity))))

-- a number that is no node of the zone: under 1, or above the limit where there is one
abbrev pub is_no_vertex : Option ℤ → ℤ → Bool
is_no_vertex None n = int_lt n (pos 1)
is_no_vertex (Some limit) n = int_lt n (pos 1) || int_lt limit n

-- K29 connectivity-nodes, needs K28 and K07: for a fixed code, an entry that is no node of the zone
abbrev pub breaks_connectivity_nodes : Files → Seen → Bool
breaks_connectivity_nodes files seen = on Elements files seen (λ at. given (section_there files at) (λ section. given seen.zone (λ in_zone. given (zone_sizes files in_zone) (λ sizes.
    let node = node_there files section.connectivity in
    is_connected section.head section.range node && is_small node && is_some (fixed_nodes section.head.code)
    && list_any (is_no_vertex (vertex_limit files in_zone sizes)) (ints_there files section.connectivity)))))

-- the sections of a zone before a node
abbrev pub sections_before : Files → NodeId → NodeId → List SeenChild
sections_before files in_zone node = take_while (λ child. not (is_same_node child.node node)) (children_of_kind Elements files in_zone)

-- the ranges of those that meet K25 and K26
abbrev pub ranges_of : Files → List SeenChild → List Range
ranges_of files sections = filter_map (λ child. good_range files child.target) sections

-- two ranges meet: the later start is no later than the earlier end
abbrev pub meets : Range → Range → Bool
meets a b = int_le (int_max a.start b.start) (int_min a.end b.end)

-- K30 sections-overlap, on a child of the zone, needs K26: the range meets that of an earlier section of the zone
abbrev pub breaks_sections_overlap : Files → Seen → Bool
breaks_sections_overlap files seen = on Elements files seen (λ at. given seen.parent (λ parent. given seen.zone (λ in_zone. is_same_node parent in_zone &&
    given (good_range files at) (λ range. list_any (meets range) (ranges_of files (sections_before files in_zone seen.node))))))

-- ---- boundary conditions

-- K31 bc-type: no Text of a BC type
abbrev pub breaks_bc_type : Files → Seen → Bool
breaks_bc_type files seen = on Bc files seen (is_no_word bc_types files)

abbrev pub point_names : List (List ℕ)
point_names = codes "PointRange" ∷ codes "PointList" ∷ codes "ElementRange" ∷ codes "ElementList" ∷ []

-- how many children name points
abbrev pub count_points : List SeenChild → ℕ
count_points [] = 0
count_points (child ∷ children) = if is_word point_names child.name then suc (count_points children) else count_points children

-- of rank 2, the first dimension the zone's index
abbrev pub are_point_dims : ℕ → List ℕ → Bool
are_point_dims index (i ∷ n ∷ []) = i == index
are_point_dims index dims = false

abbrev pub is_point_range : ℕ → Files → NodeId × LabelKind → Bool
is_point_range index files child = kind_eq.ghosts.eq child.1 IndexRange && is_ints_of (index ∷ 2 ∷ []) (node_there files child.0)

abbrev pub is_point_list : ℕ → Files → NodeId × LabelKind → Bool
is_point_list index files child = kind_eq.ghosts.eq child.1 IndexArray && is_ints (node_there files child.0) && are_point_dims index (node_there files child.0).dims

abbrev pub are_points_off : ℕ → Files → NodeId → Bool
are_points_off index files at =
    not (count_points (children_there files at) == 1)
    || given (child_called (codes "PointRange") files at) (λ child. not (is_point_range index files child))
    || given (child_called (codes "PointList") files at) (λ child. not (is_point_list index files child))

-- K32 bc-points, needs K07: not exactly one child of points, a PointRange that is not IndexRange_t and Ints (Index, 2), or a PointList that is not IndexArray_t and Ints (Index, n)
abbrev pub breaks_bc_points : Files → Seen → Bool
breaks_bc_points files seen = on Bc files seen (λ at. given (sizes_of_zone files seen.zone) (λ sizes. are_points_off sizes.index files at))

-- K33 bc-family, needs K31: FamilySpecified without a FamilyName_t child
abbrev pub breaks_bc_family : Files → Seen → Bool
breaks_bc_family files seen = on Bc files seen (λ at. bytes_eq (text_of (node_there files at)) (codes "FamilySpecified") && not (has_child files at FamilyName))

-- ---- small nodes

abbrev pub is_no_text : Files → NodeId → Bool
is_no_text files at = not (is_type C1 (node_there files at) && has_data (node_there files at))

-- K34 small-node: no Text of its list; not C1 with data; not C1 (32, 5) with data; not R4 or R8 (5) with data
abbrev pub breaks_small_node : Files → Seen → Bool
breaks_small_node files seen =
    on DataClass files seen (is_no_word data_classes files) || on SimulationType files seen (is_no_word simulation_types files)
    || on FamilyName files seen (is_no_text files) || on Descriptor files seen (is_no_text files)
    || on DimensionalUnits files seen (λ at. not (is_array_of C1 (32 ∷ 5 ∷ []) (node_there files at)))
    || on DimensionalExponents files seen (λ at. not (is_array_of R4 (5 ∷ []) (node_there files at) || is_array_of R8 (5 ∷ []) (node_there files at)))

-- ---- the rules by number

-- a rule: its number, its word, and the seen nodes that break it
pub record Rule : Type 0 where
  pub number : ℕ
  pub word : List ℕ
  pub is_broken : Files → Seen → Bool

abbrev pub rule : ℕ → List ℕ → (Files → Seen → Bool) → Rule
rule number word is_broken = record { number = number; word = word; is_broken = is_broken }

-- the rules that `check` tests, rising
unfoldable pub check_rules : List Rule
check_rules =
    rule 1 (codes "link") breaks_link
    ∷ rule 2 (codes "place") breaks_place
    ∷ rule 3 (codes "version") breaks_version
    ∷ rule 4 (codes "version-data") breaks_version_data
    ∷ rule 5 (codes "base-data") breaks_base_data
    ∷ rule 6 (codes "base-dimensions") breaks_base_dimensions
    ∷ rule 7 (codes "zone-data") breaks_zone_data
    ∷ rule 8 (codes "index-dimension") breaks_index_dimension
    ∷ rule 9 (codes "vertex-size") breaks_vertex_size
    ∷ rule 10 (codes "cell-size") breaks_cell_size
    ∷ rule 11 (codes "boundary-size") breaks_boundary_size
    ∷ rule 12 (codes "zone-type") breaks_zone_type
    ∷ rule 13 (codes "zone-types") breaks_zone_types
    ∷ rule 14 (codes "not-empty") breaks_not_empty
    ∷ rule 15 (codes "array-data") breaks_array_data
    ∷ rule 16 (codes "coordinate-type") breaks_coordinate_type
    ∷ rule 17 (codes "coordinate-size") breaks_coordinate_size
    ∷ rule 18 (codes "rind-name") breaks_rind_name
    ∷ rule 19 (codes "rind-data") breaks_rind_data
    ∷ rule 20 (codes "location") breaks_location
    ∷ rule 21 (codes "field-type") breaks_field_type
    ∷ rule 22 (codes "field-size") breaks_field_size
    ∷ rule 23 (codes "section-data") breaks_section_data
    ∷ rule 24 (codes "section-numbers") breaks_section_numbers
    ∷ rule 25 (codes "range") breaks_range
    ∷ rule 26 (codes "range-numbers") breaks_range_numbers
    ∷ rule 27 (codes "connectivity") breaks_connectivity
    ∷ rule 28 (codes "connectivity-size") breaks_connectivity_size
    ∷ rule 29 (codes "connectivity-nodes") breaks_connectivity_nodes
    ∷ rule 30 (codes "sections-overlap") breaks_sections_overlap
    ∷ rule 31 (codes "bc-type") breaks_bc_type
    ∷ rule 32 (codes "bc-points") breaks_bc_points
    ∷ rule 33 (codes "bc-family") breaks_bc_family
    ∷ rule 34 (codes "small-node") breaks_small_node
    ∷ []

-- those of some rules that a seen node breaks, in their order
abbrev pub broken_of : List Rule → Files → Seen → List Rule
broken_of rules files seen = filter (λ r. r.is_broken files seen) rules

-- the numbers of those that it breaks
abbrev pub broken_numbers : List Rule → Files → Seen → List ℕ
broken_numbers rules files seen = map (λ r. r.number) (broken_of rules files seen)
