-- The tests on a node, by what its label says that it is: each with the number of its rule, rising. The rule of places comes before them.
use Rattle.std.specs.Prelude.{ℕ, ℤ, ◌*◌, pos, Bool, not, ◌&&◌, ◌||◌, nat_lt, int_lt, List, [], ◌∷◌, codes, bytes_eq, Option, Some, None, is_none}
use Rattle.std.specs.List.{list_any}
use Rattle.adf_format.specs.declared.types.DataType.TheVariants.{R4}
use Rattle.adf_model.specs.declared.tree.NodeId.{NodeId}
use Rattle.adf_model.specs.Slots.{Files}
use Rattle.sids_tables.specs.declared.labels.LabelKind.{LabelKind}
use Rattle.sids_tables.specs.declared.labels.LabelKind.TheVariants.{CgnsLibraryVersion, ZoneType, GridCoordinates, FlowSolution, ZoneBc, Family, FamilyName, SimulationType, DataClass, DimensionalUnits, DimensionalExponents, Descriptor, UserDefinedData, GridLocation}
use Rattle.sids_tables.specs.Words.{grid_locations, zone_types, bc_types}
use Rattle.sids_rules.specs.declared.zones.RuleKind.{RuleKind}
use Rattle.sids_views.specs.Views.{given, node_there, kind_there, children_there, count_of}
use Rattle.sids_rules.specs.Values.{is_array_of, is_ints_of, text_of}
use Rattle.sids_rules.specs.Terms.{Dimensions, are_dimensions, Sizes, zone_sizes, zone_kind, has_child}
use Rattle.sids_rules.specs.Rules.{is_index_off, are_cells_off, is_boundary_off, is_no_word, has_type, is_filled, are_points_off}
use Rattle.sids_tables.specs.declared.labels.LabelKind.TheVariants as kind
use Rattle.sids_node_rules.specs.NodeRules.{is_no_coordinate, is_no_field, is_size_off, is_no_small_node}

-- ---- bases and zones

abbrev pub tests_of_base : Option Dimensions → List (ℕ × Bool)
tests_of_base dimensions = (5, is_none dimensions) ∷ (6, given dimensions (λ d. not (are_dimensions d))) ∷ []

abbrev pub tests_of_zone : Option Dimensions → Option Sizes → RuleKind → Bool → List (ℕ × Bool)
tests_of_zone base sizes zone many =
    (7, is_none sizes)
    ∷ (8, given base (λ d. are_dimensions d && given sizes (λ s. is_index_off zone s.index d.cell)))
    ∷ (9, given sizes (λ s. list_any (λ n. int_lt n (pos 1)) s.vertex || list_any (λ n. int_lt n (pos 0)) s.cell))
    ∷ (10, given sizes (λ s. are_cells_off zone s.vertex s.cell))
    ∷ (11, given sizes (λ s. is_boundary_off zone s.vertex s.boundary))
    ∷ (13, many)
    ∷ []

abbrev pub sized_tests : Files → Option Dimensions → Option Sizes → NodeId → List (ℕ × Bool)
sized_tests files base sizes at = tests_of_zone base sizes (zone_kind files at) (nat_lt 1 (count_of ZoneType (children_there files at)))

abbrev pub zone_tests : Files → Option Dimensions → NodeId → List (ℕ × Bool)
zone_tests files base at = sized_tests files base (zone_sizes files at) at

-- ---- nodes of one rule

abbrev pub number_on : LabelKind → Option ℕ
number_on CgnsLibraryVersion = Some 4
number_on ZoneType = Some 12
number_on GridCoordinates = Some 14
number_on FlowSolution = Some 14
number_on ZoneBc = Some 14
number_on Family = Some 14
number_on UserDefinedData = Some 14
number_on GridLocation = Some 20
number_on FamilyName = Some 34
number_on SimulationType = Some 34
number_on DataClass = Some 34
number_on DimensionalUnits = Some 34
number_on DimensionalExponents = Some 34
number_on Descriptor = Some 34
number_on _ = None

abbrev pub is_broken_on : LabelKind → Files → NodeId → Bool
is_broken_on CgnsLibraryVersion files at = not (is_array_of R4 (1 ∷ []) (node_there files at))
is_broken_on ZoneType files at = is_no_word zone_types files at
is_broken_on GridCoordinates files at = has_type files at
is_broken_on FlowSolution files at = has_type files at
is_broken_on ZoneBc files at = has_type files at
is_broken_on Family files at = has_type files at
is_broken_on UserDefinedData files at = has_type files at
is_broken_on GridLocation files at = is_no_word grid_locations files at
is_broken_on other files at = is_no_small_node other files at

abbrev pub numbered : Option ℕ → Bool → List (ℕ × Bool)
numbered None is_broken = []
numbered (Some number) is_broken = (number, is_broken) ∷ []

abbrev pub tests_on : LabelKind → Files → NodeId → List (ℕ × Bool)
tests_on kind files at = numbered (number_on kind) (is_broken_on kind files at)

-- ---- arrays, rinds and boundary conditions

-- by the dimensions that arrays are to have, where rules speak of them
abbrev pub coordinate_tests : Files → Option (List ℤ) → NodeId → List (ℕ × Bool)
coordinate_tests files dims at = (16, is_no_coordinate files at) ∷ (17, given dims (is_size_off files at)) ∷ []

abbrev pub field_tests : Files → Option (List ℤ) → NodeId → List (ℕ × Bool)
field_tests files dims at = (21, is_no_field files at) ∷ (22, given dims (is_size_off files at)) ∷ []

-- those on coordinates or on fields, by the kind of the parent
abbrev pub tests_in : LabelKind → List (ℕ × Bool) → List (ℕ × Bool) → List (ℕ × Bool)
tests_in GridCoordinates coordinates fields = coordinates
tests_in FlowSolution coordinates fields = fields
tests_in _ coordinates fields = []

-- of an array under a node of a kind
abbrev pub tests_under : LabelKind → Files → Option (List ℤ) → NodeId → List (ℕ × Bool)
tests_under k files dims at = (15, not (is_filled files at)) ∷ tests_in k (coordinate_tests files dims at) (field_tests files dims at)

abbrev pub array_tests : Files → Option (List ℤ) → NodeId → NodeId → List (ℕ × Bool)
array_tests files dims at parent = tests_under (kind_there files parent) files dims at

abbrev pub rind_tests : Files → Option Sizes → NodeId → NodeId → List (ℕ × Bool)
rind_tests files sizes node at =
    (18, not (bytes_eq (node_there files node).name (codes "Rind")))
    ∷ (19, given sizes (λ s. not (is_ints_of ((2 * s.index) ∷ []) (node_there files at))))
    ∷ []

abbrev pub condition_tests : Files → Option Sizes → NodeId → List (ℕ × Bool)
condition_tests files sizes at =
    (31, is_no_word bc_types files at)
    ∷ (32, given sizes (λ s. are_points_off s.index files at))
    ∷ (33, bytes_eq (text_of (node_there files at)) (codes "FamilySpecified") && not (has_child files at kind.FamilyName))
    ∷ []
