-- The rules of `check` that a node breaks are the tests on it that hold, by what its label says that it is.
use Rattle.std.proofs.Common.{◌≡◌, ◌∙◌, ap, refl, ℤ, Bool, true, false, List, [], ◌∷◌, ◌||◌}
use Rattle.std.specs.Prelude.{Option, Some, None, option_map, not, ◌&&◌}
use Rattle.adf_format.specs.declared.types.DataType.TheVariants.{C1}
use Rattle.adf_model.specs.declared.tree.NodeId.{NodeId}
use Rattle.adf_model.specs.Slots.{Files}
use Rattle.sids_tables.specs.declared.labels.LabelKind.{LabelKind}
use Rattle.sids_tables.specs.declared.labels.LabelKind.TheVariants.{Root, CgnsLibraryVersion, CgnsBase, Zone, ZoneType, GridCoordinates, Elements, FlowSolution, ZoneBc, Bc, DataArray, Family, FamilyName, SimulationType, DataClass, DimensionalUnits, DimensionalExponents, Descriptor, UserDefinedData, Rind, IndexRange, IndexArray, GridLocation, Other}
use Rattle.sids_tables.specs.contracts.labels.LabelKindPartialEq.TheImpl as kind_eq
use Rattle.sids_tables.specs.Words.{simulation_types, data_classes}
use Rattle.sids_views.specs.Views.{given, node_there, kind_there}
use Rattle.sids_rules.specs.Values.{are_dims, is_array_of}
use Rattle.sids_rules.specs.Terms.{Sizes, zone_sizes, sizes_of_zone, vertex_limit, coordinate_dims, field_dims}
use Rattle.sids_rules.specs.Rules.{check_rules, broken_numbers, place_kind, is_allowed, has_type, is_no_word, is_no_text, is_filled, Section, section_there}
use Rattle.sids_rules.proofs.ByKind.{seen, held_are, of_outside, of_version, of_base, of_zone, of_zone_type, of_grid, of_section, of_solution, of_conditions, of_condition, of_array, of_family, of_family_name, of_simulation_type, of_data_class, of_units, of_exponents, of_descriptor, of_user_data, of_rind, of_index_range, of_index_array, of_location}
use Rattle.sids_readings.specs.Held.{held}
use Rattle.sids_readings.specs.Around.{zone_numbers, surroundings, sizes_around, limit_with, limit_around}
use Rattle.sids_section_rules.specs.Entries.{has_no_vertex}
use Rattle.sids_node_rules.specs.NodeRules.{is_no_coordinate, is_no_field}
use Rattle.sids_node_rules.specs.Fields.{dims_of, dims_under}
use Rattle.sids_node_rules.specs.KindTests.{tests_in, coordinate_tests, field_tests}
use Rattle.sids_section_rules.specs.SectionTests.{has_bad_vertex}
use Rattle.sids_readings.specs.declared.around.Surroundings.{Surroundings}
use Rattle.sids_readings.specs.declared.rule_sets.RuleSet.TheVariants as set
use Rattle.sids_section_rules.specs.declared.section_rules.Spot.{Spot}
use Rattle.sids_broken.specs.NodeTests.{tests_with_place}
use Rattle.sids_readings.proofs.TextLaws.{or_false}
use Rattle.sids_readings.proofs.HeldLaws.{two_before}

-- a test beside others that are not on this kind
behind_two : (b : Bool) → (b || false || false) ≡ b
behind_two true = refl
behind_two false = refl

and_false : (b : Bool) → (b && false) ≡ false
and_false true = refl
and_false false = refl

behind_three : (b : Bool) → (b || false || false || false) ≡ b
behind_three true = refl
behind_three false = refl

behind_four : (b : Bool) → (b || false || false || false || false) ≡ b
behind_four true = refl
behind_four false = refl

behind_five : (b : Bool) → (b || false || false || false || false || false) ≡ b
behind_five true = refl
behind_five false = refl

-- ---- what is around

sizes_are : (files : Files) (zone : Option NodeId) → sizes_of_zone files zone ≡ sizes_around (option_map (zone_numbers files) zone)
sizes_are files None = refl
sizes_are files (Some at) = refl

pub same_given : {A : Type 0} (o : Option A) (f g : A → Bool) → ((a : A) → f a ≡ g a) → given o f ≡ given o g
same_given None f g h = refl
same_given (Some a) f g h = h a

pub within_limit : (files : Files) (at : NodeId) (o : Option Sizes) (test : Option ℤ → Bool)
    → given o (λ sizes. test (vertex_limit files at sizes)) ≡ given (option_map (λ sizes. limit_with files at o) o) test
within_limit files at None test = refl
within_limit files at (Some sizes) test = refl

-- ---- the tests on an array, by the kind of its parent

by_place : (k : LabelKind) (a b c d : Bool)
    → held ((16, kind_eq.ghosts.eq k GridCoordinates && a) ∷ (17, kind_eq.ghosts.eq k GridCoordinates && b) ∷ (21, kind_eq.ghosts.eq k FlowSolution && c) ∷ (22, kind_eq.ghosts.eq k FlowSolution && d) ∷ [])
    ≡ held (tests_in k ((16, a) ∷ (17, b) ∷ []) ((21, c) ∷ (22, d) ∷ []))
by_place GridCoordinates a b c d = refl
by_place FlowSolution a b c d = refl
by_place _ a b c d = refl

both_given : {A : Type 0} (b : Bool) (o : Option A) (test : A → Bool) → (b && given o test) ≡ given o (λ a. b && test a)
both_given true None test = refl
both_given false None test = refl
both_given b (Some a) test = refl

-- K17 coordinate-size and K22 field-size, by the dimensions that are to be under a node of a kind
sizes_off : (files : Files) (at parent : NodeId) (k : LabelKind) (sizes : Option Sizes)
    → held (tests_in k
    ((16, is_no_coordinate files at) ∷ (17, is_filled files at && given sizes (λ s. not (are_dims (node_there files at).dims (coordinate_dims files parent s)))) ∷ [])
    ((21, is_no_field files at) ∷ (22, is_filled files at && given sizes (λ s. given (field_dims files parent s) (λ wanted. not (are_dims (node_there files at).dims wanted)))) ∷ []))
    ≡ held (tests_in k (coordinate_tests files (dims_of k files parent sizes) at) (field_tests files (dims_of k files parent sizes) at))
sizes_off files at parent GridCoordinates None = ap (λ b. held ((16, is_no_coordinate files at) ∷ (17, b) ∷ [])) (and_false (is_filled files at))
sizes_off files at parent GridCoordinates (Some s) = refl
sizes_off files at parent FlowSolution None = ap (λ b. held ((21, is_no_field files at) ∷ (22, b) ∷ [])) (and_false (is_filled files at))
sizes_off files at parent FlowSolution (Some s) =
    ap (λ b. held ((21, is_no_field files at) ∷ (22, b) ∷ [])) (both_given (is_filled files at) (field_dims files parent s) (λ wanted. not (are_dims (node_there files at).dims wanted)))
sizes_off files at parent _ sizes = refl

-- K29 connectivity-nodes, with the limit that is around
vertices : (files : Files) (zone : Option NodeId) (section : Option Section)
    → given section (λ s. given zone (λ at. given (zone_sizes files at) (λ sizes. has_no_vertex s.head s.range (vertex_limit files at sizes) files s.connectivity)))
    ≡ given section (has_bad_vertex files (limit_around (option_map (zone_numbers files) zone)))
vertices files None section = refl
vertices files (Some at) section =
    same_given section (λ s. given (zone_sizes files at) (λ sizes. has_no_vertex s.head s.range (vertex_limit files at sizes) files s.connectivity))
    (λ s. given (option_map (λ sizes. limit_with files at (zone_sizes files at)) (zone_sizes files at)) (λ limit. has_no_vertex s.head s.range limit files s.connectivity))
    (λ s. within_limit files at (zone_sizes files at) (λ limit. has_no_vertex s.head s.range limit files s.connectivity))

module _ (files : Files) (node at parent : NodeId) (base zone : Option NodeId) where
  abbrev spot : Spot
  spot = record { node = node; at = at; parent = parent; zone = zone; overlaps = None }

  abbrev around : Surroundings
  around = surroundings files (seen files node at parent base zone)

  abbrev sizes : Option Sizes
  sizes = sizes_around (option_map (zone_numbers files) zone)

  abbrev dims : Option (List ℤ)
  dims = dims_under files sizes (Some parent)

  abbrev Law : LabelKind → Type 0
  Law k = broken_numbers check_rules files (seen files node at parent base zone) ≡ held (tests_with_place set.Check k files spot around dims)

  by_zone : kind_there files at ≡ Zone → (b : Option NodeId) → base ≡ b → Law Zone
  by_zone is None e = of_zone files node at parent base zone is ∙ rw (is, e) refl
  by_zone is (Some above) e = of_zone files node at parent base zone is ∙ rw (is, e) refl

  by_array : kind_there files at ≡ DataArray → Law DataArray
  by_array is =
      of_array files node at parent base zone is ∙ rw (is, sizes_are files zone)
      (ap (two_before (2, not (is_allowed (place_kind files parent) DataArray)) (15, not (is_filled files at)))
      (by_place (kind_there files parent) (is_no_coordinate files at)
      (is_filled files at && given sizes (λ s. not (are_dims (node_there files at).dims (coordinate_dims files parent s))))
      (is_no_field files at)
      (is_filled files at && given sizes (λ s. given (field_dims files parent s) (λ wanted. not (are_dims (node_there files at).dims wanted))))
      ∙ sizes_off files at parent (kind_there files parent) sizes))

  by_section : kind_there files at ≡ Elements → Law Elements
  by_section is =
      of_section files node at parent base zone is ∙ rw (is, vertices files zone (section_there files at)) refl

  by_root : kind_there files at ≡ Root → Law Root
  unfolding check_rules
  by_root is = held_are check_rules files (seen files node at parent base zone) ∙ rw is refl

  pub law : (k : LabelKind) → kind_there files at ≡ k → Law k
  law Root is = by_root is
  law CgnsLibraryVersion is = of_version files node at parent base zone is ∙ rw is refl
  law CgnsBase is = of_base files node at parent base zone is ∙ rw is refl
  law Zone is = by_zone is base refl
  law ZoneType is = of_zone_type files node at parent base zone is ∙ rw is refl
  law GridCoordinates is = of_grid files node at parent base zone is ∙ rw (is, behind_four (has_type files at)) refl
  law Elements is = by_section is
  law FlowSolution is = of_solution files node at parent base zone is ∙ rw (is, behind_three (has_type files at)) refl
  law ZoneBc is = of_conditions files node at parent base zone is ∙ rw (is, behind_two (has_type files at)) refl
  law Bc is = of_condition files node at parent base zone is ∙ rw (is, sizes_are files zone) refl
  law DataArray is = by_array is
  law Family is = of_family files node at parent base zone is ∙ rw (is, or_false (has_type files at)) refl
  law FamilyName is = of_family_name files node at parent base zone is ∙ rw (is, behind_three (is_no_text files at)) refl
  law SimulationType is = of_simulation_type files node at parent base zone is ∙ rw (is, behind_four (is_no_word simulation_types files at)) refl
  law DataClass is = of_data_class files node at parent base zone is ∙ rw (is, behind_five (is_no_word data_classes files at)) refl
  law DimensionalUnits is = of_units files node at parent base zone is ∙ rw (is, or_false (not (is_array_of C1 (32 ∷ 5 ∷ []) (node_there files at)))) refl
  law DimensionalExponents is = of_exponents files node at parent base zone is ∙ rw is refl
  law Descriptor is = of_descriptor files node at parent base zone is ∙ rw (is, behind_two (is_no_text files at)) refl
  law UserDefinedData is = of_user_data files node at parent base zone is ∙ rw is refl
  law Rind is = of_rind files node at parent base zone is ∙ rw (is, sizes_are files zone) refl
  law IndexRange is = of_index_range files node at parent base zone is ∙ rw is refl
  law IndexArray is = of_index_array files node at parent base zone is ∙ rw is refl
  law GridLocation is = of_location files node at parent base zone is ∙ rw is refl
  law Other is = of_outside files node at parent base zone is
