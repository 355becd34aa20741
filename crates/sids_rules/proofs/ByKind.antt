-- Which rules a seen node may break, by what its label says that it is.
use Rattle.std.proofs.Common.{◌≡◌, ◌∙◌, ap, refl, ℕ, Bool, true, false, List, [], ◌∷◌, map}
use Rattle.std.specs.Prelude.{Option, Some, None, if◌then◌else◌}
use Rattle.adf_model.specs.declared.tree.NodeId.{NodeId}
use Rattle.adf_model.specs.Slots.{Files}
use Rattle.sids_tables.specs.declared.labels.LabelKind.TheVariants.{CgnsLibraryVersion, CgnsBase, Zone, ZoneType, GridCoordinates, Elements, FlowSolution, ZoneBc, Bc, DataArray, Family, FamilyName, SimulationType, DataClass, DimensionalUnits, DimensionalExponents, Descriptor, UserDefinedData, Rind, IndexRange, IndexArray, GridLocation, Other}
use Rattle.sids_rules.specs.declared.seen.Seen.{Seen}
use Rattle.sids_views.specs.Views.{kind_there}
use Rattle.sids_rules.specs.Rules.{Rule, check_rules, broken_of, broken_numbers, breaks_version, breaks_place, breaks_version_data, breaks_base_data, breaks_base_dimensions, breaks_zone_data, breaks_index_dimension, breaks_vertex_size, breaks_cell_size, breaks_boundary_size, breaks_zone_type, breaks_zone_types, breaks_not_empty, breaks_array_data, breaks_coordinate_type, breaks_coordinate_size, breaks_rind_name, breaks_rind_data, breaks_location, breaks_field_type, breaks_field_size, breaks_section_data, breaks_section_numbers, breaks_range, breaks_range_numbers, breaks_connectivity, breaks_connectivity_size, breaks_connectivity_nodes, breaks_sections_overlap, breaks_bc_type, breaks_bc_points, breaks_bc_family, breaks_small_node}

-- the numbers of those tests that hold
abbrev pub held : List (ℕ × Bool) → List ℕ
held [] = []
held (test ∷ tests) = if test.1 then test.0 ∷ held tests else held tests

one_more : (b : Bool) (r : Rule) (rules : List Rule) (numbers : List ℕ) → map (λ (r : Rule). r.number) rules ≡ numbers
    → map (λ (r : Rule). r.number) (if b then r ∷ rules else rules) ≡ (if b then r.number ∷ numbers else numbers)
one_more true r rules numbers h = ap (λ ns. r.number ∷ ns) h
one_more false r rules numbers h = h

-- the numbers of the rules that are broken are those of the tests that hold
pub held_are : (rules : List Rule) (files : Files) (seen : Seen) → broken_numbers rules files seen ≡ held (map (λ (r : Rule). (r.number, r.is_broken files seen)) rules)
held_are [] files seen = refl
held_are (r ∷ rules) files seen = one_more (r.is_broken files seen) r (broken_of rules files seen) _ (held_are rules files seen)

-- a node whose link cannot be followed breaks the rule of links alone
pub of_lost : (files : Files) (node : NodeId) (parent above_base above_zone : Option NodeId)
    → broken_numbers check_rules files (record { node = node; target = None; parent = parent; base = above_base; zone = above_zone }) ≡ 1 ∷ []
unfolding check_rules
of_lost files node parent above_base above_zone = refl

-- the first node of a walk
pub of_root : (files : Files) (node at : NodeId) (above_base above_zone : Option NodeId) → let s : Seen = record { node = node; target = Some at; parent = None; base = above_base; zone = above_zone } in
    broken_numbers check_rules files s ≡ held ((3, breaks_version files s) ∷ [])
unfolding check_rules
of_root files node at above_base above_zone = held_are check_rules files (record { node = node; target = Some at; parent = None; base = above_base; zone = above_zone })

module _ (files : Files) (node at parent : NodeId) (above_base above_zone : Option NodeId) where
  abbrev pub seen : Seen
  seen = record { node = node; target = Some at; parent = Some parent; base = above_base; zone = above_zone }

  pub of_outside : kind_there files at ≡ Other → broken_numbers check_rules files seen ≡ []
  unfolding check_rules
  of_outside is = rw is refl

  pub of_version : kind_there files at ≡ CgnsLibraryVersion → broken_numbers check_rules files seen ≡ held ((2, breaks_place files seen) ∷ (4, breaks_version_data files seen) ∷ [])
  unfolding check_rules
  of_version is = held_are check_rules files seen ∙ rw is refl

  pub of_base : kind_there files at ≡ CgnsBase → broken_numbers check_rules files seen ≡ held ((2, breaks_place files seen) ∷ (5, breaks_base_data files seen) ∷ (6, breaks_base_dimensions files seen) ∷ [])
  unfolding check_rules
  of_base is = held_are check_rules files seen ∙ rw is refl

  pub of_zone : kind_there files at ≡ Zone → broken_numbers check_rules files seen ≡ held ((2, breaks_place files seen) ∷ (7, breaks_zone_data files seen) ∷ (8, breaks_index_dimension files seen) ∷ (9, breaks_vertex_size files seen) ∷ (10, breaks_cell_size files seen) ∷ (11, breaks_boundary_size files seen) ∷ (13, breaks_zone_types files seen) ∷ [])
  unfolding check_rules
  of_zone is = held_are check_rules files seen ∙ rw is refl

  pub of_zone_type : kind_there files at ≡ ZoneType → broken_numbers check_rules files seen ≡ held ((2, breaks_place files seen) ∷ (12, breaks_zone_type files seen) ∷ [])
  unfolding check_rules
  of_zone_type is = held_are check_rules files seen ∙ rw is refl

  pub of_grid : kind_there files at ≡ GridCoordinates → broken_numbers check_rules files seen ≡ held ((2, breaks_place files seen) ∷ (14, breaks_not_empty files seen) ∷ [])
  unfolding check_rules
  of_grid is = held_are check_rules files seen ∙ rw is refl

  pub of_section : kind_there files at ≡ Elements → broken_numbers check_rules files seen ≡ held ((2, breaks_place files seen) ∷ (23, breaks_section_data files seen) ∷ (24, breaks_section_numbers files seen) ∷ (25, breaks_range files seen) ∷ (26, breaks_range_numbers files seen) ∷ (27, breaks_connectivity files seen) ∷ (28, breaks_connectivity_size files seen) ∷ (29, breaks_connectivity_nodes files seen) ∷ (30, breaks_sections_overlap files seen) ∷ [])
  unfolding check_rules
  of_section is = held_are check_rules files seen ∙ rw is refl

  pub of_solution : kind_there files at ≡ FlowSolution → broken_numbers check_rules files seen ≡ held ((2, breaks_place files seen) ∷ (14, breaks_not_empty files seen) ∷ [])
  unfolding check_rules
  of_solution is = held_are check_rules files seen ∙ rw is refl

  pub of_conditions : kind_there files at ≡ ZoneBc → broken_numbers check_rules files seen ≡ held ((2, breaks_place files seen) ∷ (14, breaks_not_empty files seen) ∷ [])
  unfolding check_rules
  of_conditions is = held_are check_rules files seen ∙ rw is refl

  pub of_condition : kind_there files at ≡ Bc → broken_numbers check_rules files seen ≡ held ((2, breaks_place files seen) ∷ (31, breaks_bc_type files seen) ∷ (32, breaks_bc_points files seen) ∷ (33, breaks_bc_family files seen) ∷ [])
  unfolding check_rules
  of_condition is = held_are check_rules files seen ∙ rw is refl

  pub of_array : kind_there files at ≡ DataArray → broken_numbers check_rules files seen ≡ held ((2, breaks_place files seen) ∷ (15, breaks_array_data files seen) ∷ (16, breaks_coordinate_type files seen) ∷ (17, breaks_coordinate_size files seen) ∷ (21, breaks_field_type files seen) ∷ (22, breaks_field_size files seen) ∷ [])
  unfolding check_rules
  of_array is = held_are check_rules files seen ∙ rw is refl

  pub of_family : kind_there files at ≡ Family → broken_numbers check_rules files seen ≡ held ((2, breaks_place files seen) ∷ (14, breaks_not_empty files seen) ∷ [])
  unfolding check_rules
  of_family is = held_are check_rules files seen ∙ rw is refl

  pub of_family_name : kind_there files at ≡ FamilyName → broken_numbers check_rules files seen ≡ held ((2, breaks_place files seen) ∷ (34, breaks_small_node files seen) ∷ [])
  unfolding check_rules
  of_family_name is = held_are check_rules files seen ∙ rw is refl

  pub of_simulation_type : kind_there files at ≡ SimulationType → broken_numbers check_rules files seen ≡ held ((2, breaks_place files seen) ∷ (34, breaks_small_node files seen) ∷ [])
  unfolding check_rules
  of_simulation_type is = held_are check_rules files seen ∙ rw is refl

  pub of_data_class : kind_there files at ≡ DataClass → broken_numbers check_rules files seen ≡ held ((2, breaks_place files seen) ∷ (34, breaks_small_node files seen) ∷ [])
  unfolding check_rules
  of_data_class is = held_are check_rules files seen ∙ rw is refl

  pub of_units : kind_there files at ≡ DimensionalUnits → broken_numbers check_rules files seen ≡ held ((2, breaks_place files seen) ∷ (34, breaks_small_node files seen) ∷ [])
  unfolding check_rules
  of_units is = held_are check_rules files seen ∙ rw is refl

  pub of_exponents : kind_there files at ≡ DimensionalExponents → broken_numbers check_rules files seen ≡ held ((2, breaks_place files seen) ∷ (34, breaks_small_node files seen) ∷ [])
  unfolding check_rules
  of_exponents is = held_are check_rules files seen ∙ rw is refl

  pub of_descriptor : kind_there files at ≡ Descriptor → broken_numbers check_rules files seen ≡ held ((2, breaks_place files seen) ∷ (34, breaks_small_node files seen) ∷ [])
  unfolding check_rules
  of_descriptor is = held_are check_rules files seen ∙ rw is refl

  pub of_user_data : kind_there files at ≡ UserDefinedData → broken_numbers check_rules files seen ≡ held ((2, breaks_place files seen) ∷ (14, breaks_not_empty files seen) ∷ [])
  unfolding check_rules
  of_user_data is = held_are check_rules files seen ∙ rw is refl

  pub of_rind : kind_there files at ≡ Rind → broken_numbers check_rules files seen ≡ held ((2, breaks_place files seen) ∷ (18, breaks_rind_name files seen) ∷ (19, breaks_rind_data files seen) ∷ [])
  unfolding check_rules
  of_rind is = held_are check_rules files seen ∙ rw is refl

  pub of_index_range : kind_there files at ≡ IndexRange → broken_numbers check_rules files seen ≡ held ((2, breaks_place files seen) ∷ [])
  unfolding check_rules
  of_index_range is = held_are check_rules files seen ∙ rw is refl

  pub of_index_array : kind_there files at ≡ IndexArray → broken_numbers check_rules files seen ≡ held ((2, breaks_place files seen) ∷ [])
  unfolding check_rules
  of_index_array is = held_are check_rules files seen ∙ rw is refl

  pub of_location : kind_there files at ≡ GridLocation → broken_numbers check_rules files seen ≡ held ((2, breaks_place files seen) ∷ (20, breaks_location files seen) ∷ [])
  unfolding check_rules
  of_location is = held_are check_rules files seen ∙ rw is refl
