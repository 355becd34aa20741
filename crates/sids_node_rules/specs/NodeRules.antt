-- Tests of rules on one node, whose kind is known.
use Rattle.std.specs.Prelude.{ℕ, ℤ, Bool, false, not, ◌&&◌, ◌||◌, ◌==◌, codes, List, [], ◌∷◌}
use Rattle.adf_format.specs.declared.types.DataType.TheVariants.{R4, R8, B1, C1}
use Rattle.adf_model.specs.declared.tree.NodeId.{NodeId}
use Rattle.adf_model.specs.Slots.{Files}
use Rattle.sids_tables.specs.declared.labels.LabelKind.{LabelKind}
use Rattle.sids_tables.specs.declared.labels.LabelKind.TheVariants.{FamilyName, SimulationType, DataClass, DimensionalUnits, DimensionalExponents, Descriptor}
use Rattle.sids_tables.specs.Words.{simulation_types, data_classes}
use Rattle.sids_views.specs.declared.child.SeenChild.{SeenChild}
use Rattle.sids_views.specs.Views.{node_there, given, first_called}
use Rattle.sids_rules.specs.Values.{is_type, is_array_of, are_dims}
use Rattle.sids_rules.specs.Rules.{is_filled, is_no_word, is_no_text, count_points, is_point_range, is_point_list}

-- K16 coordinate-type, of an array in a grid
abbrev pub is_no_coordinate : Files → NodeId → Bool
is_no_coordinate files at = is_filled files at && not (is_type R4 (node_there files at)) && not (is_type R8 (node_there files at))

-- K21 field-type, of an array in a solution
abbrev pub is_no_field : Files → NodeId → Bool
is_no_field files at = is_filled files at && (is_type C1 (node_there files at) || is_type B1 (node_there files at))

-- K17 coordinate-size and K22 field-size, of an array that is to have these dimensions
abbrev pub is_size_off : Files → NodeId → List ℤ → Bool
is_size_off files at wanted = is_filled files at && not (are_dims (node_there files at).dims wanted)

-- K34 small-node, of a node of a kind
abbrev pub is_no_small_node : LabelKind → Files → NodeId → Bool
is_no_small_node DataClass files at = is_no_word data_classes files at
is_no_small_node SimulationType files at = is_no_word simulation_types files at
is_no_small_node FamilyName files at = is_no_text files at
is_no_small_node Descriptor files at = is_no_text files at
is_no_small_node DimensionalUnits files at = not (is_array_of C1 (32 ∷ 5 ∷ []) (node_there files at))
is_no_small_node DimensionalExponents files at = not (is_array_of R4 (5 ∷ []) (node_there files at) || is_array_of R8 (5 ∷ []) (node_there files at))
is_no_small_node _ files at = false

-- K32 bc-points, by the children of a boundary condition
abbrev pub are_points_bad : ℕ → Files → List SeenChild → Bool
are_points_bad index files children =
    not (count_points children == 1)
    || given (first_called (codes "PointRange") children) (λ child. not (is_point_range index files child))
    || given (first_called (codes "PointList") children) (λ child. not (is_point_list index files child))
