-- Nodes of few whole numbers.
use Rattle.std.specs.Prelude.{ℕ, ℤ, List, codes, option_map, if◌then◌else◌, [], ◌∷◌, Option, Some, None}
use Rattle.adf_format.specs.declared.types.DataType.TheVariants.{I4}
use Rattle.adf_model.specs.declared.tree.NodeId.{NodeId}
use Rattle.adf_model.specs.Slots.{Files}
use Rattle.sids_tables.specs.declared.labels.LabelKind.TheVariants.{IndexRange}
use Rattle.sids_views.specs.declared.child.SeenChild.{SeenChild}
use Rattle.sids_views.specs.Views.{node_there, first_called, of_that_kind}
use Rattle.sids_rules.specs.Values.{is_array_of, is_ints_of, ints_there, int_at}
use Rattle.sids_rules.specs.Terms.{if_passes, Range, range_at}

-- the two numbers of a node that is I4 (2) with data
abbrev pub two_ints : Files → NodeId → Option (ℤ × ℤ)
two_ints files at = if is_array_of I4 (2 ∷ []) (node_there files at) then Some (int_at (ints_there files at) 0, int_at (ints_there files at) 1) else None

-- the numbers of a node that has whole numbers of these dimensions
abbrev pub ints_with : List ℕ → Files → NodeId → Option (List ℤ)
ints_with dims files at = if is_ints_of dims (node_there files at) then Some (ints_there files at) else None

-- the range of a node that has two whole numbers
abbrev pub range_there : Files → NodeId → Option Range
range_there files at = option_map (range_at files) (if_passes (λ at. is_ints_of (2 ∷ []) (node_there files at)) (Some at))

-- the range that the children of a section tell
abbrev pub range_in : Files → List SeenChild → Option Range
range_in files children = option_map (range_at files) (if_passes (λ at. is_ints_of (2 ∷ []) (node_there files at)) (of_that_kind IndexRange (first_called (codes "ElementRange") children)))
