-- Tests of rules on what is looked at of a node before its data are read.
use Rattle.std.specs.Prelude.{ℕ, Bool, not, ◌&&◌, ◌||◌, ◌==◌, nat_le, if◌then◌else◌, List, [], ◌∷◌, length, bytes_eq, is_some}
use Rattle.adf_format.specs.declared.types.DataType.{DataType}
use Rattle.adf_format.specs.declared.types.DataType.TheVariants.{Mt, I4, I8, C1}
use Rattle.adf_format.specs.Names.{is_same_type, data_size}
use Rattle.adf_model.specs.Edits.{size_limit}
use Rattle.sids_views.specs.Nodes.{View}
use Rattle.sids_rules.specs.Sections.{fixed_nodes}
use Rattle.sids_rules.specs.Terms.{index_in, Head, Range, element_count}
use Rattle.sids_rules.specs.Rules.{are_point_dims, is_count_off, first_dimension}

abbrev pub shows_type : DataType → View → Bool
shows_type kind view = is_same_type view.kind kind

-- of this type and these dimensions, with data
abbrev pub shows_array : DataType → List ℕ → View → Bool
shows_array kind dims view = shows_type kind view && bytes_eq view.dims dims && view.has_data

-- of type I4 or I8, with data
abbrev pub shows_ints : View → Bool
shows_ints view = (shows_type I4 view || shows_type I8 view) && view.has_data

-- whole numbers of one dimension
abbrev pub shows_list : View → Bool
shows_list view = shows_ints view && (length view.dims == 1)

-- I4 or I8
abbrev pub is_ints_type : DataType → Bool
is_ints_type kind = is_same_type kind I4 || is_same_type kind I8

-- such numbers, of exactly these dimensions
abbrev pub shows_ints_of : List ℕ → View → Bool
shows_ints_of dims view = shows_ints view && bytes_eq view.dims dims

-- of a type, with data
abbrev pub shows_filled : View → Bool
shows_filled view = not (shows_type Mt view) && view.has_data

-- at most 2^30 bytes
abbrev pub shows_small : View → Bool
shows_small view = nat_le (data_size view.kind view.dims) size_limit

-- characters of one dimension, with data of at most 2^30 bytes
abbrev pub shows_text : View → Bool
shows_text view = shows_type C1 view && (length view.dims == 1) && view.has_data && shows_small view

-- the number of indices of a zone; 0 where its numbers are none of a zone
abbrev pub shown_index : View → ℕ
shown_index view = if shows_ints view then index_in view.dims else 0

-- whole numbers with data, so many for each point
abbrev pub shows_points : ℕ → View → Bool
shows_points index view = shows_ints view && are_point_dims index view.dims

-- whole numbers of one dimension, as many as the elements of a section want
abbrev pub shows_connected : Head → Range → View → Bool
shows_connected head range view =
    shows_ints view && (length view.dims == 1) && not (is_count_off (fixed_nodes head.code) (element_count range) (first_dimension view.dims))

-- such numbers, of elements with fixed nodes, that are looked at
abbrev pub shows_fixed_list : Head → Range → View → Bool
shows_fixed_list head range view = shows_connected head range view && shows_small view && is_some (fixed_nodes head.code)
