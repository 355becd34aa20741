-- What the offsets of a section are, and what its pieces are.
use Rattle.std.specs.Prelude.{◌≡◌, ℕ, ℤ, pos, Bool, true, false, not, ◌&&◌, if◌then◌else◌, List, Option, Some, None}
use Rattle.std.specs.List.{list_any}
use Rattle.std.specs.Ordering.{int_eq}
use Rattle.adf_format.specs.Tree.{Node}
use Rattle.adf_model.specs.declared.tree.NodeId.{NodeId}
use Rattle.adf_model.specs.Slots.{Files}
use Rattle.sids_views.specs.Asks.{IsPlain}
use Rattle.sids_views.specs.Views.{node_there, given}
use Rattle.sids_rules.specs.Values.{is_small, ints_there}
use Rattle.sids_readings.specs.Reading.{is_list}
use Rattle.sids_rules.specs.OffsetRules.{OffsetSection, entry_count, are_offsets, has_pieces, has_bad_piece, has_bad_node, is_no_face}
use Rattle.sids_rules.specs.Terms.{Range}
use Rattle.sids_offset_rules.specs.declared.offset_lists.OffsetState.{OffsetState}
use Rattle.sids_offset_rules.specs.declared.offset_lists.OffsetState.TheVariants as state
use Rattle.sids_offset_rules.specs.declared.pieces.PieceFault.{PieceFault}
use Rattle.sids_offset_rules.specs.declared.pieces.PieceFault.TheVariants as fault

-- its connectivity and its offsets are lists of whole numbers
pub record IsOffsetSection (files : Files) (section : OffsetSection) : Type 0 where
  pub connectivity : IsPlain files section.connectivity
  pub offsets : IsPlain files section.offsets
  pub entries : is_list (node_there files section.connectivity) ≡ true
  pub list : is_list (node_there files section.offsets) ≡ true

-- ---- offsets

abbrev pub state_of : List ℤ → ℕ → OffsetState
state_of offsets entries = if are_offsets offsets entries then state.Good offsets else state.Bad

abbrev pub state_there : Files → NodeId → ℕ → OffsetState
state_there files at entries = if is_small (node_there files at) then state_of (ints_there files at) entries else state.Untested

abbrev pub offset_state : Files → OffsetSection → OffsetState
offset_state files section = state_there files section.offsets (entry_count files section)

-- K37 offset-numbers
abbrev pub is_bad_state : OffsetState → Bool
is_bad_state state.Untested = false
is_bad_state state.Bad = true
is_bad_state (state.Good offsets) = false

-- ---- pieces. A limit is there where the sizes of the zone are known, and is none where node numbers have none

abbrev pub mixed_fault : List ℤ → List ℤ → Option (Option ℤ) → Option PieceFault
mixed_fault entries offsets limit =
    if has_bad_piece entries offsets then Some fault.Piece else if given limit (has_bad_node 1 entries offsets) then Some fault.Node else None

abbrev pub polygon_fault : List ℤ → List ℤ → Option (Option ℤ) → Option PieceFault
polygon_fault entries offsets limit = if given limit (has_bad_node 0 entries offsets) then Some fault.Node else None

abbrev pub fault_of : ℤ → List ℤ → List ℤ → Option (Option ℤ) → Option PieceFault
fault_of code entries offsets limit =
    if int_eq code (pos 20) then mixed_fault entries offsets limit else if int_eq code (pos 22) then polygon_fault entries offsets limit else None

-- what is wrong with the pieces of a section whose offsets meet K37
abbrev pub piece_fault : Files → OffsetSection → Option (Option ℤ) → Option PieceFault
piece_fault files section limit =
    if has_pieces files section then fault_of section.code (ints_there files section.connectivity) (ints_there files section.offsets) limit else None

-- the same, with the offsets
abbrev pub fault_with : Files → OffsetSection → List ℤ → Option (Option ℤ) → Option PieceFault
fault_with files section offsets limit =
    if is_small (node_there files section.connectivity) then fault_of section.code (ints_there files section.connectivity) offsets limit else None

-- K40 face-numbers, of a section whose offsets are not bad
abbrev pub has_no_face : Files → OffsetSection → List Range → Bool
has_no_face files section faces =
    int_eq section.code (pos 23) && is_small (node_there files section.connectivity) && list_any (is_no_face faces) (ints_there files section.connectivity)
