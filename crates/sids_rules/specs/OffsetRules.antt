-- The rules that `check4` tests beside those of `check`: sections whose elements begin where a list of offsets says. A rule that needs another is not tested where that is broken.
use Rattle.std.specs.Prelude.{ℕ, ◌+◌, ℤ, pos, Bool, true, false, not, ◌&&◌, ◌||◌, ◌==◌, int_le, if◌then◌else◌, List, [], ◌∷◌, ◌++◌, codes, length, drop, filter_map, unsigned_abs, Option, Some, None, is_some, is_none}
use Rattle.std.specs.List.{list_any}
use Rattle.std.specs.Ordering.{int_eq}
use Rattle.adf_format.specs.Tree.{Node}
use Rattle.adf_model.specs.declared.tree.NodeId.{NodeId}
use Rattle.adf_model.specs.Slots.{Files}
use Rattle.sids_tables.specs.declared.labels.LabelKind.TheVariants.{Elements, DataArray}
use Rattle.sids_rules.specs.declared.seen.Seen.{Seen}
use Rattle.sids_rules.specs.Sections.{fixed_nodes}
use Rattle.sids_rules.specs.Offsets.{piece_between}
use Rattle.sids_views.specs.Views.{given, node_there, children_of_kind, child_called, of_that_kind}
use Rattle.sids_rules.specs.Values.{has_rank, is_ints, is_small, ints_there}
use Rattle.sids_rules.specs.Terms.{if_passes, zone_sizes, vertex_limit, Head, section_head, is_head, Range, section_range, good_range, element_count}
use Rattle.sids_rules.specs.Rules.{on, first_dimension, is_connected, Section, section_there, is_no_vertex, Rule, rule, check_rules}

-- ---- tests over numbers

-- the codes of mixed sections, of polygons and of polyhedra
abbrev pub has_offsets : ℤ → Bool
has_offsets code = int_eq code (pos 20) || int_eq code (pos 22) || int_eq code (pos 23)

abbrev pub begins_at_0 : List ℤ → Bool
begins_at_0 [] = false
begins_at_0 (first ∷ offsets) = int_eq first (pos 0)

abbrev pub never_falls : List ℤ → Bool
never_falls [] = true
never_falls (n ∷ []) = true
never_falls (n ∷ m ∷ offsets) = int_le n m && never_falls (m ∷ offsets)

abbrev pub ends_at : ℕ → List ℤ → Bool
ends_at entries [] = false
ends_at entries (n ∷ []) = int_eq n (pos entries)
ends_at entries (n ∷ m ∷ offsets) = ends_at entries (m ∷ offsets)

-- from 0 to the length of the connectivity, and none under the one before it
abbrev pub are_offsets : List ℤ → ℕ → Bool
are_offsets offsets entries = begins_at_0 offsets && never_falls offsets && ends_at entries offsets

abbrev pub is_many : Option ℕ → ℕ → Bool
is_many None n = false
is_many (Some nodes) n = nodes == n

-- the pieces of a connectivity, each between an offset and the next one
abbrev pub pieces_of : List ℤ → List ℤ → List (List ℤ)
pieces_of entries [] = []
pieces_of entries (start ∷ []) = []
pieces_of entries (start ∷ end ∷ offsets) = piece_between entries start end ∷ pieces_of entries (end ∷ offsets)

-- the code of a fixed type of element, and then as many nodes as that has
abbrev pub is_mixed_piece : List ℤ → Bool
is_mixed_piece [] = false
is_mixed_piece (code ∷ nodes) = is_many (fixed_nodes code) (length nodes)

abbrev pub has_bad_piece : List ℤ → List ℤ → Bool
has_bad_piece entries offsets = list_any (λ piece. not (is_mixed_piece piece)) (pieces_of entries offsets)

-- some piece, without its first numbers, has a node that is no node of the zone
abbrev pub has_bad_node : ℕ → List ℤ → List ℤ → Option ℤ → Bool
has_bad_node skipped entries offsets limit = list_any (λ piece. list_any (is_no_vertex limit) (drop skipped piece)) (pieces_of entries offsets)

-- in a mixed section behind the code of each piece, or in one of polygons
abbrev pub has_bad_piece_node : ℤ → List ℤ → List ℤ → Option ℤ → Bool
has_bad_piece_node code entries offsets limit =
    (int_eq code (pos 20) && has_bad_node 1 entries offsets limit) || (int_eq code (pos 22) && has_bad_node 0 entries offsets limit)

-- the amount of a number lies in the range
abbrev pub is_in_range : ℤ → Range → Bool
is_in_range n range = int_le range.start (pos (unsigned_abs n)) && int_le (pos (unsigned_abs n)) range.end

-- 0, or in none of the ranges
abbrev pub is_no_face : List Range → ℤ → Bool
is_no_face faces n = int_eq n (pos 0) || not (list_any (is_in_range n) faces)

-- ---- sections with offsets

-- the child that K35 wants
abbrev pub offset_child : Files → NodeId → Option NodeId
offset_child files section =
    if_passes (λ at. is_ints (node_there files at) && has_rank 1 (node_there files at)) (of_that_kind DataArray (child_called (codes "ElementStartOffset") files section))

-- a code that wants offsets, of a section that meets K23 and K24
abbrev pub wants_offsets : Head → Bool
wants_offsets head = is_head head && has_offsets head.code

-- K35 start-offset, for a code that wants offsets, needs K23 to K25: no child `ElementStartOffset` that is DataArray_t and Ints of rank 1
abbrev pub breaks_start_offset : Files → Seen → Bool
breaks_start_offset files seen = on Elements files seen (λ at. given (section_head files at) (λ head. wants_offsets head && is_some (section_range files at) && is_none (offset_child files at)))

-- one more than the elements
abbrev pub has_offset_size : Range → Node → Bool
has_offset_size range node = first_dimension node.dims == element_count range + 1

-- K36 offset-size, for the same codes, needs K23 to K26 and K35: not one more than the elements
abbrev pub breaks_offset_size : Files → Seen → Bool
breaks_offset_size files seen = on Elements files seen (λ at. given (section_head files at) (λ head. wants_offsets head &&
    given (good_range files at) (λ range. given (offset_child files at) (λ child. not (has_offset_size range (node_there files child))))))

-- a section for which K35 and K36 are met, and K23 to K28
pub record OffsetSection : Type 0 where
  pub code : ℤ
  pub connectivity : NodeId
  pub offsets : NodeId

abbrev pub with_offsets : Files → Section → Option NodeId → Option OffsetSection
with_offsets files section None = None
with_offsets files section (Some child) =
    if has_offsets section.head.code && is_connected section.head section.range (node_there files section.connectivity) && has_offset_size section.range (node_there files child)
    then Some (record { code = section.head.code; connectivity = section.connectivity; offsets = child }) else None

abbrev pub offset_section_of : Files → NodeId → Option Section → Option OffsetSection
offset_section_of files at None = None
offset_section_of files at (Some section) = with_offsets files section (offset_child files at)

abbrev pub offset_section : Files → NodeId → Option OffsetSection
offset_section files at = offset_section_of files at (section_there files at)

-- the length of the connectivity
abbrev pub entry_count : Files → OffsetSection → ℕ
entry_count files section = first_dimension (node_there files section.connectivity).dims

-- the offsets are looked at, and are none
abbrev pub has_bad_offsets : Files → OffsetSection → Bool
has_bad_offsets files section = is_small (node_there files section.offsets) && not (are_offsets (ints_there files section.offsets) (entry_count files section))

-- K37 offset-numbers, for the same codes, needs K28 and K36: they do not begin with 0, or fall somewhere, or do not end with the length of the connectivity
abbrev pub breaks_offset_numbers : Files → Seen → Bool
breaks_offset_numbers files seen = on Elements files seen (λ at. given (offset_section files at) (has_bad_offsets files))

-- the pieces are looked at, and offsets that meet K37 tell them
abbrev pub has_pieces : Files → OffsetSection → Bool
has_pieces files section = is_small (node_there files section.connectivity) && is_small (node_there files section.offsets) && are_offsets (ints_there files section.offsets) (entry_count files section)

-- for a mixed section, a piece that is no element of a fixed type
abbrev pub has_bad_pieces : Files → OffsetSection → Bool
has_bad_pieces files section = int_eq section.code (pos 20) && has_bad_piece (ints_there files section.connectivity) (ints_there files section.offsets)

-- K38 mixed-pieces, for a mixed section, needs K37: a piece that is no element of a fixed type
abbrev pub breaks_mixed_pieces : Files → Seen → Bool
breaks_mixed_pieces files seen = on Elements files seen (λ at. given (offset_section files at) (λ section. has_pieces files section && has_bad_pieces files section))

-- K39 piece-nodes, for a mixed section or one of polygons, needs K37, K38 and K07: a node of a piece that is no node of the zone
abbrev pub breaks_piece_nodes : Files → Seen → Bool
breaks_piece_nodes files seen = on Elements files seen (λ at. given (offset_section files at) (λ section. given seen.zone (λ in_zone. given (zone_sizes files in_zone) (λ sizes.
    has_pieces files section && not (has_bad_pieces files section)
    && has_bad_piece_node section.code (ints_there files section.connectivity) (ints_there files section.offsets) (vertex_limit files in_zone sizes)))))

-- the range of a section of polygons that meets K23 to K26
abbrev pub face_range : Files → NodeId → Option Range
face_range files at = if given (section_head files at) (λ head. is_head head && int_eq head.code (pos 22)) then good_range files at else None

-- the ranges of the sections of polygons of a zone
abbrev pub face_ranges : Files → NodeId → List Range
face_ranges files in_zone = filter_map (λ child. face_range files child.target) (children_of_kind Elements files in_zone)

-- K40 face-numbers, for a section of polyhedra, needs K37: a number of the connectivity that is 0, or whose amount lies in the range of no section of polygons of the zone
abbrev pub breaks_face_numbers : Files → Seen → Bool
breaks_face_numbers files seen = on Elements files seen (λ at. given (offset_section files at) (λ section. given seen.zone (λ in_zone.
    int_eq section.code (pos 23) && not (has_bad_offsets files section) && is_small (node_there files section.connectivity)
    && list_any (is_no_face (face_ranges files in_zone)) (ints_there files section.connectivity))))

-- ---- the rules by number

unfoldable pub offset_rules : List Rule
offset_rules =
    rule 35 (codes "start-offset") breaks_start_offset
    ∷ rule 36 (codes "offset-size") breaks_offset_size
    ∷ rule 37 (codes "offset-numbers") breaks_offset_numbers
    ∷ rule 38 (codes "mixed-pieces") breaks_mixed_pieces
    ∷ rule 39 (codes "piece-nodes") breaks_piece_nodes
    ∷ rule 40 (codes "face-numbers") breaks_face_numbers
    ∷ []

-- the rules that `check4` tests, rising
abbrev pub check4_rules : List Rule
check4_rules = check_rules ++ offset_rules
