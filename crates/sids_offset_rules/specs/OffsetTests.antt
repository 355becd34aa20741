-- The tests on a section whose elements begin where its offsets say.
use Rattle.std.specs.Prelude.{ℕ, ℤ, Bool, true, false, not, ◌&&◌, if◌then◌else◌, List, [], ◌∷◌, Option, Some, None, is_none, is_some}
use Rattle.adf_model.specs.declared.tree.NodeId.{NodeId}
use Rattle.adf_model.specs.Slots.{Files}
use Rattle.sids_views.specs.Views.{node_there, given}
use Rattle.sids_rules.specs.Terms.{Head, Range, is_range, if_passes}
use Rattle.sids_rules.specs.Rules.{Section, is_connected}
use Rattle.sids_rules.specs.OffsetRules.{wants_offsets, offset_child, has_offset_size, OffsetSection, with_offsets, has_bad_offsets, face_ranges}
use Rattle.sids_readings.specs.declared.rule_sets.RuleSet.{RuleSet}
use Rattle.sids_readings.specs.declared.rule_sets.RuleSet.TheVariants as set
use Rattle.sids_section_rules.specs.declared.part_rules.SectionParts.{SectionParts}
use Rattle.sids_offset_rules.specs.declared.pieces.PieceFault.{PieceFault}
use Rattle.sids_offset_rules.specs.declared.pieces.PieceFault.TheVariants as fault
use Rattle.sids_section_rules.specs.SectionTests.{whole}
use Rattle.sids_offset_rules.specs.Pieces.{piece_fault, has_no_face}

-- the rules on the offsets of a section of these parts
abbrev pub lacks_list : SectionParts → Option NodeId → Bool
lacks_list parts offsets = given parts.head (λ head. wants_offsets head && is_some parts.range && is_none offsets)

abbrev pub is_list_off : Files → SectionParts → Option NodeId → Bool
is_list_off files parts offsets = given parts.head (λ head. wants_offsets head &&
    given (if_passes is_range parts.range) (λ range. given offsets (λ child. not (has_offset_size range (node_there files child)))))

-- the section with its offsets, where all that the rules on pieces need is met
abbrev pub listed : Files → Option Section → Option NodeId → Option OffsetSection
listed files None offsets = None
listed files (Some section) offsets = with_offsets files section offsets

abbrev pub section_with : Files → Head → Range → NodeId → NodeId → Option OffsetSection
section_with files head range connectivity offsets =
    if is_connected head range (node_there files connectivity) && has_offset_size range (node_there files offsets)
    then Some (record { code = head.code; connectivity = connectivity; offsets = offsets }) else None

abbrev pub is_bad_piece : Option PieceFault → Bool
is_bad_piece None = false
is_bad_piece (Some fault.Piece) = true
is_bad_piece (Some fault.Node) = false

abbrev pub is_bad_node : Option PieceFault → Bool
is_bad_node None = false
is_bad_node (Some fault.Piece) = false
is_bad_node (Some fault.Node) = true

-- the rules on the numbers of offsets, and on pieces
abbrev pub lacks_face : Files → Option NodeId → OffsetSection → Bool
lacks_face files zone section = given zone (λ in_zone. not (has_bad_offsets files section) && has_no_face files section (face_ranges files in_zone))

-- behind that on the numbers of the offsets
abbrev pub state_tests : Files → Option NodeId → Option (Option ℤ) → OffsetSection → List (ℕ × Bool)
state_tests files zone limit section =
    (38, is_bad_piece (piece_fault files section limit))
    ∷ (39, is_bad_node (piece_fault files section limit))
    ∷ (40, lacks_face files zone section)
    ∷ []

abbrev pub piece_tests : Files → Option NodeId → Option (Option ℤ) → Option OffsetSection → List (ℕ × Bool)
piece_tests files above limit None = []
piece_tests files above limit (Some section) = (37, has_bad_offsets files section) ∷ state_tests files above limit section

abbrev pub offset_tests : Files → Option NodeId → Option (Option ℤ) → SectionParts → Option NodeId → List (ℕ × Bool)
offset_tests files zone limit parts offsets =
    (35, lacks_list parts offsets) ∷ (36, is_list_off files parts offsets) ∷ piece_tests files zone limit (listed files (whole parts) offsets)

abbrev pub offset_tests_of : RuleSet → Files → Option NodeId → Option (Option ℤ) → NodeId → SectionParts → List (ℕ × Bool)
offset_tests_of set.Check files above limit at parts = []
offset_tests_of set.Check4 files above limit at parts = offset_tests files above limit parts (offset_child files at)
