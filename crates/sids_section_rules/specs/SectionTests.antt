-- What the children of a section tell, and the tests on it.
use Rattle.std.specs.Prelude.{◌≡◌, ℕ, ℤ, Bool, not, ◌&&◌, List, [], ◌∷◌, ◌++◌, Option, is_none, IfSome}
use Rattle.std.specs.List.{list_any}
use Rattle.adf_model.specs.declared.tree.NodeId.{NodeId}
use Rattle.adf_model.specs.Slots.{Files}
use Rattle.sids_views.specs.Views.{node_there, given, is_same_node}
use Rattle.sids_rules.specs.Terms.{section_head, is_head, Range, section_range, is_range, if_passes, connectivity_child}
use Rattle.sids_rules.specs.Rules.{Section, whole_section, is_connected, meets, ranges_of, sections_before}
use Rattle.sids_section_rules.specs.Entries.{has_no_vertex}
use Rattle.sids_section_rules.specs.declared.part_rules.SectionParts.{SectionParts}
use Rattle.sids_section_rules.specs.declared.section_rules.Spot.{Spot}

-- the parts of a section, each where it is there
abbrev pub section_parts : Files → NodeId → SectionParts
section_parts files at = record { head = section_head files at; range = section_range files at; connectivity = connectivity_child files at }

-- the section that whole parts make
abbrev pub whole : SectionParts → Option Section
whole parts = whole_section parts.head (if_passes is_range parts.range) parts.connectivity

-- the rules on the parts
abbrev pub part_tests : SectionParts → List (ℕ × Bool)
part_tests parts =
    (23, is_none parts.head)
    ∷ (24, given parts.head (λ head. not (is_head head)))
    ∷ (25, is_none parts.range)
    ∷ (26, given parts.range (λ range. not (is_range range)))
    ∷ (27, is_none parts.connectivity)
    ∷ []

-- the rules on the connectivity
abbrev pub size_off : Files → Section → Bool
size_off files section = not (is_connected section.head section.range (node_there files section.connectivity))

abbrev pub has_bad_vertex : Files → Option (Option ℤ) → Section → Bool
has_bad_vertex files limit section = given limit (λ limit. has_no_vertex section.head section.range limit files section.connectivity)

abbrev pub connectivity_tests : Files → Option (Option ℤ) → Option Section → List (ℕ × Bool)
connectivity_tests files limit section = (28, given section (size_off files)) ∷ (29, given section (has_bad_vertex files limit)) ∷ []

-- K30 sections-overlap
abbrev pub overlaps : Files → Option NodeId → NodeId → NodeId → Option Range → Bool
overlaps files zone parent node range = given zone (λ in_zone. is_same_node parent in_zone && given range (λ range. list_any (meets range) (ranges_of files (sections_before files in_zone node))))

abbrev pub section_tests : Files → Option NodeId → Option (Option ℤ) → NodeId → NodeId → SectionParts → List (ℕ × Bool)
section_tests files zone limit parent node parts =
    part_tests parts ++ connectivity_tests files limit (whole parts) ++ (30, overlaps files zone parent node (if_passes is_range parts.range)) ∷ []

-- what is known of K30 on a section of this range is so
abbrev pub IsKnown : Files → Spot → Option Range → Type 0
IsKnown files spot range = IfSome spot.overlaps (λ known. known ≡ overlaps files spot.zone spot.parent spot.node range)
