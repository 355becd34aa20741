-- The tests on a node that is not the first of a walk, by what its label says that it is.
use Rattle.std.specs.Prelude.{◌≡◌, ℕ, ℤ, Bool, not, List, [], ◌∷◌, ◌++◌, Option, option_map, IfSome}
use Rattle.adf_model.specs.Slots.{Files}
use Rattle.sids_tables.specs.declared.labels.LabelKind.{LabelKind}
use Rattle.sids_tables.specs.declared.labels.LabelKind.TheVariants.{CgnsBase, Zone, DataArray, Rind, Bc, Elements, Other}
use Rattle.sids_views.specs.Asks.{IsPlain, IsThere}
use Rattle.sids_rules.specs.declared.seen.Seen.{Seen}
use Rattle.sids_rules.specs.Terms.{base_dimensions, good_range}
use Rattle.sids_rules.specs.Rules.{place_kind, is_allowed}
use Rattle.sids_readings.specs.declared.around.Surroundings.{Surroundings}
use Rattle.sids_section_rules.specs.declared.section_rules.Spot.{Spot}
use Rattle.sids_section_rules.specs.declared.part_rules.SectionParts.{SectionParts}
use Rattle.sids_readings.specs.declared.rule_sets.RuleSet.{RuleSet}
use Rattle.sids_readings.specs.Around.{zone_numbers, sizes_around, limit_around}
use Rattle.sids_node_rules.specs.Fields.{dims_under}
use Rattle.sids_node_rules.specs.KindTests.{tests_of_base, zone_tests, array_tests, rind_tests, condition_tests, tests_on}
use Rattle.sids_section_rules.specs.SectionTests.{section_parts, section_tests, overlaps, IsKnown}
use Rattle.sids_offset_rules.specs.OffsetTests.{offset_tests_of}

-- the nodes of a spot are there
pub record IsSpot (files : Files) (spot : Spot) : Type 0 where
  pub node : IsThere files spot.node
  pub at : IsPlain files spot.at
  pub parent : IsPlain files spot.parent
  pub zone : IfSome spot.zone (IsPlain files)
  pub known : IsKnown files spot (good_range files spot.at)

-- of a section, by its parts
abbrev pub parts_tests_of : RuleSet → Files → Option (Option ℤ) → Spot → SectionParts → List (ℕ × Bool)
parts_tests_of set files limit spot parts = section_tests files spot.zone limit spot.parent spot.node parts ++ offset_tests_of set files spot.zone limit spot.at parts

abbrev pub section_tests_of : RuleSet → Files → Option (Option ℤ) → Spot → List (ℕ × Bool)
section_tests_of set files limit spot = parts_tests_of set files limit spot (section_parts files spot.at)

-- the dimensions that the arrays under the parent of a seen node are to have, where rules speak of them
abbrev pub dims_beside : Files → Seen → Option (List ℤ)
dims_beside files seen = dims_under files (sizes_around (option_map (zone_numbers files) seen.zone)) seen.parent

-- behind the rule of places; arrays are to have these dimensions, where rules speak of them
abbrev pub tests_at : RuleSet → LabelKind → Files → Spot → Surroundings → Option (List ℤ) → List (ℕ × Bool)
tests_at set CgnsBase files spot around dims = tests_of_base (base_dimensions files spot.at)
tests_at set Zone files spot around dims = zone_tests files around.base spot.at
tests_at set DataArray files spot around dims = array_tests files dims spot.at spot.parent
tests_at set Rind files spot around dims = rind_tests files (sizes_around around.zone) spot.node spot.at
tests_at set Bc files spot around dims = condition_tests files (sizes_around around.zone) spot.at
tests_at set Elements files spot around dims = section_tests_of set files (limit_around around.zone) spot
tests_at set other files spot around dims = tests_on other files spot.at

-- none of a node that is outside the profile
abbrev pub tests_with_place : RuleSet → LabelKind → Files → Spot → Surroundings → Option (List ℤ) → List (ℕ × Bool)
tests_with_place set Other files spot around dims = []
tests_with_place set kind files spot around dims = (2, not (is_allowed (place_kind files spot.parent) kind)) ∷ tests_at set kind files spot around dims

-- what is known of K30 on a seen node is so, where the node can be followed and is not the first
abbrev pub IsKnownOf : Files → Seen → Option Bool → Type 0
IsKnownOf files seen overlapping = IfSome overlapping (λ known. IfSome seen.target (λ at. IfSome seen.parent (λ parent. known ≡ overlaps files seen.zone parent seen.node (good_range files at))))
