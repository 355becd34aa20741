-- The rules of a set that a seen node breaks, by how it is seen.
use Rattle.std.proofs.Common.{◌≡◌, ◌≢◌, ◌∙◌, sym, ap, subst, refl, ℕ, ℤ, List, [], ◌∷◌, ◌++◌}
use Rattle.std.specs.Prelude.{Bool, Option, Some, None, option_map, IfSome, not, ◌==◌}
use Rattle.std.proofs.lemmas.List.{append-nil}
use Rattle.adf_model.specs.declared.tree.NodeId.{NodeId}
use Rattle.adf_model.specs.Slots.{Files}
use Rattle.sids_tables.specs.declared.labels.LabelKind.{LabelKind}
use Rattle.sids_tables.specs.declared.labels.LabelKind.TheVariants.{CgnsLibraryVersion, Other}
use Rattle.sids_views.specs.Views.{kind_there, children_there, count_of}
use Rattle.sids_rules.specs.declared.seen.Seen.{Seen}
use Rattle.sids_rules.specs.Rules.{check_rules, broken_numbers, place_kind, is_allowed}
use Rattle.sids_rules.specs.OffsetRules.{offset_rules}
use Rattle.sids_rules.specs.Terms.{good_range}
use Rattle.sids_section_rules.specs.SectionTests.{overlaps}
use Rattle.sids_rules.proofs.ByKind.{of_lost, of_root}
use Rattle.sids_readings.specs.declared.around.Surroundings.{Surroundings}
use Rattle.sids_readings.specs.declared.rule_sets.RuleSet.{RuleSet}
use Rattle.sids_readings.specs.declared.rule_sets.RuleSet.TheVariants as set
use Rattle.sids_section_rules.specs.declared.section_rules.Spot.{Spot}
use Rattle.sids_readings.specs.RuleSets.{rules_of}
use Rattle.sids_readings.specs.Held.{held}
use Rattle.sids_readings.specs.Around.{zone_numbers, surroundings, sizes_around}
use Rattle.sids_node_rules.specs.Fields.{dims_under}
use Rattle.sids_broken.specs.NodeTests.{IsKnownOf, dims_beside, tests_at, tests_with_place}
use Rattle.sids_broken.proofs.OffsetTestLaws.{numbers_append, broken_are}

module _ (files : Files) (s : Seen) where
  abbrev alone : List ℕ → Type 0
  alone numbers = (rules : RuleSet) → broken_numbers (rules_of rules) files s ≡ numbers

  -- nodes that no rule on offsets speaks of
  by_check : (numbers : List ℕ) → broken_numbers check_rules files s ≡ numbers → broken_numbers offset_rules files s ≡ [] → alone numbers
  by_check numbers h none set.Check = h
  by_check numbers h none set.Check4 =
      numbers_append check_rules offset_rules files s ∙ ap (λ ns. broken_numbers check_rules files s ++ ns) none ∙ append-nil (broken_numbers check_rules files s) ∙ h

no_offsets_lost : (files : Files) (node : NodeId) (parent base zone : Option NodeId)
    → broken_numbers offset_rules files (record { node = node; target = None; parent = parent; base = base; zone = zone }) ≡ []
unfolding offset_rules
no_offsets_lost files node parent base above = refl

no_offsets_root : (files : Files) (node at : NodeId) (base zone : Option NodeId)
    → broken_numbers offset_rules files (record { node = node; target = Some at; parent = None; base = base; zone = zone }) ≡ []
unfolding offset_rules
no_offsets_root files node at base above = refl

lost : (files : Files) (node : NodeId) (target parent base zone : Option NodeId) (rules : RuleSet) → target ≡ None
    → broken_numbers (rules_of rules) files (record { node = node; target = target; parent = parent; base = base; zone = zone }) ≡ 1 ∷ []
lost files node target parent base zone rules e =
    ap (λ t. broken_numbers (rules_of rules) files (record { node = node; target = t; parent = parent; base = base; zone = zone })) e
    ∙ by_check files _ (1 ∷ []) (of_lost files node parent base zone) (no_offsets_lost files node parent base zone) rules

-- a node whose link cannot be followed
pub lost_are : (files : Files) (s : Seen) (rules : RuleSet) → s.target ≡ None → broken_numbers (rules_of rules) files s ≡ 1 ∷ []
lost_are files s rules e = lost files s.node s.target s.parent s.base s.zone rules e

-- the first node of a walk
pub root_are : (files : Files) (s : Seen) (at : NodeId) (rules : RuleSet) → s.target ≡ Some at → s.parent ≡ None
    → broken_numbers (rules_of rules) files s ≡ held ((3, not (count_of CgnsLibraryVersion (children_there files at) == 1)) ∷ [])
root_are files s at rules e none =
    ap (λ t. broken_numbers (rules_of rules) files (record { node = s.node; target = t; parent = s.parent; base = s.base; zone = s.zone })) e
    ∙ ap (λ p. broken_numbers (rules_of rules) files (record { node = s.node; target = Some at; parent = p; base = s.base; zone = s.zone })) none
    ∙ by_check files _ _ (of_root files s.node at s.base s.zone) (no_offsets_root files s.node at s.base s.zone) rules

-- what is known of K30 changes no test
tests_alike : (rules : RuleSet) (k : LabelKind) (files : Files) (node at parent : NodeId) (zone : Option NodeId) (known : Option Bool) (around : Surroundings) (dims : Option (List ℤ))
    → tests_with_place rules k files (record { node = node; at = at; parent = parent; zone = zone; overlaps = None }) around dims
    ≡ tests_with_place rules k files (record { node = node; at = at; parent = parent; zone = zone; overlaps = known }) around dims
tests_alike rules k files node at parent zone known around dims = by k
  where
    by : (k : LabelKind) → tests_with_place rules k files (record { node = node; at = at; parent = parent; zone = zone; overlaps = None }) around dims
        ≡ tests_with_place rules k files (record { node = node; at = at; parent = parent; zone = zone; overlaps = known }) around dims
    by Other = refl
    by _ = refl

-- any other node
pub others_are : (files : Files) (s : Seen) (at parent : NodeId) (k : LabelKind) (rules : RuleSet) (known : Option Bool) → s.target ≡ Some at → s.parent ≡ Some parent → kind_there files at ≡ k
    → broken_numbers (rules_of rules) files s ≡ held (tests_with_place rules k files (record { node = s.node; at = at; parent = parent; zone = s.zone; overlaps = known }) (surroundings files s) (dims_beside files s))
others_are files s at parent k rules known e there is =
    ap (λ t. broken_numbers (rules_of rules) files (record { node = s.node; target = t; parent = s.parent; base = s.base; zone = s.zone })) e
    ∙ ap (λ p. broken_numbers (rules_of rules) files (record { node = s.node; target = Some at; parent = p; base = s.base; zone = s.zone })) there
    ∙ broken_are files s.node at parent s.base s.zone rules k is
    ∙ ap held (tests_alike rules k files s.node at parent s.zone known (surroundings files s) (dims_under files (sizes_around (option_map (zone_numbers files) s.zone)) (Some parent)))
    ∙ ap (λ p. held (tests_with_place rules k files (record { node = s.node; at = at; parent = parent; zone = s.zone; overlaps = known }) (surroundings files s)
    (dims_under files (sizes_around (option_map (zone_numbers files) s.zone)) p))) (sym there)

-- what is known of K30 on a node, by where it stands
pub known_spot : (files : Files) (s : Seen) (at parent : NodeId) (known : Option Bool) → s.target ≡ Some at → s.parent ≡ Some parent → IsKnownOf files s known
    → IfSome known (λ b. b ≡ overlaps files s.zone parent s.node (good_range files at))
known_spot files s at parent None e there h = tt
known_spot files s at parent (Some known) e there h =
    let met : Option NodeId → Option NodeId → Type 0 = λ t p. IfSome t (λ at. IfSome p (λ parent. known ≡ overlaps files s.zone parent s.node (good_range files at))) in
    subst (λ p. met (Some at) p) there (subst (λ t. met t s.parent) e h)

-- the rule of places comes first, of a node in the profile
pub place_first : (rules : RuleSet) (k : LabelKind) (files : Files) (spot : Spot) (around : Surroundings) (dims : Option (List ℤ)) → k ≢ Other
    → tests_with_place rules k files spot around dims ≡ (2, not (is_allowed (place_kind files spot.parent) k)) ∷ tests_at rules k files spot around dims
place_first rules Other files spot around dims h = absurd (h refl)
place_first rules _ files spot around dims h = refl
