-- What a finder of the rules of the checker keeps, and the words of its rules.
use Rattle.std.proofs.Common.{◌≡◌, ◌∙◌, sym, ap, subst, refl, ℕ, Bool, true, false, List, [], ◌∷◌, ◌++◌}
use Rattle.std.specs.Prelude.{Option, Some, None, option_map, Result, Ok, Err, IfSome, if◌then◌else◌, ◌&&◌, ◌==◌}
use Rattle.std.proofs.lemmas.Bool.{eqb-true}
use Rattle.adf_model.specs.declared.error.AdfError.{AdfError}
use Rattle.adf_model.specs.declared.tree.NodeId.{NodeId}
use Rattle.adf_model.specs.Causes.{OnlyAsks}
use Rattle.adf_model.specs.Slots.{Files, Devices}
use Rattle.adf_model.proofs.Basics.{not_true}
use Rattle.element_ranges.specs.declared.overlaps.OverlapNotes.{OverlapNotes}
use Rattle.element_ranges.specs.Notes.{note_of}
use Rattle.sids_tables.specs.declared.labels.LabelKind.{LabelKind}
use Rattle.sids_tables.specs.declared.labels.LabelKind.TheVariants.{GridCoordinates, FlowSolution}
use Rattle.sids_views.specs.Asks.{HasAskCause}
use Rattle.sids_views.specs.Views.{is_same_node, target_of}
use Rattle.sids_views.proofs.Gathered.{later_cause}
use Rattle.sids_rules.specs.declared.seen.Seen.{Seen}
use Rattle.sids_rules.specs.SeenNodes.{IsSeen}
use Rattle.sids_rules.specs.Terms.{Dimensions, Sizes, good_range}
use Rattle.sids_rules.specs.Rules.{Rule, check_rules}
use Rattle.sids_rules.specs.OffsetRules.{offset_rules}
use Rattle.sids_readings.specs.declared.rule_sets.RuleSet.{RuleSet}
use Rattle.sids_readings.specs.declared.rule_sets.RuleSet.TheVariants as set
use Rattle.sids_readings.specs.declared.around.Surroundings.{Surroundings}
use Rattle.sids_readings.specs.declared.around.ZoneNumbers.{ZoneNumbers}
use Rattle.sids_readings.specs.Around.{base_around, zone_numbers, sizes_around, surroundings}
use Rattle.sids_readings.specs.RuleSets.{rules_of}
use Rattle.sids_node_rules.specs.Fields.{holds_arrays, dims_by, dims_of, dims_under}
use Rattle.sids_section_rules.specs.Noted.{note_there}
use Rattle.sids_section_rules.specs.SectionTests.{overlaps}
use Rattle.sids_section_rules.proofs.NoteLaws.{known_is}
use Rattle.sids_broken.specs.NodeTests.{IsKnownOf}
use Rattle.cgns_check.specs.declared.rule_finder.RuleFinder.{RuleFinder}
use Rattle.cgns_check.specs.Words.{word_of, AreWorded}
use Rattle.cgns_check.specs.Kept.{AreDimsKept, IsAroundKept, Recalls, is_same_place, known_dims, note_around, known_under, known_overlap}
use Rattle.cgns_check.proofs.LevelLaws.{all_append}
use Rattle.cgns_check.proofs.LookLaws.{and_both, same_node, same_self}

check_worded : AreWorded check_rules
unfolding check_rules offset_rules
check_worded = (refl, (refl, (refl, (refl, (refl, (refl, (refl, (refl, (refl, (refl, (refl, (refl, (refl, (refl, (refl, (refl, (refl, (refl, (refl, (refl, (refl, (refl, (refl, (refl, (refl, (refl, (refl, (refl, (refl, (refl, (refl, (refl, (refl, (refl, tt))))))))))))))))))))))))))))))))))

offsets_worded : AreWorded offset_rules
unfolding check_rules offset_rules
offsets_worded = (refl, (refl, (refl, (refl, (refl, (refl, tt))))))

-- each rule that is tested has the word of its number
pub all_worded : (rules : RuleSet) → AreWorded (rules_of rules)
all_worded set.Check = check_worded
all_worded set.Check4 = all_append (λ (r : Rule). word_of r.number ≡ r.word) check_rules offset_rules check_worded offsets_worded

-- ---- what is kept

pub same_place : (one other : Option NodeId) → is_same_place one other ≡ true → one ≡ other
same_place None None h = refl
same_place (Some one) (Some other) h = ap (λ (n : NodeId). Some n) (same_node one other h)
same_place None (Some other) h = absurd (not_true h)
same_place (Some one) None h = absurd (not_true h)

module _ (files : Files) (node : NodeId) (notes : OverlapNotes) where
  abbrev IsK30 : Option NodeId → Option NodeId → Option NodeId → Bool → Type 0
  IsK30 target parent zone known = IfSome target (λ at. IfSome parent (λ p. known ≡ overlaps files zone p node (good_range files at)))

  by_target : (parent zone : NodeId) (known : Bool) → parent ≡ zone → node.file ≡ zone.file → note_there files zone node.serial ≡ Some known
      → (target : Option NodeId) → target ≡ target_of files node → IsK30 target (Some parent) (Some zone) known
  by_target parent zone known same within h None e = tt
  by_target parent zone known same within h (Some at) e =
      subst (λ p. known ≡ overlaps files (Some zone) p node (good_range files at)) (sym same) (known_is files node at (sym e) zone within known h)

  by_note : (target : Option NodeId) → target ≡ target_of files node → (parent zone : NodeId) → parent ≡ zone → node.file ≡ zone.file
      → (o : Option Bool) → note_there files zone node.serial ≡ o → IfSome o (IsK30 target (Some parent) (Some zone))
  by_note target e parent zone same within None h = tt
  by_note target e parent zone same within (Some known) h = by_target parent zone known same within h target e

  by_test : (target : Option NodeId) → target ≡ target_of files node → (parent zone : NodeId) → ((q : ℕ) → note_of notes q ≡ note_there files zone q)
      → (b : Bool) → (is_same_node parent zone && node.file == zone.file) ≡ b → IfSome (if b then note_of notes node.serial else None) (IsK30 target (Some parent) (Some zone))
  by_test target e parent zone noted true h =
      let both = and_both (is_same_node parent zone) (node.file == zone.file) h in
      by_note target e parent zone (same_node parent zone both.0) (eqb-true node.file zone.file both.1) (note_of notes node.serial) (sym (noted node.serial))
  by_test target e parent zone noted false h = tt

  by_place : (target : Option NodeId) → target ≡ target_of files node → (parent zone : Option NodeId) → ((q : ℕ) → note_of notes q ≡ note_around files zone q)
      → IfSome (known_under notes node parent zone) (IsK30 target parent zone)
  by_place target e (Some parent) (Some zone) noted = by_test target e parent zone noted (is_same_node parent zone && node.file == zone.file) refl
  by_place target e None zone noted = tt
  by_place target e (Some parent) None noted = tt

-- what is noted of a node is K30 on it
pub known_tells : (files : Files) (notes : OverlapNotes) (seen : Seen) → IsSeen files seen → ((q : ℕ) → note_of notes q ≡ note_around files seen.zone q) → IsKnownOf files seen (known_overlap notes seen)
known_tells files notes seen is noted = by_place files seen.node notes seen.target is.target seen.parent seen.zone noted

-- what is kept is what the rules read around a node
pub around_is : (files after : Files) (seen : Seen) (around : Surroundings) → after ≡ files → around.base ≡ base_around files seen.base → around.zone ≡ option_map (zone_numbers files) seen.zone
    → around ≡ surroundings after seen
around_is files after seen around stay base zone =
    let with_base : Option Dimensions → Surroundings = λ b. record { base = b; zone = around.zone } in
    let with_zone : Option ZoneNumbers → Surroundings = λ z. record { base = base_around files seen.base; zone = z } in
    ap with_base base ∙ ap with_zone zone ∙ ap (λ (fs : Files). surroundings fs seen) (sym stay)

-- ---- the dimensions that arrays are to have

-- rules speak of none under a node of any other kind
pub none_of : (k : LabelKind) (files : Files) (at : NodeId) (sizes : Option Sizes) → holds_arrays k ≡ false → dims_of k files at sizes ≡ None
none_of k files at None h = refl
none_of k files at (Some sizes) h = by k h
  where
    by : (k : LabelKind) → holds_arrays k ≡ false → dims_by k files at sizes ≡ None
    by GridCoordinates h = absurd (not_true (sym h))
    by FlowSolution h = absurd (not_true (sym h))
    by _ h = refl

-- the node that is kept is the parent
pub dims_same : (files : Files) (finder : RuleFinder) (parent : Option NodeId) → Recalls files finder → is_same_place finder.holder parent ≡ true
    → known_dims finder parent ≡ dims_under files (sizes_around finder.around.zone) parent
dims_same files finder parent recalls same =
    ap (λ b. if b then finder.dims else None) same
    ∙ recalls.dims
    ∙ ap (dims_under files (sizes_around finder.around.zone)) (same_place finder.holder parent same)

-- it is another, and rules speak of no arrays under the parent
pub dims_none : (files : Files) (finder : RuleFinder) (parent : Option NodeId) → is_same_place finder.holder parent ≡ false
    → dims_under files (sizes_around finder.around.zone) parent ≡ None
    → known_dims finder parent ≡ dims_under files (sizes_around finder.around.zone) parent
dims_none files finder parent other none = ap (λ b. if b then finder.dims else None) other ∙ sym none

-- a node that was read is known
pub dims_read : (files : Files) (finder : RuleFinder) (at : NodeId) → finder.holder ≡ Some at → finder.dims ≡ dims_under files (sizes_around finder.around.zone) (Some at)
    → known_dims finder (Some at) ≡ dims_under files (sizes_around finder.around.zone) (Some at)
dims_read files finder at holder dims =
    ap (λ h. if is_same_place h (Some at) then finder.dims else None) holder ∙ ap (λ b. if b then finder.dims else None) (same_self at) ∙ dims

-- the cause of a refusal behind questions
pub later_ask : (one two : Files) (a b c : Devices) (result : Result Unit AdfError) → OnlyAsks one a b two → HasAskCause two b c result → HasAskCause one a c result
later_ask one two a b c (Ok done) only cause = tt
later_ask one two a b c (Err error) only cause = later_cause (Unit {0}) (Unit {0}) one two a b c error only cause

-- what is kept around a node, where all three were read
pub around_kept : (files : Files) (seen : Seen) (before after : RuleFinder) (result : Result Unit AdfError)
    → before.around.base ≡ base_around files seen.base → before.around.zone ≡ option_map (zone_numbers files) seen.zone → ((q : ℕ) → note_of before.notes q ≡ note_around files seen.zone q)
    → after.around ≡ before.around → after.notes ≡ before.notes → AreDimsKept files seen.parent after result → IsAroundKept files seen after result
around_kept files seen before after (Ok done) base zone notes around kept dims = record {
  around = around ∙ around_is files files seen before.around refl base zone;
  notes = λ q. ap (λ (n : OverlapNotes). note_of n q) kept ∙ notes q;
  dims = dims ∙ ap (λ (z : Option ZoneNumbers). dims_under files (sizes_around z) seen.parent) (ap (λ (a : Surroundings). a.zone) around ∙ zone);
}
around_kept files seen before after (Err error) base zone notes around kept dims = dims

-- before the first node nothing is kept
pub recalls_first : (files : Files) (finder : RuleFinder) → finder.base ≡ None → finder.zone ≡ None → finder.around.base ≡ None → finder.around.zone ≡ None
    → ((q : ℕ) → note_of finder.notes q ≡ None) → finder.holder ≡ None → finder.dims ≡ None → Recalls files finder
recalls_first files finder base zone no_base no_zone no_notes holder no_dims = record {
  base = no_base ∙ sym (ap (base_around files) base);
  zone = no_zone ∙ sym (ap (option_map (zone_numbers files)) zone);
  notes = λ q. no_notes q ∙ sym (ap (λ z. note_around files z q) zone);
  dims = no_dims ∙ sym (ap (dims_under files (sizes_around finder.around.zone)) holder);
}
