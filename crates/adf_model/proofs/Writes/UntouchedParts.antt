-- What a group of edits leaves of the parts that it does not touch.
use Rattle.std.proofs.Common.{◌≡◌, ◌≢◌, ℕ, ◌+◌, ◌*◌, ◌/◌, ◌<◌, ◌≤◌, arith, Bool, true, false, List, [], refl, ◌∙◌, subst}
use Rattle.std.specs.Prelude.{Some, Ok, IfSome, IfOk, nat_le, nat_lt}
use Rattle.std.specs.List.{Contains}
use Rattle.std.proofs.lemmas.Bool.Decides.{nat_tests}
use Rattle.adf_format.specs.declared.types.Extent.{Extent}
use Rattle.adf_format.specs.Fields.{field}
use Rattle.adf_format.specs.Tree.{Tree}
use Rattle.adf_format.specs.Tiles.{end_of, cover}
use Rattle.adf_format.specs.Parts.{dimension_digits}
use Rattle.adf_format.specs.Placement.{Placement, NodeParts, parts_of, live_extents}
use Rattle.adf_format.specs.Changes.{heap_fields}
use Rattle.adf_format.proofs.FrameLaws.{field_kept}
use Rattle.adf_model.specs.declared.tree.Edit.{Edit}
use Rattle.adf_model.specs.declared.tree.NodeId.{NodeId}
use Rattle.adf_model.specs.Slots.{Open, Files, Devices, open_at}
use Rattle.adf_model.specs.Calls.{Group, edit_group}
use Rattle.adf_model.specs.Steps.{OfGroup, LeavesUntouched, IsUntouchedGroup}
use Rattle.adf_model.specs.Untouched.{header_extent, touched_extents, StaysBut, StaysBeside, Stays, KeepsHead, KeepsDims, group_shaped}

-- ---- the head

before_heap : (b : ℕ) → b < 146 → cover heap_fields b ≡ 0
before_heap b low =
    let one : nat_le 146 b ≡ false = grind (arith, nat_tests) in
    let two : nat_le 186 b ≡ false = grind (arith, nat_tests) in
    rw (one, two) refl

between_heap : (b : ℕ) → 158 ≤ b → b < 186 → cover heap_fields b ≡ 0
between_heap b low high =
    let one : nat_lt b 158 ≡ false = grind (arith, nat_tests) in
    let one_begins : nat_le 146 b ≡ true = grind (arith, nat_tests) in
    let two : nat_le 186 b ≡ false = grind (arith, nat_tests) in
    rw (one_begins, one, two) refl

pub front_stays : (old new : List ℕ) → KeepsHead old new → field new 0 146 ≡ field old 0 146
front_stays old new keeps = field_kept 146 0 old new (λ b low high. keeps b (omega (arith, high)) (before_heap b (omega (arith, high))))

pub date_stays : (old new : List ℕ) → KeepsHead old new → field new 36 28 ≡ field old 36 28
date_stays old new keeps = field_kept 28 36 old new (λ b low high. keeps b (omega (arith, high)) (before_heap b (omega (arith, high))))

pub behind_stays : (old new : List ℕ) → KeepsHead old new → field new 158 28 ≡ field old 158 28
behind_stays old new keeps = field_kept 28 158 old new (λ b low high. keeps b (omega (arith, high)) (between_heap b low (omega (arith, high))))

-- ---- parts

not_in_none : {A : Type 0} (a : A) → Contains [] a → ⊥
not_in_none a h = none h.0 h.1
  where
    none : (k : ℕ) → k < 0 → ⊥
    none k lt = omega (arith, lt)

pub all_stay : (wide : Bool) (p q : Placement) (old new : List ℕ) (e : Extent) → StaysBut [] wide p q old new → Contains (live_extents wide p) e → Contains (live_extents wide q) e × (field new e.place e.length ≡ field old e.place e.length)
all_stay wide p q old new e stays live = stays e live (not_in_none e)

pub header_stays : (tree : Tree) (p q : Placement) (edit : Edit) (old new : List ℕ) (serial : ℕ) → Stays tree p edit q old new
    → Contains (live_extents tree.wide p) (header_extent tree.wide p serial) → (Contains (touched_extents tree p edit) (header_extent tree.wide p serial) → ⊥)
    → field new (header_extent tree.wide p serial).place (header_extent tree.wide p serial).length ≡ field old (header_extent tree.wide p serial).place (header_extent tree.wide p serial).length
header_stays tree p q edit old new serial stays live free = (stays (header_extent tree.wide p serial) live free).1

pub two_stay : (first second : List Extent) (wide : Bool) (p q r : Placement) (old between new : List ℕ) (e : Extent) → StaysBut first wide p q old between → StaysBut second wide q r between new
    → Contains (live_extents wide p) e → (Contains first e → ⊥) → (Contains second e → ⊥) → Contains (live_extents wide r) e × (field new e.place e.length ≡ field old e.place e.length)
two_stay first second wide p q r old between new e stays then live free free_then =
    let once = stays e live free in
    let twice = then e once.0 free_then in
    (twice.0, twice.1 ∙ once.1)

pub beside_stays : (torn : ℕ) (touched : List Extent) (wide : Bool) (p : Placement) (old new : List ℕ) (e : Extent) → StaysBeside torn touched wide p old new → Contains (live_extents wide p) e → (Contains touched e → ⊥)
    → ((b : ℕ) → e.place ≤ b → b < end_of e → b / 4096 ≢ torn) → field new e.place e.length ≡ field old e.place e.length
beside_stays torn touched wide p old new e stays live free away = field_kept e.length e.place old new (λ b low high. stays e b live free low high (away b low high))

pub dims_stay : (wide : Bool) (p q : Placement) (old new : List ℕ) (serial : ℕ) (from to : NodeParts) → KeepsDims (group_shaped []) wide p q old new → parts_of p serial ≡ Some from → parts_of q serial ≡ Some to
    → field new (to.header + 130) (12 * dimension_digits wide) ≡ field old (from.header + 130) (12 * dimension_digits wide)
dims_stay wide p q old new serial from to keeps here there = keeps serial from to (not_in_none serial) here there

-- ---- groups

-- a fact of a group that is not refused
pub of_group : (files : Files) (edits : List Edit) (Fact : ℕ → Open → Group → Type 0) (group : Group) (number : ℕ) (opened : Open) → OfGroup files edits Fact → edit_group files edits ≡ Ok group → group.file ≡ Some number → open_at files number ≡ Some opened
    → Fact number opened group
of_group files edits Fact group number opened h through file live =
    let of_file = subst (λ r. IfOk r (λ (g : Group). IfSome g.file (λ (n : ℕ). IfSome (open_at files n) (λ (o : Open). Fact n o g)))) through h in
    let of_open = subst (λ f. IfSome f (λ (n : ℕ). IfSome (open_at files n) (λ (o : Open). Fact n o group))) file of_file in
    subst (λ s. IfSome s (λ (o : Open). Fact number o group)) live of_open

pub group_leaves : (files : Files) (before now : Devices) (edits : List Edit) (created : List NodeId) (group : Group) (number : ℕ) (opened : Open)
    → IsUntouchedGroup files before edits (Ok created) now → edit_group files edits ≡ Ok group → group.file ≡ Some number → open_at files number ≡ Some opened → LeavesUntouched before now number opened group
group_leaves files before now edits created group number opened = of_group files edits (LeavesUntouched before now) group number opened
