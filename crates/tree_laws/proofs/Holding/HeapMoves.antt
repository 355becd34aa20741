-- The heap takes a range or is given one: what the file holds stays, and the range is taken or is none's any more.
use Rattle.std.proofs.Common.{◌≡◌, ◌⊎◌, inl, inr, ℕ, zero, suc, refl, sym, ◌∙◌, ap, subst, arith, List, [], ◌∷◌, ◌++◌, length, get_or, filter, map, ◌+◌, ◌-◌, ◌*◌, ◌<◌, ◌≤◌, Bool, true, false, cond, min}
use Rattle.std.proofs.lemmas.Bool.Decides.{nat_tests}
use Rattle.std.specs.Prelude.{Option, Some, slice_get, is_some, IsTrue, ◌==◌, ◌&&◌}
use Rattle.adf_format.specs.declared.types.Extent.{Extent}
use Rattle.adf_format.specs.declared.types.Format.{Format}
use Rattle.adf_format.specs.declared.fields.TheConstants.{HEADER_END}
use Rattle.adf_format.specs.RecordFields.{field_in}
use Rattle.adf_format.specs.Hex.{is_hex}
use Rattle.adf_format.specs.Pointer.{PointsTo, pointer}
use Rattle.adf_format.specs.Fields.{field}
use Rattle.adf_format.specs.Tree.{Tree}
use Rattle.adf_format.specs.Tiles.{cover, end_of, is_filler, is_free, holds_byte}
use Rattle.adf_format.specs.Parts.{SpellsHeader, SpellsFree, IsFiller}
use Rattle.adf_format.specs.Placement.{Placement, NodeParts, parts_of, node_extents, live_extents, head_extents, all_extents}
use Rattle.adf_format.specs.LaysOut.{AreGapsInOrder, ThreadsFreeChunks, IsThreaded, count_of, first_place}
use Rattle.adf_format.proofs.BehindEnd.{long_node, counts_itself, count_append}
use Rattle.adf_format.proofs.LayoutLaws.{one_of}
use Rattle.adf_format.proofs.FieldLaws.{length-field}
use Rattle.adf_format.proofs.FrameLaws.{field_kept, field_of_first, holds_kept}
use Rattle.adf_model.proofs.Creation.PartsApart.{range_in, all_apart, cover_all}
use Rattle.adf_model.proofs.Creation.FillerBytes.{filler_of}
use Rattle.adf_model.proofs.Writes.Reaches.{less_or}
use Rattle.tree_laws.specs.Holding.{Holds, MovesHeap}
use Rattle.tree_laws.proofs.Holding.Steps.{within, keeps_but}

-- ---- the file header, where its end pointer alone changes

pub header_moved : (wide : Bool) (format : Format) (root end last : ℕ) (old new : List ℕ) → ((b : ℕ) → b < 186 → (b < 146) ⊎ (158 ≤ b) → slice_get new b ≡ slice_get old b) → PointsTo (field_in new HEADER_END) last
    → SpellsHeader (field old 0 186) wide format root end → SpellsHeader (field new 0 186) wide format root last
header_moved wide format root end last old new same points s = record {
  what = before 0 25 (omega arith) ∙ s.what;
  letter = before 25 1 (omega arith) ∙ s.letter;
  what_end = before 31 1 (omega arith) ∙ s.what_end;
  tag_0 = before 32 4 (omega arith) ∙ s.tag_0;
  tag_1 = before 64 4 (omega arith) ∙ s.tag_1;
  tag_2 = before 96 4 (omega arith) ∙ s.tag_2;
  numbers = before 100 1 (omega arith) ∙ s.numbers;
  tag_3 = before 102 4 (omega arith) ∙ s.tag_3;
  sizes = λ k lt. subst (λ bytes. IsTrue (is_hex bytes)) (sym (before (106 + 2 * k) 2 (omega (arith, lt)))) (s.sizes k lt);
  tag_4 = before 130 4 (omega arith) ∙ s.tag_4;
  root_pointer = ap pointer (before 134 12 (omega arith)) ∙ s.root_pointer;
  end_pointer = ap pointer (field_of_first 12 146 186 new (omega arith)) ∙ points;
  free_table = ap pointer (behind 158 12 (omega arith) (omega arith)) ∙ s.free_table;
  tag_5 = behind 182 4 (omega arith) (omega arith) ∙ s.tag_5;
}
  where
    before : (o n : ℕ) → o + n ≤ 146 → field (field new 0 186) o n ≡ field (field old 0 186) o n
    before o n le =
        field_of_first n o 186 new (omega (arith, le)) ∙ field_kept n o old new (λ b low high. same b (omega (arith, le, high)) (inl (omega (arith, le, high)))) ∙ sym (field_of_first n o 186 old (omega (arith, le)))

    behind : (o n : ℕ) → 158 ≤ o → o + n ≤ 186 → field (field new 0 186) o n ≡ field (field old 0 186) o n
    behind o n from le =
        field_of_first n o 186 new le ∙ field_kept n o old new (λ b low high. same b (omega (arith, le, high)) (inr (omega (arith, from, low)))) ∙ sym (field_of_first n o 186 old le)

-- ---- the bytes of gaps

-- a free chunk lies within the bytes, since its last four are a tag
free_within : (bytes : List ℕ) (place size : ℕ) (next : Option ℕ) → SpellsFree (field bytes place size) place size next → place + size ≤ length bytes
free_within bytes place size next s =
    let long : 32 ≤ size = s.long in
    let four : length (field (field bytes place size) (size - 4) 4) ≡ 4 = ap length s.framed.end_tag in
    let inner : length (field (field bytes place size) (size - 4) 4) ≡ min 4 (length (field bytes place size) - (size - 4)) = length-field (field bytes place size) (size - 4) 4 in
    let outer : length (field bytes place size) ≡ min size (length bytes - place) = length-field bytes place size in
    omega (arith, long, four, inner, outer)

count_in : (place n : ℕ) (f : Extent) (fs : List Extent) → 0 < count_of place n (f ∷ fs) → ((f.place ≡ place) × (f.length ≡ n)) ⊎ (0 < count_of place n fs)
count_in place n f fs some = decide (f.place == place) refl (f.length == n) refl some
  where
    decide : (t : Bool) → (f.place == place) ≡ t → (u : Bool) → (f.length == n) ≡ u → 0 < cond (t && u) 1 0 + count_of place n fs → ((f.place ≡ place) × (f.length ≡ n)) ⊎ (0 < count_of place n fs)
    decide true at true long some = inl (grind (arith, nat_tests), grind (arith, nat_tests))
    decide true at false long some = inr (omega (arith, some))
    decide false at u long some = inr (omega (arith, some))

threaded_within : (image : List ℕ) (fs : List Extent) (place n : ℕ) → IsThreaded image fs → 0 < count_of place n fs → place + n ≤ length image
threaded_within image [] place n h some = absurd (omega (arith, some))
threaded_within image (f ∷ fs) place n h some = elim (count_in place n f fs some) [
  | inl e ↦ (let le = free_within image f.place f.length (first_place fs) h.0 in let at = e.0 in let long = e.1 in omega (arith, le, at, long))
  | inr more ↦ threaded_within image fs place n h.1 more
]

-- the bytes of free chunks are held
pub free_held : (image : List ℕ) (gaps : List Extent) → ThreadsFreeChunks image gaps → (k b : ℕ) (g : Extent) → slice_get (filter is_free gaps) k ≡ Some g → b < end_of g → b < length image
free_held image gaps t k b g e high =
    let some : 0 < count_of g.place g.length (filter is_free gaps) = counted (filter is_free gaps) k g e in
    let listed : 0 < count_of g.place g.length (t.small ++ t.medium ++ t.large) = subst (λ n. 0 < n) (sym (t.all g.place g.length)) some in
    by_list (let s = three in omega (arith, s, listed))
  where
    three : count_of g.place g.length (t.small ++ t.medium ++ t.large) ≡ count_of g.place g.length t.small + count_of g.place g.length t.medium + count_of g.place g.length t.large
    three = count_append g.place g.length (t.small ++ t.medium) t.large ∙ ap (λ k. k + count_of g.place g.length t.large) (count_append g.place g.length t.small t.medium)

    counted : (xs : List Extent) (k : ℕ) (g : Extent) → slice_get xs k ≡ Some g → 0 < count_of g.place g.length xs
    counted [] k g e = cc
    counted (x ∷ xs) zero g e = subst (λ (y : Extent). 0 < count_of g.place g.length (y ∷ xs)) (same g x e) (counts_itself g xs)
      where
        same : (g x : Extent) → Some x ≡ Some g → g ≡ x
        same g x e = cc
    counted (x ∷ xs) (suc k) g e = let ih = counted xs k g e in plain (cond ((x.place == g.place) && (x.length == g.length)) 1 0) (count_of g.place g.length xs) ih
      where
        plain : (a b : ℕ) → 0 < b → 0 < a + b
        plain a b h = omega (arith, h)

    by_list : 0 < count_of g.place g.length t.small + count_of g.place g.length t.medium + count_of g.place g.length t.large → b < length image
    by_list h = elim (less_or 0 (count_of g.place g.length t.small)) [
      | inl s ↦ (let le = threaded_within image t.small g.place g.length t.each.0 s in omega (arith, le, high))
      | inr s ↦ elim (less_or 0 (count_of g.place g.length t.medium)) [
        | inl m ↦ (let le = threaded_within image t.medium g.place g.length t.each.1 m in omega (arith, le, high))
        | inr m ↦ (let le = threaded_within image t.large g.place g.length t.each.2 (omega (arith, h, s, m)) in omega (arith, le, high))
      ]
    ]

-- a byte is one of a free chunk or of a filler
abbrev Kind : ℕ → List Extent → Type 0
Kind b xs = ((k : ℕ) × (g : Extent) × (slice_get (filter is_free xs) k ≡ Some g) × (b < end_of g)) ⊎ (0 < cover (filter is_filler xs) b)

gap_kinds : (gaps : List Extent) → AreGapsInOrder gaps → (b : ℕ) → 0 < cover gaps b → Kind b gaps
gap_kinds [] o b some = absurd (omega (arith, some))
gap_kinds (g ∷ gs) o b some = by_byte (holds_byte g b) refl some (gap_kinds gs o.2 b)
  where
    later : (t : Bool) → is_free g ≡ t → (u : Bool) → is_filler g ≡ u → Kind b gs → ((k : ℕ) × (h : Extent) × (slice_get (cond t (g ∷ filter is_free gs) (filter is_free gs)) k ≡ Some h) × (b < end_of h)) ⊎ (0 < cover (cond u (g ∷ filter is_filler gs) (filter is_filler gs)) b)
    later true e u f (inl h) = inl (suc h.0, h.1, h.2, h.3)
    later false e u f (inl h) = inl (h.0, h.1, h.2, h.3)
    later t e true f (inr h) = inr (plain (cond (holds_byte g b) 1 0) (cover (filter is_filler gs) b) h)
      where
        plain : (x y : ℕ) → 0 < y → 0 < x + y
        plain x y h = omega (arith, h)
    later t e false f (inr h) = inr h

    here : holds_byte g b ≡ true → (t : Bool) → is_free g ≡ t → (u : Bool) → is_filler g ≡ u → (IsTrue t ⊎ IsTrue u)
        → ((k : ℕ) × (h : Extent) × (slice_get (cond t (g ∷ filter is_free gs) (filter is_free gs)) k ≡ Some h) × (b < end_of h)) ⊎ (0 < cover (cond u (g ∷ filter is_filler gs) (filter is_filler gs)) b)
    here held true e u f k = inl (zero, g, refl, grind (arith, nat_tests))
    here held false e true f k = inr (let one = ap (λ (t : Bool). cond {A = ℕ} t 1 0) held in omega (arith, one))
    here held false e false f (inl k) = cc
    here held false e false f (inr k) = cc

    kinds : IsTrue (is_free g) ⊎ IsTrue (is_filler g)
    kinds = elim o.0.1 [ inl h ↦ inl h.0 | inr h ↦ inr h ]

    by_byte : (t : Bool) → holds_byte g b ≡ t → 0 < cond t 1 0 + cover gs b → (0 < cover gs b → Kind b gs) → Kind b (g ∷ gs)
    by_byte true e some rest = here e (is_free g) refl (is_filler g) refl kinds
    by_byte false e some rest = later (is_free g) refl (is_filler g) refl (rest (omega (arith, some)))

within_length : (xs : List ℕ) (b v : ℕ) → slice_get xs b ≡ Some v → b < length xs
within_length [] b v e = cc
within_length (x ∷ xs) zero v e = omega arith
within_length (x ∷ xs) (suc b) v e = let ih : b < length xs = within_length xs b v e in omega (arith, ih)

-- each byte of the gaps is held
pub gaps_held : (image : List ℕ) (gaps : List Extent) → AreGapsInOrder gaps → ThreadsFreeChunks image gaps → ((b : ℕ) → 0 < cover (filter is_filler gaps) b → slice_get image b ≡ Some 122) → (b : ℕ) → 0 < cover gaps b → b < length image
gaps_held image gaps o t z b some = elim (gap_kinds gaps o b some) [
  | inl h ↦ free_held image gaps t h.0 b h.1 h.2 h.3
  | inr h ↦ within_length image b 122 (z b h)
]

cover_filler : (gaps : List Extent) (k b : ℕ) (g : Extent) → slice_get gaps k ≡ Some g → IsTrue (is_filler g) → g.place ≤ b → b < end_of g → 0 < cover (filter is_filler gaps) b
cover_filler [] k b g e f low high = cc
cover_filler (x ∷ xs) zero b g e f low high = by_kind (is_filler x) (same (Some x) e ∙ f) (subst (λ (y : Extent). 0 < cover (y ∷ filter is_filler xs) b) (sym (same_gap x g e)) (let held = range_in g.place g.length b low high in omega (arith, held)))
  where
    same_gap : (x g : Extent) → Some x ≡ Some g → x ≡ g
    same_gap x g e = cc

    same : (o : Option Extent) → Some x ≡ Some g → is_filler x ≡ is_filler g
    same o e = ap is_filler (same_gap x g e)

    by_kind : (t : Bool) → t ≡ true → 0 < cover (x ∷ filter is_filler xs) b → 0 < cover (cond t (x ∷ filter is_filler xs) (filter is_filler xs)) b
    by_kind true e h = h
    by_kind false e h = cc
cover_filler (x ∷ xs) (suc k) b g e f low high = by_kind (is_filler x) (cover_filler xs k b g e f low high)
  where
    by_kind : (t : Bool) → 0 < cover (filter is_filler xs) b → 0 < cover (cond t (x ∷ filter is_filler xs) (filter is_filler xs)) b
    by_kind true h = plain (cond (holds_byte x b) 1 0) (cover (filter is_filler xs) b) h
      where
        plain : (x y : ℕ) → 0 < y → 0 < x + y
        plain x y h = omega (arith, h)
    by_kind false h = h

pub fillers_spelled : (image : List ℕ) (gaps : List Extent) → ((b : ℕ) → 0 < cover (filter is_filler gaps) b → slice_get image b ≡ Some 122) → (k : ℕ) (g : Extent) → slice_get gaps k ≡ Some g → IsTrue (is_filler g) → IsFiller (field image g.place g.length)
fillers_spelled image gaps z k g e f = filler_of g.length g.place image (λ b low high. z b (cover_filler gaps k b g e f low high))

-- a byte that is read, and is not 0, stands there
there_of : (xs : List ℕ) (b : ℕ) → get_or xs b 0 ≡ 122 → slice_get xs b ≡ Some 122
there_of [] b e = absurd (omega (arith, e))
there_of (x ∷ xs) zero e = ap Some e
there_of (x ∷ xs) (suc b) e = there_of xs b e

-- ---- the heap moves

module _ (ranges : List Extent) (tree : Tree) (p q : Placement) (taken kept : List Extent) (old new : List ℕ) (h : Holds old tree p taken) (m : MovesHeap ranges tree p q kept old new) where
  same_live : live_extents tree.wide q ≡ live_extents tree.wide p
  same_live = ap (λ (xs : List (Option NodeParts)). live_extents tree.wide (record { parts = xs; heap = p.heap })) m.parts

  in_head : (b : ℕ) → b < 186 → 0 < cover head_extents b
  in_head b lt = let held = range_in 0 186 b (omega arith) (omega (arith, lt)) in omega (arith, held)

  filled : (b : ℕ) → 0 < cover (filter is_filler q.heap.gaps) b → slice_get new b ≡ Some 122
  filled b some = there_of new b (m.fillers b some)

  pub moved : Holds new tree q kept
  moved = record {
    is_tree = h.is_tree;
    beyond = λ b le. none b le (less_or 0 (cover (all_extents tree.wide q) b));
    header = (
      h.header.0,
      ap (λ (xs : List (Option NodeParts)). parts_of (record { parts = xs; heap = q.heap }) 0) m.parts ∙ h.header.1,
      header_moved tree.wide tree.format h.header.0.header p.heap.end q.heap.end old new
          (λ b lt out. m.changes.others b (within old tree p taken h b (let i = in_head b lt in let all = cover_all tree.wide p b in omega (arith, i, all))) (m.head b lt out)) m.end h.header.2,
    );
    same_nodes = ap (map is_some) m.parts ∙ h.same_nodes;
    nodes = λ serial node parts at placed.
        let was : parts_of p serial ≡ Some parts = sym (ap (λ (xs : List (Option NodeParts)). parts_of (record { parts = xs; heap = q.heap }) serial) m.parts) ∙ placed in
        holds_kept ranges (length old - 1) old new (keeps_but old tree p taken h ranges new m.changes) tree tree p q node parts refl
        (all_apart ranges (length old - 1) (node_extents tree.wide parts) (long_node old tree p node parts (h.nodes serial node parts at was)) (λ b some.
        let live = one_of tree.wide p.parts serial b parts was in
        let all = cover_all tree.wide p b in
        ((let lt = within old tree p taken h b (omega (arith, live, all, some)) in omega (arith, lt)), m.apart b (omega (arith, live, some)))))
        (λ i child now at e f g. (now, at, f, sym (ap (λ (xs : List (Option NodeParts)). parts_of (record { parts = xs; heap = q.heap }) child) m.parts) ∙ g, refl, refl))
        (h.nodes serial node parts at was);
    tiles = m.tiles;
    gaps = m.gaps;
    fillers = fillers_spelled new q.heap.gaps filled;
    threads = m.threads;
  }
    where
      held : (b : ℕ) → 0 < cover (all_extents tree.wide q) b → b < length new
      held b some = elim (less_or 0 (cover q.heap.gaps b)) [
        | inl gap ↦ gaps_held new q.heap.gaps m.gaps m.threads filled b gap
        | inr free ↦ (
            let now = cover_all tree.wide q b in
            let was = cover_all tree.wide p b in
            let same : cover (live_extents tree.wide q) b ≡ cover (live_extents tree.wide p) b = ap (λ (xs : List Extent). cover xs b) same_live in
            let lt = within old tree p taken h b (omega (arith, now, was, same, some, free)) in
            let l = m.changes.longer in omega (arith, lt, l))
      ]

      none : (b : ℕ) → length new ≤ b → (0 < cover (all_extents tree.wide q) b) ⊎ (cover (all_extents tree.wide q) b ≤ 0) → cover (all_extents tree.wide q) b ≡ 0
      none b le (inl some) = absurd (let lt = held b some in omega (arith, lt, le))
      none b le (inr free) = omega (arith, free)
