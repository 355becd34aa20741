-- What taking and giving bytes does to the heap.
use Rattle.std.proofs.Common.{add_assoc, ◌≡◌, ◌⊎◌, inl, inr, ℕ, refl, sym, ◌∙◌, ap, subst, arith, List, [], ◌∷◌, ◌++◌, ◌+◌, ◌-◌, ◌*◌, ◌<◌, ◌≤◌, Bool, true, false, cond}
use Rattle.std.proofs.lemmas.Bool.Decides.{nat_tests, leb_tells}
use Rattle.std.specs.Prelude.{Option, Some, None, Result, Ok, Err, find, nat_lt}
use Rattle.std.specs.List.{AllByRecursion}
use Rattle.adf_format.specs.declared.types.Extent.{Extent}
use Rattle.adf_format.specs.declared.types.ExtentKind.{ExtentKind}
use Rattle.adf_format.specs.Tiles.{Tiles, cover, end_of, MeetsNone, holds_byte}
use Rattle.adf_format.specs.Placement.{Heap, extent}
use Rattle.adf_format.specs.LaysOut.{AreGapsInOrder}
use Rattle.adf_format.specs.HeapRule.{cut, is_fit, pairs, heap_take, heap_give, take_from, give_joined, LimitReached}
use Rattle.adf_format.proofs.HeapLaws.{in_range, cover-cut, cover-give_joined}
use Rattle.adf_format.proofs.GapLaws.{cut_in_order, cut_adds_none}
use Rattle.adf_format.proofs.GiveLaws.{IsApartFrom, give_in_order, give_adds_none}
use Rattle.adf_format.proofs.CountLaws.{none_holds}

up_to : (a b : ℕ) → (a ≤ b) ⊎ (b < a)
up_to a b = elim (leb_tells a b) [ inl h ↦ inl h.1 | inr h ↦ inr h.1 ]

-- ---- what a take does

-- where bytes were taken: the front of a gap, or behind the end
abbrev pub TakenFrom : ℕ → ℕ → Heap → ℕ → Heap → Type 0
TakenFrom limit n heap place after =
    ((g : Extent) × (find (is_fit n) heap.gaps ≡ Some g) × (place ≡ g.place) × (after.gaps ≡ cut n heap.gaps) × (after.end ≡ heap.end))
    ⊎ ((find (is_fit n) heap.gaps ≡ None) × (place ≡ heap.end + 1) × (after.gaps ≡ heap.gaps) × (after.end ≡ heap.end + n))

not_taken : {A : Type 0} (e : LimitReached) (a : A) → ◌≡◌ {A = Result A LimitReached} (Err e) (Ok a) → ⊥
not_taken e a h = cc

same_taken : {A : Type 0} (a b : A) → ◌≡◌ {A = Result A LimitReached} (Ok a) (Ok b) → a ≡ b
same_taken a b h = cc

taken : (limit n : ℕ) (heap : Heap) (o : Option Extent) (place : ℕ) (after : Heap) → find (is_fit n) heap.gaps ≡ o → take_from limit n heap o ≡ Ok (place, after) → TakenFrom limit n heap place after
taken limit n heap (Some g) place after found e =
    let same : (g.place, record heap { gaps = cut n heap.gaps }) ≡ (place, after) = same_taken _ _ e in
    inl (g, found, sym (ap (λ t. t.0) same), sym (ap (λ (t : ℕ × Heap). t.1.gaps) same), sym (ap (λ (t : ℕ × Heap). t.1.end) same))
taken limit n heap None place after found e = by_limit (nat_lt (limit * 4096) (heap.end + 1 + n)) e
  where
    by_limit : (t : Bool) → cond {A = Result (ℕ × Heap) LimitReached} t (Err (record { asked = n; end = heap.end })) (Ok (heap.end + 1, record heap { end = heap.end + n })) ≡ Ok (place, after) → TakenFrom limit n heap place after
    by_limit true e = absurd (not_taken (record { asked = n; end = heap.end }) (place, after) e)
    by_limit false e =
        let same : (heap.end + 1, record heap { end = heap.end + n }) ≡ (place, after) = same_taken _ _ e in
        inr (found, sym (ap (λ t. t.0) same), sym (ap (λ (t : ℕ × Heap). t.1.gaps) same), sym (ap (λ (t : ℕ × Heap). t.1.end) same))

pub take_tells : (limit n : ℕ) (heap : Heap) (place : ℕ) (after : Heap) → heap_take limit n heap ≡ Ok (place, after) → TakenFrom limit n heap place after
take_tells limit n heap place after e = taken limit n heap (find (is_fit n) heap.gaps) place after refl e

-- ---- each byte

pub cover-append : (xs ys : List Extent) (b : ℕ) → cover (xs ++ ys) b ≡ cover xs b + cover ys b
cover-append [] ys b = omega arith
cover-append (x ∷ xs) ys b = ap (λ n. in_range x.place x.length b + n) (cover-append xs ys b) ∙ sym (add_assoc (in_range x.place x.length b) (cover xs b) (cover ys b))

-- the gaps before, and the bytes that the end grew by, are what is taken and the gaps after
pub cover-take : (limit n : ℕ) (heap : Heap) (place : ℕ) (after : Heap) → heap_take limit n heap ≡ Ok (place, after) → (b : ℕ)
    → cover heap.gaps b + in_range (heap.end + 1) (after.end - heap.end) b ≡ in_range place n b + cover after.gaps b
cover-take limit n heap place after e b = elim (take_tells limit n heap place after e) [
  | inl t ↦ in_gap t.0 t.1 t.2 t.3 t.4
  | inr t ↦ at_end t.1 t.2 t.3
]
  where
    nothing : (p b : ℕ) → in_range p (heap.end - heap.end) b ≡ 0
    nothing p b = grind (arith, nat_tests)

    in_gap : (g : Extent) → find (is_fit n) heap.gaps ≡ Some g → place ≡ g.place → after.gaps ≡ cut n heap.gaps → after.end ≡ heap.end
        → cover heap.gaps b + in_range (heap.end + 1) (after.end - heap.end) b ≡ in_range place n b + cover after.gaps b
    in_gap g found at gaps end =
        ap (λ (k : ℕ). cover heap.gaps b + in_range (heap.end + 1) (k - heap.end) b) end
        ∙ ap (λ k. cover heap.gaps b + k) (nothing (heap.end + 1) b) ∙ plain (cover heap.gaps b)
        ∙ cover-cut n heap.gaps g b found
        ∙ ap (λ k. in_range k n b + cover (cut n heap.gaps) b) (sym at) ∙ ap (λ xs. in_range place n b + cover xs b) (sym gaps)
      where
        plain : (k : ℕ) → k + 0 ≡ k
        plain k = omega arith

    at_end : place ≡ heap.end + 1 → after.gaps ≡ heap.gaps → after.end ≡ heap.end + n → cover heap.gaps b + in_range (heap.end + 1) (after.end - heap.end) b ≡ in_range place n b + cover after.gaps b
    at_end at gaps end =
        let grown : after.end - heap.end ≡ n = omega (arith, end) in
        rw (gaps, at, grown) (plain (cover heap.gaps b) (in_range (heap.end + 1) n b))
      where
        plain : (a b : ℕ) → a + b ≡ b + a
        plain a b = omega arith

-- the end never falls
pub take_end : (limit n : ℕ) (heap : Heap) (place : ℕ) (after : Heap) → heap_take limit n heap ≡ Ok (place, after) → heap.end ≤ after.end
take_end limit n heap place after e = elim (take_tells limit n heap place after e) [
  | inl t ↦ (let end : after.end ≡ heap.end = t.4 in omega (arith, end))
  | inr t ↦ (let end : after.end ≡ heap.end + n = t.3 in omega (arith, end))
]

-- ---- tiles

-- what is taken is a new extent, and all tile the file as before
pub take_tiles : (limit n : ℕ) (heap : Heap) (place : ℕ) (after : Heap) (kind : ExtentKind) (used : List Extent) → heap_take limit n heap ≡ Ok (place, after)
    → Tiles (used ++ heap.gaps) heap.end → Tiles (extent kind place n ∷ used ++ after.gaps) after.end
take_tiles limit n heap place after kind used e t = record { once = λ b le. once b le (up_to b heap.end); inside = λ b gt. inside b gt }
  where
    same : (b : ℕ) → cover (extent kind place n ∷ used ++ after.gaps) b ≡ cover (used ++ heap.gaps) b + in_range (heap.end + 1) (after.end - heap.end) b
    same b =
        ap (λ k. in_range place n b + k) (cover-append used after.gaps b)
        ∙ plain (in_range place n b) (cover used b) (cover after.gaps b) (cover heap.gaps b) (in_range (heap.end + 1) (after.end - heap.end) b) (cover-take limit n heap place after e b)
        ∙ ap (λ k. k + in_range (heap.end + 1) (after.end - heap.end) b) (sym (cover-append used heap.gaps b))
      where
        plain : (p u a g r : ℕ) → g + r ≡ p + a → p + (u + a) ≡ u + g + r
        plain p u a g r h = omega (arith, h)

    old_byte : (b end : ℕ) → b ≤ heap.end → in_range (heap.end + 1) (end - heap.end) b ≡ 0
    old_byte b end le = grind (arith, nat_tests)

    new_byte : (b end : ℕ) → heap.end < b → b ≤ end → in_range (heap.end + 1) (end - heap.end) b ≡ 1
    new_byte b end gt le = grind (arith, nat_tests)

    past_byte : (b end : ℕ) → end < b → heap.end ≤ end → in_range (heap.end + 1) (end - heap.end) b ≡ 0
    past_byte b end gt le = grind (arith, nat_tests)

    once : (b : ℕ) → b ≤ after.end → (b ≤ heap.end) ⊎ (heap.end < b) → cover (extent kind place n ∷ used ++ after.gaps) b ≡ 1
    once b le (inl h) = let one : cover (used ++ heap.gaps) b ≡ 1 = t.once b h in same b ∙ rw (one, old_byte b after.end h) refl
    once b le (inr h) = let none : cover (used ++ heap.gaps) b ≡ 0 = t.inside b h in same b ∙ rw (none, new_byte b after.end h le) refl

    inside : (b : ℕ) → after.end < b → cover (extent kind place n ∷ used ++ after.gaps) b ≡ 0
    inside b gt =
        let grows : heap.end ≤ after.end = take_end limit n heap place after e in
        let none : cover (used ++ heap.gaps) b ≡ 0 = t.inside b (omega (arith, grows, gt)) in same b ∙ rw (none, past_byte b after.end gt grows) refl

-- what is given is a gap, and all tile the file as before
pub give_tiles : (place n : ℕ) (heap : Heap) (kind : ExtentKind) (used : List Extent) → Tiles (extent kind place n ∷ used ++ heap.gaps) heap.end → Tiles (used ++ (heap_give place n heap).gaps) heap.end
give_tiles place n heap kind used t = record { once = λ b le. same b ∙ t.once b le; inside = λ b gt. same b ∙ t.inside b gt }
  where
    same : (b : ℕ) → cover (used ++ give_joined place n heap.gaps) b ≡ cover (extent kind place n ∷ used ++ heap.gaps) b
    same b =
        cover-append used (give_joined place n heap.gaps) b ∙ ap (λ k. cover used b + k) (cover-give_joined place n heap.gaps b)
        ∙ plain (cover used b) (in_range place n b) (cover heap.gaps b) ∙ ap (λ k. in_range place n b + k) (sym (cover-append used heap.gaps b))
      where
        plain : (u r g : ℕ) → u + (r + g) ≡ r + (u + g)
        plain u r g = omega arith

-- ---- gaps in order, and pairs

pub take_keeps_order : (limit n : ℕ) (heap : Heap) (place : ℕ) (after : Heap) → 0 < n → AreGapsInOrder heap.gaps → heap_take limit n heap ≡ Ok (place, after) → AreGapsInOrder after.gaps × (pairs after.gaps ≤ pairs heap.gaps)
take_keeps_order limit n heap place after pos o e = elim (take_tells limit n heap place after e) [
  | inl t ↦ subst (λ (xs : List Extent). AreGapsInOrder xs × (pairs xs ≤ pairs heap.gaps)) (sym t.3) ((cut_in_order n heap.gaps pos o).0, (cut_adds_none n heap.gaps pos o).0)
  | inr t ↦ subst (λ (xs : List Extent). AreGapsInOrder xs × (pairs xs ≤ pairs heap.gaps)) (sym t.2) (o, omega arith)
]

-- a range with a byte meets none of the gaps that cover none of its bytes
apart_from : (place n : ℕ) (g : Extent) → 0 < n → 0 < g.length → ((b : ℕ) → place ≤ b → b < place + n → holds_byte g b ≡ false) → IsApartFrom place n g
apart_from place n g pos long none = elim (leb_tells (end_of g) place) [
  | inl h ↦ inl h.1
  | inr h ↦ elim (leb_tells (place + n) g.place) [
    | inl k ↦ inr k.1
    | inr k ↦ absurd (elim (up_to g.place place) [ inl m ↦ clash m h.1 | inr m ↦ behind k.1 m ])
  ]
]
  where
    clash : g.place ≤ place → place < end_of g → ⊥
    clash m h = let out : holds_byte g place ≡ false = none place (omega arith) (omega (arith, pos)) in grind (arith, nat_tests)

    behind : g.place < place + n → place < g.place → ⊥
    behind k m = let out : holds_byte g g.place ≡ false = none g.place (omega (arith, m)) k in grind (arith, nat_tests)

pub cover_apart : (place n : ℕ) (gaps : List Extent) → 0 < n → AreGapsInOrder gaps → MeetsNone place n gaps → AllByRecursion (IsApartFrom place n) gaps
cover_apart place n [] pos o m = tt
cover_apart place n (g ∷ gs) pos o m =
    (apart_from place n g pos o.0.0 (λ b low high. (none_holds g gs b (m b low high)).0), cover_apart place n gs pos o.2 (λ b low high. (none_holds g gs b (m b low high)).1))

pub give_keeps_order : (place n : ℕ) (heap : Heap) → 0 < n → AreGapsInOrder heap.gaps → MeetsNone place n heap.gaps → AreGapsInOrder (heap_give place n heap).gaps × (pairs (heap_give place n heap).gaps ≤ pairs heap.gaps)
give_keeps_order place n heap pos o m =
    let apart : AllByRecursion (IsApartFrom place n) heap.gaps = cover_apart place n heap.gaps pos o m in
    (give_in_order place n heap.gaps pos o apart, (give_adds_none place n heap.gaps o apart).0)
