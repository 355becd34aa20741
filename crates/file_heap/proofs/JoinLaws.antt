-- A range that is given is joined with the gap that ends just before it, and with the gap that begins just behind it.
use Rattle.std.proofs.Common.{◌≡◌, ◌⊎◌, inl, inr, ℕ, zero, suc, refl, sym, ◌∙◌, ap, arith, List, [], ◌∷◌, length, ◌+◌, ◌<◌, ◌≤◌, ◌^◌, Bool, true, false, cond}
use Rattle.std.specs.Prelude.{remove, ◌==◌, nat_lt}
use Rattle.std.specs.List.{AllByRecursion}
use Rattle.std.proofs.lemmas.Bool.Decides.{nat_tests, leb_tells}
use Rattle.adf_format.specs.declared.types.Extent.{Extent}
use Rattle.adf_format.specs.Tiles.{cover, end_of, MeetsNone}
use Rattle.adf_format.specs.LaysOut.{AreGapsInOrder, StandsBefore, IsGap}
use Rattle.adf_format.specs.HeapRule.{new_gap, give_joined}
use Rattle.adf_format.proofs.HeapLaws.{in_range, gap_place}
use Rattle.file_heap.specs.Gaps.{NoneEnds, NoneBegins, gap_at, put_by_place, give_right}
use Rattle.file_heap.specs.Links.{AreGaps}
use Rattle.file_heap.proofs.GiveTests.{meets_at}

-- ---- the gaps without one of them

pub cover_removed_gap : (gaps : List Extent) (i b : ℕ) → i < length gaps → cover gaps b ≡ in_range (gap_at gaps i).place (gap_at gaps i).length b + cover (remove gaps i) b
cover_removed_gap [] i b lt = absurd (omega (arith, lt))
cover_removed_gap (g ∷ gs) zero b lt = refl
cover_removed_gap (g ∷ gs) (suc i) b lt = plain (cover gs b) (in_range (gap_at gs i).place (gap_at gs i).length b) (cover (remove gs i) b) (in_range g.place g.length b) (cover_removed_gap gs i b (omega (arith, lt)))
  where
    plain : (a b c d : ℕ) → a ≡ b + c → d + a ≡ b + (d + c)
    plain a b c d e = omega (arith, e)

skips : (f g : Extent) (gs : List Extent) → end_of f ≤ g.place → IsGap g → StandsBefore g gs → StandsBefore f gs
skips f g [] le h s = tt
skips f g (k ∷ ks) le h s = let long : 0 < g.length = h.0 in let next : end_of g ≤ k.place = s.0 in (omega (arith, le, long, next), λ _ _. omega (arith, le, long, next))

stands_removed : (f : Extent) (gaps : List Extent) (i : ℕ) → StandsBefore f gaps → AreGapsInOrder gaps → StandsBefore f (remove gaps i)
stands_removed f [] zero s o = tt
stands_removed f [] (suc i) s o = tt
stands_removed f (g ∷ gs) zero s o = skips f g gs s.0 o.0 o.1
stands_removed f (g ∷ gs) (suc i) s o = s

order_removed : (gaps : List Extent) (i : ℕ) → AreGapsInOrder gaps → AreGapsInOrder (remove gaps i)
order_removed [] zero o = tt
order_removed [] (suc i) o = tt
order_removed (g ∷ gs) zero o = o.2
order_removed (g ∷ gs) (suc i) o = (o.0, stands_removed g gs i o.1 o.2, order_removed gs i o.2)

within_removed : (P : Extent → Type 0) (gaps : List Extent) (i : ℕ) → AllByRecursion P gaps → AllByRecursion P (remove gaps i)
within_removed P [] zero w = tt
within_removed P [] (suc i) w = tt
within_removed P (g ∷ gs) zero w = w.1
within_removed P (g ∷ gs) (suc i) w = (w.0, within_removed P gs i w.1)

pub rest_gaps : (gaps : List Extent) (i : ℕ) → AreGaps gaps → AreGaps (remove gaps i)
rest_gaps gaps i g = record { order = order_removed gaps i g.order; within = within_removed (λ (g : Extent). (266 ≤ g.place) × (end_of g ≤ 2 ^ 44)) gaps i g.within }

-- ---- tests

same : (a b : ℕ) → a ≡ b → (a == b) ≡ true
same a b e = grind (arith, nat_tests)

other : (a b : ℕ) → (a ≡ b → ⊥) → (a == b) ≡ false
other a b ne = by_test (a == b) refl
  where
    at : (a == b) ≡ true → a ≡ b
    at e = grind (arith, nat_tests)

    by_test : (t : Bool) → (a == b) ≡ t → t ≡ false
    by_test true e = absurd (ne (at e))
    by_test false e = refl

less : (a b : ℕ) → a < b → nat_lt a b ≡ true
less a b lt = grind (arith, nat_tests)

more : (a b : ℕ) → b ≤ a → nat_lt a b ≡ false
more a b le = grind (arith, nat_tests)

-- ---- what stands behind the first

-- each of the gaps behind one begins at its end or later, and has a byte
pub behind : (g : Extent) (gs : List Extent) (j : ℕ) → StandsBefore g gs → AreGapsInOrder gs → j < length gs → (end_of g ≤ (gap_at gs j).place) × (0 < (gap_at gs j).length)
behind g [] j s o lt = absurd (omega (arith, lt))
behind g (h ∷ hs) zero s o lt = (s.0, o.0.0)
behind g (h ∷ hs) (suc j) s o lt =
    let r = behind h hs j o.1 o.2 (omega (arith, lt)) in
    let first : end_of g ≤ h.place = s.0 in
    let next : end_of h ≤ (gap_at hs j).place = r.0 in (omega (arith, first, next), r.1)

-- ---- no gap ends just before the range

pub none_left : (place n : ℕ) (gaps : List Extent) → NoneEnds place gaps (length gaps) → give_right place n gaps ≡ give_joined place n gaps
none_left place n [] none = refl
none_left place n (g ∷ gs) none =
    let off : (end_of g == place) ≡ false = other (end_of g) place (none 0 (omega arith)) in
    rw off (ap (λ xs. cond (place + n == g.place) (new_gap place (n + g.length) ∷ gs) (cond (nat_lt g.place place) (g ∷ xs) (new_gap place n ∷ g ∷ gs))) (none_left place n gs (λ j lt. none (suc j) (omega (arith, lt)))))

-- ---- a gap that ends just before the range

pub left_join : (place n i : ℕ) (gaps : List Extent) → AreGapsInOrder gaps → i < length gaps → end_of (gap_at gaps i) ≡ place → give_right (gap_at gaps i).place ((gap_at gaps i).length + n) (remove gaps i) ≡ give_joined place n gaps
left_join place n i [] o lt e = absurd (omega (arith, lt))
left_join place n zero (g ∷ gs) o lt e =
    let on : (end_of g == place) ≡ true = same (end_of g) place e in
    rw on (none_left g.place (g.length + n) gs (λ j l f. let b = behind g gs j o.1 o.2 l in let long : 0 < g.length = o.0.0 in absurd (omega (arith, b, f, long))))
left_join place n (suc i) (g ∷ gs) o lt e =
    let l : i < length gs = omega (arith, lt) in
    let b = behind g gs i o.1 o.2 l in
    let long : 0 < g.length = o.0.0 in
    let off : (end_of g == place) ≡ false = other (end_of g) place (λ f. absurd (omega (arith, b, f, e))) in
    let right : (place + n == g.place) ≡ false = other (place + n) g.place (λ f. absurd (omega (arith, b, f, e))) in
    let far : ((gap_at gs i).place + ((gap_at gs i).length + n) == g.place) ≡ false = other ((gap_at gs i).place + ((gap_at gs i).length + n)) g.place (λ f. absurd (omega (arith, b, f, long))) in
    let before : nat_lt g.place place ≡ true = less g.place place (omega (arith, b, e)) in
    let ahead : nat_lt g.place (gap_at gs i).place ≡ true = less g.place (gap_at gs i).place (omega (arith, b, long)) in
    rw (off, right, far, before, ahead) (ap (λ xs. g ∷ xs) (left_join place n i gs o.2 l e))

-- ---- the gap behind the range, or none

-- a gap that begins before the range's end ends before the range
ends_before : (place n : ℕ) (g : Extent) (gs : List Extent) → 1 ≤ n → 0 < g.length → g.place < place + n → MeetsNone place n (g ∷ gs) → end_of g ≤ place
ends_before place n g gs some long lt none = elim (leb_tells (end_of g) place) [ inl h ↦ h.1 | inr h ↦ absurd (meets_at (g ∷ gs) 0 place n (omega arith) some lt h.1 long none) ]

-- what is met by none is met by none of the gaps behind the first
none_behind : (place n : ℕ) (g : Extent) (gs : List Extent) → MeetsNone place n (g ∷ gs) → MeetsNone place n gs
none_behind place n g gs none b low high = let z = none b low high in omega (arith, z)

put_behind : (place m : ℕ) (g : Extent) (gs : List Extent) → g.place < place → put_by_place (new_gap place m) (g ∷ gs) ≡ g ∷ put_by_place (new_gap place m) gs
put_behind place m g gs lt = let on : nat_lt g.place (new_gap place m).place ≡ true = less g.place (new_gap place m).place (rw (gap_place place m) lt) in rw on

put_first : (place m : ℕ) (gs : List Extent) → (0 < length gs → place ≤ (gap_at gs 0).place) → put_by_place (new_gap place m) gs ≡ new_gap place m ∷ gs
put_first place m [] le = refl
put_first place m (g ∷ gs) le =
    let off : nat_lt g.place (new_gap place m).place ≡ false = more g.place (new_gap place m).place (rw (gap_place place m) (le (omega arith))) in rw off

pub right_join : (place n i : ℕ) (gaps : List Extent) → 1 ≤ n → AreGapsInOrder gaps → MeetsNone place n gaps → i < length gaps → (gap_at gaps i).place ≡ place + n
    → put_by_place (new_gap place (n + (gap_at gaps i).length)) (remove gaps i) ≡ give_right place n gaps
right_join place n i [] some o none lt e = absurd (omega (arith, lt))
right_join place n zero (g ∷ gs) some o none lt e =
    let on : (place + n == g.place) ≡ true = same (place + n) g.place (sym e) in
    rw on (put_first place (n + g.length) gs (λ l. let b = behind g gs 0 o.1 o.2 l in omega (arith, b, e)))
right_join place n (suc i) (g ∷ gs) some o none lt e =
    let l : i < length gs = omega (arith, lt) in
    let b = behind g gs i o.1 o.2 l in
    let long : 0 < g.length = o.0.0 in
    let le : end_of g ≤ place = ends_before place n g gs some long (omega (arith, b, e, long)) none in
    let off : (place + n == g.place) ≡ false = other (place + n) g.place (λ f. absurd (omega (arith, le, f))) in
    let before : nat_lt g.place place ≡ true = less g.place place (omega (arith, le, long)) in
    rw (off, before) (put_behind place (n + (gap_at gs i).length) g (remove gs i) (omega (arith, le, long)) ∙ ap (λ xs. g ∷ xs) (right_join place n i gs some o.2 (none_behind place n g gs none) l e))

pub none_right : (place n : ℕ) (gaps : List Extent) → NoneBegins (place + n) gaps (length gaps) → put_by_place (new_gap place n) gaps ≡ give_right place n gaps
none_right place n [] none = refl
none_right place n (g ∷ gs) none =
    let off : (place + n == g.place) ≡ false = other (place + n) g.place (λ e. none 0 (omega arith) (sym e)) in
    rw (off, gap_place place n) (ap (λ xs. cond (nat_lt g.place place) (g ∷ xs) (new_gap place n ∷ g ∷ gs)) (none_right place n gs (λ j lt. none (suc j) (omega (arith, lt)))))

-- ---- the joined range meets none of the others

joined_apart : (place n q m i : ℕ) (gaps : List Extent) → ((b : ℕ) → cover gaps b ≤ 1) → i < length gaps → MeetsNone place n gaps → ((b : ℕ) → q ≤ b → b < q + m → (in_range (gap_at gaps i).place (gap_at gaps i).length b ≡ 1) ⊎ ((place ≤ b) × (b < place + n)))
    → MeetsNone q m (remove gaps i)
joined_apart place n q m i gaps once lt none held b low high = elim (held b low high) [
  | inl h ↦ (let c = cover_removed_gap gaps i b lt in let o = once b in omega (arith, h, c, o))
  | inr h ↦ (let c = cover_removed_gap gaps i b lt in let z = none b h.0 h.1 in omega (arith, c, z))
]

either : (p l place n b : ℕ) → p + l ≡ place → p ≤ b → b < p + (l + n) → (in_range p l b ≡ 1) ⊎ ((place ≤ b) × (b < place + n))
either p l place n b e low high = elim (leb_tells place b) [ inl h ↦ inr (h.1, omega (arith, e, high)) | inr h ↦ inl (inside h.1) ]
  where
    inside : b < place → in_range p l b ≡ 1
    inside lt = grind (arith, nat_tests)

neither : (p l place n b : ℕ) → p ≡ place + n → place ≤ b → b < place + (n + l) → (in_range p l b ≡ 1) ⊎ ((place ≤ b) × (b < place + n))
neither p l place n b e low high = elim (leb_tells p b) [ inl h ↦ inl (inside h.1) | inr h ↦ inr (low, omega (arith, e, h.1)) ]
  where
    inside : p ≤ b → in_range p l b ≡ 1
    inside le = grind (arith, nat_tests)

pub left_apart : (place n i : ℕ) (gaps : List Extent) → ((b : ℕ) → cover gaps b ≤ 1) → i < length gaps → end_of (gap_at gaps i) ≡ place → MeetsNone place n gaps → MeetsNone (gap_at gaps i).place ((gap_at gaps i).length + n) (remove gaps i)
left_apart place n i gaps once lt e none =
    joined_apart place n (gap_at gaps i).place ((gap_at gaps i).length + n) i gaps once lt none (λ b low high. either (gap_at gaps i).place (gap_at gaps i).length place n b e low high)

pub right_apart : (place n i : ℕ) (gaps : List Extent) → ((b : ℕ) → cover gaps b ≤ 1) → i < length gaps → (gap_at gaps i).place ≡ place + n → MeetsNone place n gaps → MeetsNone place (n + (gap_at gaps i).length) (remove gaps i)
right_apart place n i gaps once lt e none =
    joined_apart place n place (n + (gap_at gaps i).length) i gaps once lt none (λ b low high. neither (gap_at gaps i).place (gap_at gaps i).length place n b e low high)
