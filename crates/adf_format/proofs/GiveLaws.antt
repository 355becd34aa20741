-- A gift keeps the gaps in order, and adds no pair of gaps that touch.
use Rattle.std.proofs.Common.{◌≡◌, ◌⊎◌, inl, inr, ℕ, suc, refl, sym, ◌∙◌, ap, subst, arith, List, [], ◌∷◌, ◌+◌, ◌<◌, ◌≤◌, Bool, true, false, cond}
use Rattle.std.proofs.lemmas.Bool.Decides.{nat_tests, leb_tells}
use Rattle.std.specs.Prelude.{nat_lt, ◌==◌, IsTrue}
use Rattle.std.specs.List.{AllByRecursion}
use Rattle.adf_format.specs.declared.types.Extent.{Extent}
use Rattle.adf_format.specs.declared.types.ExtentKind.{ExtentKind}
use Rattle.adf_format.specs.Tiles.{end_of, is_free, is_filler}
use Rattle.adf_format.specs.Placement.{extent}
use Rattle.adf_format.specs.LaysOut.{IsGap, AreSeparate, StandsBefore, AreGapsInOrder}
use Rattle.adf_format.specs.HeapRule.{new_gap, give_joined, pairs, begins_at}
use Rattle.adf_format.proofs.HeapLaws.{gap_place, gap_length}
use Rattle.adf_format.proofs.GapLaws.{BeginFrom, gap_is_gap}

-- the range meets no gap
abbrev pub IsApartFrom : ℕ → ℕ → Extent → Type 0
IsApartFrom place n g = (end_of g ≤ place) ⊎ (place + n ≤ g.place)

abbrev pub AreApartFrom : ℕ → ℕ → List Extent → Type 0
AreApartFrom place n gaps = AllByRecursion (IsApartFrom place n) gaps

-- all gaps begin at a place or behind it
abbrev AllFrom : ℕ → List Extent → Type 0
AllFrom place gaps = AllByRecursion (λ (g : Extent). place ≤ g.place) gaps

all_less : (a b : ℕ) (gs : List Extent) → a ≤ b → AllFrom b gs → AllFrom a gs
all_less a b [] le h = tt
all_less a b (g ∷ gs) le h = (let k : b ≤ g.place = h.0 in omega (arith, le, k), all_less a b gs le h.1)

pub order_from : (g : Extent) (gs : List Extent) → AreGapsInOrder (g ∷ gs) → AllFrom (end_of g) gs
order_from g [] o = tt
order_from g (h ∷ gs) o =
    let le : end_of g ≤ h.place = o.1.0 in
    let long : 0 < h.length = o.2.0.0 in
    (le, all_less (end_of g) (end_of h) gs (omega (arith, le, long)) (order_from h gs o.2))

at : (a b : ℕ) → (a == b) ≡ true → a ≡ b
at a b e = grind (arith, nat_tests)

off : (a b : ℕ) → (a == b) ≡ false → (a ≡ b → ⊥)
off a b e f = let t : (a == b) ≡ true = grind (arith, nat_tests) in cc

less : (a b : ℕ) → nat_lt a b ≡ true → a < b
less a b e = grind (arith, nat_tests)

more : (a b : ℕ) → nat_lt a b ≡ false → b ≤ a
more a b e = grind (arith, nat_tests)

strict : (a b : ℕ) → a ≤ b → (a ≡ b → ⊥) → a < b
strict a b le ne = elim (leb_tells (suc a) b) [ inl k ↦ k.1 | inr k ↦ absurd (ne (omega (arith, le, k.1))) ]

-- a filler made of a range is under 32 bytes
new_filler_step : (place n : ℕ) (t : Bool) → nat_lt n 32 ≡ t → IsTrue (is_filler (cond t (extent ExtentKind.Filler place n) (extent ExtentKind.FreeChunk place n))) → n < 32
new_filler_step place n true e f = less n 32 e
new_filler_step place n false e f = cc

new_filler : (place n : ℕ) → IsTrue (is_filler (new_gap place n)) → n < 32
new_filler place n f = new_filler_step place n (nat_lt n 32) refl f

-- a gap of under 32 bytes is a filler
small_filler : (g : Extent) → IsGap g → g.length < 32 → IsTrue (is_filler g)
small_filler g h s = pick h.1
  where
    pick : (IsTrue (is_free g) × (32 ≤ g.length)) ⊎ IsTrue (is_filler g) → IsTrue (is_filler g)
    pick (inl k) = let l : 32 ≤ g.length = k.1 in absurd (omega (arith, s, l))
    pick (inr f) = f

-- a gap in front of a new one
front : (f : Extent) (place n : ℕ) → end_of f ≤ place → (IsTrue (is_filler f) → n < 32 → end_of f < place) → AreSeparate f (new_gap place n)
front f place n le lt = (subst (λ (x : ℕ). end_of f ≤ x) (sym (gap_place place n)) le, λ ff fn. subst (λ (x : ℕ). end_of f < x) (sym (gap_place place n)) (lt ff (new_filler place n fn)))

pub tail_apart : (place n : ℕ) (g : Extent) (gs : List Extent) → end_of g ≡ place → AllFrom (end_of g) gs → AreGapsInOrder gs → AreApartFrom place n gs → AreApartFrom g.place (g.length + n) gs
tail_apart place n g [] e from o m = tt
tail_apart place n g (h ∷ gs) e from o m = (inr (pick m.0), tail_apart place n g gs e from.1 o.2 m.1)
  where
    begins : end_of g ≤ h.place
    begins = from.0

    long : 0 < h.length
    long = o.0.0

    pick : IsApartFrom place n h → g.place + (g.length + n) ≤ h.place
    pick (inl k) = absurd (omega (arith, k, e, begins, long))
    pick (inr k) = omega (arith, k, e)

-- ---- a gap before all stays before all

stands_step : (f : Extent) (place n : ℕ) (g : Extent) (gs : List Extent) (left right before : Bool) → StandsBefore f (g ∷ gs) → end_of f ≤ place → (IsTrue (is_filler f) → n < 32 → end_of f < place)
    → StandsBefore f (give_joined g.place (g.length + n) gs) → StandsBefore f (cond left (give_joined g.place (g.length + n) gs) (cond right (new_gap place (n + g.length) ∷ gs) (cond before (g ∷ give_joined place n gs) (new_gap place n ∷ g ∷ gs))))
stands_step f place n g gs true right before s le lt joined = joined
stands_step f place n g gs false true before s le lt joined = front f place (n + g.length) le (λ ff small. lt ff (omega (arith, small)))
stands_step f place n g gs false false true s le lt joined = s
stands_step f place n g gs false false false s le lt joined = front f place n le lt

behind_all : (f g : Extent) (gs : List Extent) → end_of f ≤ g.place → IsGap g → StandsBefore g gs → StandsBefore f gs
behind_all f g [] le h s = tt
behind_all f g (k ∷ gs) le h s = let long : 0 < g.length = h.0 in let next : end_of g ≤ k.place = s.0 in (omega (arith, le, long, next), λ _ _. omega (arith, le, long, next))

pub give_stands : (f : Extent) (place n : ℕ) (gaps : List Extent) → AreGapsInOrder gaps → StandsBefore f gaps → end_of f ≤ place → (IsTrue (is_filler f) → n < 32 → end_of f < place) → StandsBefore f (give_joined place n gaps)
give_stands f place n [] o s le lt = front f place n le lt
give_stands f place n (g ∷ gs) o s le lt =
    stands_step f place n g gs (end_of g == place) (place + n == g.place) (nat_lt g.place place) s le lt
    (give_stands f g.place (g.length + n) gs o.2 (behind_all f g gs s.0 o.0 o.1) s.0 (λ ff small. s.1 ff (small_filler g o.0 (omega (arith, small)))))

-- ---- order

order_step : (place n : ℕ) (g : Extent) (gs : List Extent) (left right before : Bool) → 0 < n → (end_of g == place) ≡ left → (place + n == g.place) ≡ right → nat_lt g.place place ≡ before
    → AreGapsInOrder (g ∷ gs) → AreApartFrom place n (g ∷ gs) → (end_of g ≡ place → AreGapsInOrder (give_joined g.place (g.length + n) gs)) → AreGapsInOrder (give_joined place n gs)
    → AreGapsInOrder (cond left (give_joined g.place (g.length + n) gs) (cond right (new_gap place (n + g.length) ∷ gs) (cond before (g ∷ give_joined place n gs) (new_gap place n ∷ g ∷ gs))))
order_step place n g gs true right before pos l r b o m joined rest = joined (at (end_of g) place l)
order_step place n g gs false true before pos l r b o m joined rest =
    let e : place + n ≡ g.place = at (place + n) g.place r in
    (gap_is_gap place (n + g.length) (omega (arith, pos)), over gs o.1, o.2)
  where
    over : (ks : List Extent) → StandsBefore g ks → StandsBefore (new_gap place (n + g.length)) ks
    over [] s = tt
    over (k ∷ ks) s =
        let e : place + n ≡ g.place = at (place + n) g.place r in
        let p : (new_gap place (n + g.length)).place ≡ place = gap_place place (n + g.length) in
        let q : (new_gap place (n + g.length)).length ≡ n + g.length = gap_length place (n + g.length) in
        let last : end_of (new_gap place (n + g.length)) ≡ end_of g = rw (p, q) (omega (arith, e)) in (
          subst (λ (x : ℕ). x ≤ k.place) (sym last) s.0,
          λ fn fk. subst (λ (x : ℕ). x < k.place) (sym last) (s.1 (small_filler g o.0 (let small : n + g.length < 32 = new_filler place (n + g.length) fn in omega (arith, small))) fk),
        )
order_step place n g gs false false true pos l r b o m joined rest =
    let lt : g.place < place = less g.place place b in
    let le : end_of g ≤ place = pick lt m.0 in
    (o.0, give_stands g place n gs o.2 o.1 le (λ _ _. strict (end_of g) place le (off (end_of g) place l)), rest)
  where
    pick : g.place < place → IsApartFrom place n g → end_of g ≤ place
    pick lt (inl k) = k
    pick lt (inr k) = absurd (omega (arith, lt, k))
order_step place n g gs false false false pos l r b o m joined rest =
    let le : place ≤ g.place = more g.place place b in
    let far : place + n ≤ g.place = pick le m.0 in
    let lt : place + n < g.place = strict (place + n) g.place far (off (place + n) g.place r) in
    (gap_is_gap place n pos, apart lt, o)
  where
    long : 0 < g.length
    long = o.0.0

    pick : place ≤ g.place → IsApartFrom place n g → place + n ≤ g.place
    pick le (inl k) = absurd (omega (arith, le, k, long))
    pick le (inr k) = k

    apart : place + n < g.place → AreSeparate (new_gap place n) g
    apart lt =
        let last : end_of (new_gap place n) ≡ place + n = rw (gap_place place n, gap_length place n) in
        (subst (λ (x : ℕ). x ≤ g.place) (sym last) (omega (arith, lt)), λ _ _. subst (λ (x : ℕ). x < g.place) (sym last) lt)

-- a gift that meets no gap keeps the gaps in order
pub give_in_order : (place n : ℕ) (gaps : List Extent) → 0 < n → AreGapsInOrder gaps → AreApartFrom place n gaps → AreGapsInOrder (give_joined place n gaps)
give_in_order place n [] pos o m = (gap_is_gap place n pos, tt, tt)
give_in_order place n (g ∷ gs) pos o m =
    order_step place n g gs (end_of g == place) (place + n == g.place) (nat_lt g.place place) pos refl refl refl o m
    (λ e. give_in_order g.place (g.length + n) gs (omega (arith, pos)) o.2 (tail_apart place n g gs e (order_from g gs o) o.2 m.1)) (give_in_order place n gs pos o.2 m.1)

-- ---- pairs

one_if : ℕ → ℕ → ℕ
one_if a b = cond (a == b) 1 0

begins_new : (x place n : ℕ) (gs : List Extent) → begins_at x (new_gap place n ∷ gs) ≡ cond (place == x) 1 0
begins_new x place n gs = ap (λ p. cond (p == x) 1 0) (gap_place place n)

begins_other : (x place n : ℕ) (gs : List Extent) → x < place → begins_at x (new_gap place n ∷ gs) ≡ 0
begins_other x place n gs lt = begins_new x place n gs ∙ (let no : (place == x) ≡ false = grind (arith, nat_tests) in rw no)

pairs_new : (place n : ℕ) (gs : List Extent) → pairs (new_gap place n ∷ gs) ≡ begins_at (place + n) gs + pairs gs
pairs_new place n gs = let last : end_of (new_gap place n) ≡ place + n = rw (gap_place place n, gap_length place n) in ap (λ x. begins_at x gs + pairs gs) last

-- a range before all gaps
before_all_step : (place n : ℕ) (h : Extent) (hs : List Extent) (left right before : Bool) → (end_of h == place) ≡ left → (place + n == h.place) ≡ right → nat_lt h.place place ≡ before → place < h.place
    → (pairs (cond left (give_joined h.place (h.length + n) hs) (cond right (new_gap place (n + h.length) ∷ hs) (cond before (h ∷ give_joined place n hs) (new_gap place n ∷ h ∷ hs)))) ≤ pairs (h ∷ hs))
    × ((x : ℕ) → begins_at x (cond left (give_joined h.place (h.length + n) hs) (cond right (new_gap place (n + h.length) ∷ hs) (cond before (h ∷ give_joined place n hs) (new_gap place n ∷ h ∷ hs)))) ≡ cond (place == x) 1 0)
before_all_step place n h hs true right before l r b lt = let e : h.place + h.length ≡ place = at (end_of h) place l in absurd (omega (arith, e, lt))
before_all_step place n h hs false true before l r b lt =
    let e : place + n ≡ h.place = at (place + n) h.place r in
    let same : place + (n + h.length) ≡ end_of h = omega (arith, e) in
    let p : pairs (new_gap place (n + h.length) ∷ hs) ≡ begins_at (end_of h) hs + pairs hs = pairs_new place (n + h.length) hs ∙ ap (λ x. begins_at x hs + pairs hs) same in
    (omega (arith, p), λ x. begins_new x place (n + h.length) hs)
before_all_step place n h hs false false true l r b lt = let k : h.place < place = less h.place place b in absurd (omega (arith, k, lt))
before_all_step place n h hs false false false l r b lt =
    let no : (h.place == place + n) ≡ false = differs in
    let zero_here : begins_at (place + n) (h ∷ hs) ≡ 0 = rw no in
    let p : pairs (new_gap place n ∷ h ∷ hs) ≡ begins_at (place + n) (h ∷ hs) + pairs (h ∷ hs) = pairs_new place n (h ∷ hs) in
    (omega (arith, p, zero_here), λ x. begins_new x place n (h ∷ hs))
  where
    differs : (h.place == place + n) ≡ false
    differs = let ne : place + n ≡ h.place → ⊥ = off (place + n) h.place r in unequal (h.place == place + n) refl ne
      where
        unequal : (t : Bool) → (h.place == place + n) ≡ t → (place + n ≡ h.place → ⊥) → (h.place == place + n) ≡ false
        unequal true e ne = absurd (ne (sym (at h.place (place + n) e)))
        unequal false e ne = e

before_all : (place n : ℕ) (gs : List Extent) → BeginFrom (place + 1) gs
    → (pairs (give_joined place n gs) ≤ pairs gs) × ((x : ℕ) → begins_at x (give_joined place n gs) ≡ cond (place == x) 1 0)
before_all place n [] b = (omega arith, λ x. begins_new x place n [])
before_all place n (h ∷ hs) b = before_all_step place n h hs (end_of h == place) (place + n == h.place) (nat_lt h.place place) refl refl refl (omega (arith, b))

abbrev AddsNone : ℕ → List Extent → List Extent → Type 0
AddsNone place old new = (pairs new ≤ pairs old) × ((x : ℕ) → x < place → begins_at x new ≤ begins_at x old)

zero_least : (a b : ℕ) → a ≡ 0 → a ≤ b
zero_least a b e = omega (arith, e)

behind_first : (g : Extent) (gs : List Extent) → 0 < g.length → StandsBefore g gs → BeginFrom (g.place + 1) gs
behind_first g [] long s = tt
behind_first g (h ∷ hs) long s = let le : end_of g ≤ h.place = s.0 in omega (arith, long, le)

pair_step : (place n : ℕ) (g : Extent) (gs : List Extent) (left right before : Bool) → (end_of g == place) ≡ left → (place + n == g.place) ≡ right → nat_lt g.place place ≡ before
    → AreGapsInOrder (g ∷ gs) → AreApartFrom place n (g ∷ gs) → AddsNone place gs (give_joined place n gs)
    → AddsNone place (g ∷ gs) (cond left (give_joined g.place (g.length + n) gs) (cond right (new_gap place (n + g.length) ∷ gs) (cond before (g ∷ give_joined place n gs) (new_gap place n ∷ g ∷ gs))))
pair_step place n g gs true right before l r b o m ih =
    let k : (pairs (give_joined g.place (g.length + n) gs) ≤ pairs gs) × ((x : ℕ) → begins_at x (give_joined g.place (g.length + n) gs) ≡ cond (g.place == x) 1 0) = before_all g.place (g.length + n) gs (behind_first g gs o.0.0 o.1) in
    let fewer : pairs (give_joined g.place (g.length + n) gs) ≤ pairs gs = k.0 in
    (omega (arith, fewer), λ x lt. let same : begins_at x (give_joined g.place (g.length + n) gs) ≡ begins_at x (g ∷ gs) = k.1 x in omega (arith, same))
pair_step place n g gs false true before l r b o m ih =
    let e : place + n ≡ g.place = at (place + n) g.place r in
    let same : place + (n + g.length) ≡ end_of g = omega (arith, e) in
    let p : pairs (new_gap place (n + g.length) ∷ gs) ≡ begins_at (end_of g) gs + pairs gs = pairs_new place (n + g.length) gs ∙ ap (λ x. begins_at x gs + pairs gs) same in
    (omega (arith, p), λ x lt. zero_least _ _ (begins_other x place (n + g.length) gs lt))
pair_step place n g gs false false true l r b o m ih =
    let lt : g.place < place = less g.place place b in
    let le : end_of g ≤ place = pick lt m.0 in
    let near : begins_at (end_of g) (give_joined place n gs) ≤ begins_at (end_of g) gs = ih.1 (end_of g) (strict (end_of g) place le (off (end_of g) place l)) in
    let fewer : pairs (give_joined place n gs) ≤ pairs gs = ih.0 in
    (omega (arith, near, fewer), λ x k. omega arith)
  where
    pick : g.place < place → IsApartFrom place n g → end_of g ≤ place
    pick lt (inl k) = k
    pick lt (inr k) = absurd (omega (arith, lt, k))
pair_step place n g gs false false false l r b o m ih =
    let no : (g.place == place + n) ≡ false = unequal (g.place == place + n) refl (off (place + n) g.place r) in
    let none : begins_at (place + n) (g ∷ gs) ≡ 0 = rw no in
    let p : pairs (new_gap place n ∷ g ∷ gs) ≡ begins_at (place + n) (g ∷ gs) + pairs (g ∷ gs) = pairs_new place n (g ∷ gs) in
    (omega (arith, p, none), λ x lt. zero_least _ _ (begins_other x place n (g ∷ gs) lt))
  where
    unequal : (t : Bool) → (g.place == place + n) ≡ t → (place + n ≡ g.place → ⊥) → (g.place == place + n) ≡ false
    unequal true e ne = absurd (ne (sym (at g.place (place + n) e)))
    unequal false e ne = e

-- a gift that meets no gap adds no pair
pub give_adds_none : (place n : ℕ) (gaps : List Extent) → AreGapsInOrder gaps → AreApartFrom place n gaps → AddsNone place gaps (give_joined place n gaps)
give_adds_none place n [] o m = (omega arith, λ x lt. zero_least _ _ (begins_other x place n [] lt))
give_adds_none place n (g ∷ gs) o m =
    pair_step place n g gs (end_of g == place) (place + n == g.place) (nat_lt g.place place) refl refl refl o m (give_adds_none place n gs o.2 m.1)
