-- Ranges that are given one after another make the same gaps in any order.
use Rattle.std.proofs.Common.{◌≡◌, ◌⊎◌, inl, inr, ℕ, suc, refl, sym, ◌∙◌, ap, subst, arith, List, [], ◌∷◌, ◌++◌, ◌+◌, ◌<◌, ◌≤◌, Bool, true, false}
use Rattle.std.proofs.lemmas.Bool.Decides.{nat_tests, leb_tells}
use Rattle.std.specs.Prelude.{nat_lt, ◌==◌, ◌&&◌, cond, IsTrue}
use Rattle.std.specs.List.{AllByRecursion}
use Rattle.adf_format.specs.declared.types.Extent.{Extent}
use Rattle.adf_format.specs.declared.types.ExtentKind.{ExtentKind}
use Rattle.adf_format.specs.Tiles.{cover, end_of, MeetsNone}
use Rattle.adf_format.specs.Placement.{Heap, extent}
use Rattle.adf_format.specs.LaysOut.{StandsBefore, AreGapsInOrder, HasSameRanges, count_of}
use Rattle.adf_format.specs.HeapRule.{new_gap, give_joined, heap_give, give_all}
use Rattle.adf_format.proofs.HeapLaws.{in_range, gap_place, gap_length, cover-give_joined}
use Rattle.adf_format.proofs.HeapSteps.{cover-append, cover_apart, give_keeps_order}
use Rattle.adf_format.proofs.GapLaws.{BeginFrom}
use Rattle.adf_format.proofs.GiveLaws.{AreApartFrom, tail_apart, order_from, give_stands}

below_or_at : (a b : ℕ) → a ≤ b → (a < b) ⊎ (a ≡ b)
below_or_at a b h = elim (leb_tells (suc a) b) [ inl k ↦ inl k.1 | inr k ↦ inr (omega (arith, h, k.1)) ]

-- ---- a gift by where it meets the first gap

joins_left : (p n : ℕ) (g : Extent) (gs : List Extent) → end_of g ≡ p → give_joined p n (g ∷ gs) ≡ give_joined g.place (g.length + n) gs
joins_left p n g gs e = let t : (end_of g == p) ≡ true = grind (arith, nat_tests) in rw t refl

joins_right : (p n : ℕ) (g : Extent) (gs : List Extent) → 0 < n → p + n ≡ g.place → give_joined p n (g ∷ gs) ≡ new_gap p (n + g.length) ∷ gs
joins_right p n g gs some e =
    let t : (end_of g == p) ≡ false = grind (arith, nat_tests) in
    let u : (p + n == g.place) ≡ true = grind (arith, nat_tests) in rw (t, u) refl

passes : (p n : ℕ) (g : Extent) (gs : List Extent) → end_of g < p → give_joined p n (g ∷ gs) ≡ g ∷ give_joined p n gs
passes p n g gs lt =
    let t : (end_of g == p) ≡ false = grind (arith, nat_tests) in
    let u : (p + n == g.place) ≡ false = grind (arith, nat_tests) in
    let v : nat_lt g.place p ≡ true = grind (arith, nat_tests) in rw (t, u, v) refl

comes_first : (p n : ℕ) (g : Extent) (gs : List Extent) → p + n < g.place → give_joined p n (g ∷ gs) ≡ new_gap p n ∷ g ∷ gs
comes_first p n g gs lt =
    let t : (end_of g == p) ≡ false = grind (arith, nat_tests) in
    let u : (p + n == g.place) ≡ false = grind (arith, nat_tests) in
    let v : nat_lt g.place p ≡ false = grind (arith, nat_tests) in rw (t, u, v) refl

-- ---- the same where the first gap is a new one

gap_end : (p n : ℕ) → end_of (new_gap p n) ≡ p + n
gap_end p n = rw (gap_place p n, gap_length p n) refl

new_left : (p k q m : ℕ) (gs : List Extent) → p + k ≡ q → give_joined q m (new_gap p k ∷ gs) ≡ give_joined p (k + m) gs
new_left p k q m gs e =
    joins_left q m (new_gap p k) gs (gap_end p k ∙ e)
    ∙ ap (λ x. give_joined x ((new_gap p k).length + m) gs) (gap_place p k) ∙ ap (λ x. give_joined p (x + m) gs) (gap_length p k)

new_right : (p n q m : ℕ) (gs : List Extent) → 0 < n → p + n ≡ q → give_joined p n (new_gap q m ∷ gs) ≡ new_gap p (n + m) ∷ gs
new_right p n q m gs some e =
    joins_right p n (new_gap q m) gs some (e ∙ sym (gap_place q m)) ∙ ap (λ x. new_gap p (n + x) ∷ gs) (gap_length q m)

new_passed : (p k q m : ℕ) (gs : List Extent) → p + k < q → give_joined q m (new_gap p k ∷ gs) ≡ new_gap p k ∷ give_joined q m gs
new_passed p k q m gs lt = passes q m (new_gap p k) gs (subst (λ x. x < q) (sym (gap_end p k)) lt)

new_first : (p n q m : ℕ) (gs : List Extent) → p + n < q → give_joined p n (new_gap q m ∷ gs) ≡ new_gap p n ∷ new_gap q m ∷ gs
new_first p n q m gs lt = comes_first p n (new_gap q m) gs (subst (λ x. p + n < x) (sym (gap_place q m)) lt)

-- ---- two gifts

sums : (p a b c : ℕ) (gs : List Extent) → new_gap p (a + (b + c)) ∷ gs ≡ new_gap p (a + b + c) ∷ gs
sums p a b c gs = ap (λ x. new_gap p x ∷ gs) (omega arith)

-- a range just before one that was given, with no gap between: both are one
meets_given : (p n k : ℕ) (gs : List Extent) → 0 < n → 0 < k → BeginFrom (p + n + k) gs → give_joined p n (give_joined (p + n) k gs) ≡ give_joined p (n + k) gs
meets_given p n k [] some long far = new_right p n (p + n) k [] some refl
meets_given p n k (x ∷ xs) some long far = elim (below_or_at (p + n + k) x.place far) [
  | inl lt ↦
      ap (give_joined p n) (comes_first (p + n) k x xs lt) ∙ new_right p n (p + n) k (x ∷ xs) some refl
      ∙ sym (comes_first p (n + k) x xs (omega (arith, lt)))
  | inr e ↦
      ap (give_joined p n) (joins_right (p + n) k x xs long e) ∙ new_right p n (p + n) (k + x.length) xs some refl
      ∙ sums p n k x.length xs ∙ sym (joins_right p (n + k) x xs (omega (arith, some)) (omega (arith, e)))
]

-- a range before all gaps, with a byte between
first_of_all : (p n : ℕ) (gs : List Extent) → StandsBefore (extent ExtentKind.FreeChunk p (n + 1)) gs → give_joined p n gs ≡ new_gap p n ∷ gs
first_of_all p n [] s = refl
first_of_all p n (g ∷ gs) s = let le : p + (n + 1) ≤ g.place = s.0 in comes_first p n g gs (omega (arith, le))

-- the gaps behind one that ends where a range begins stand behind that range
behind_range : (q m : ℕ) (g : Extent) (gs : List Extent) → end_of g ≡ q → AreGapsInOrder (g ∷ gs) → AreApartFrom q m gs → BeginFrom (q + m) gs
behind_range q m g [] e o apart = tt
behind_range q m g (x ∷ xs) e o apart = by_side apart.0
  where
    by_side : (end_of x ≤ q) ⊎ (q + m ≤ x.place) → q + m ≤ x.place
    by_side (inl le) = let from : end_of g ≤ x.place = o.1.0 in let long : 0 < x.length = o.2.0.0 in absurd (omega (arith, le, from, long, e))
    by_side (inr le) = le

-- the range that stands first, and the other behind it
give_both : (p n q m : ℕ) (gs : List Extent) → 0 < n → 0 < m → p + n ≤ q → AreGapsInOrder gs → AreApartFrom p n gs → AreApartFrom q m gs
    → give_joined q m (give_joined p n gs) ≡ give_joined p n (give_joined q m gs)
give_both p n q m [] some long le o a b = elim (below_or_at (p + n) q le) [
  | inl lt ↦ new_passed p n q m [] lt ∙ sym (new_first p n q m [] lt)
  | inr e ↦ new_left p n q m [] e ∙ sym (new_right p n q m [] some e)
]
give_both p n q m (g ∷ gs) some long le o a b =
    by_side (give_both g.place (g.length + n) q m gs) (give_both p n q m gs some long le o.2 a.1 b.1) a.0 b.0
  where
    long_gap : 0 < g.length
    long_gap = o.0.0

    -- the first gap touches the range from the right, and ends before the other or at it
    touches : p + n ≡ g.place → end_of g ≤ q → give_joined q m (give_joined p n (g ∷ gs)) ≡ give_joined p n (give_joined q m (g ∷ gs))
    touches e up = elim (below_or_at (end_of g) q up) [
      | inl lt ↦
          ap (give_joined q m) (joins_right p n g gs some e) ∙ new_passed p (n + g.length) q m gs (omega (arith, e, lt))
          ∙ sym (joins_right p n g (give_joined q m gs) some e) ∙ sym (ap (give_joined p n) (passes q m g gs lt))
      | inr at ↦
          ap (give_joined q m) (joins_right p n g gs some e) ∙ new_left p (n + g.length) q m gs (omega (arith, e, at))
          ∙ ap (λ x. give_joined p x gs) (omega arith)
          ∙ sym (meets_given p n (g.length + m) gs some (omega (arith, long)) (subst (λ x. BeginFrom x gs) (omega (arith, e, at)) (behind_range q m g gs at o b.1)))
          ∙ ap (λ x. give_joined p n (give_joined x (g.length + m) gs)) e
          ∙ sym (ap (give_joined p n) (joins_left q m g gs at))
    ]

    -- it stands behind the range
    behind : p + n < g.place → (end_of g ≤ q) ⊎ (q + m ≤ g.place) → give_joined q m (give_joined p n (g ∷ gs)) ≡ give_joined p n (give_joined q m (g ∷ gs))
    behind lt side = elim (below_or_at (p + n) q le) [
      | inl before ↦
          ap (give_joined q m) (comes_first p n g gs lt) ∙ new_passed p n q m (g ∷ gs) before
          ∙ sym (first_of_all p n (give_joined q m (g ∷ gs))
          (give_stands (extent ExtentKind.FreeChunk p (n + 1)) q m (g ∷ gs) o (omega (arith, lt), λ f. absurd (no_filler f)) (omega (arith, before)) (λ f. absurd (no_filler f))))
      | inr at ↦
          ap (give_joined q m) (comes_first p n g gs lt) ∙ new_left p n q m (g ∷ gs) at
          ∙ sym (meets_given p n m (g ∷ gs) some long (apart at side))
          ∙ ap (λ x. give_joined p n (give_joined x m (g ∷ gs))) at
    ]
      where
        no_filler : IsTrue false → ⊥
        no_filler f = cc

        apart : p + n ≡ q → (end_of g ≤ q) ⊎ (q + m ≤ g.place) → p + n + m ≤ g.place
        apart at (inl up) = absurd (omega (arith, at, up, lt))
        apart at (inr up) = omega (arith, at, up)

    by_side : (0 < g.length + n → 0 < m → g.place + (g.length + n) ≤ q → AreGapsInOrder gs → AreApartFrom g.place (g.length + n) gs → AreApartFrom q m gs
        → give_joined q m (give_joined g.place (g.length + n) gs) ≡ give_joined g.place (g.length + n) (give_joined q m gs))
        → give_joined q m (give_joined p n gs) ≡ give_joined p n (give_joined q m gs)
        → (end_of g ≤ p) ⊎ (p + n ≤ g.place) → (end_of g ≤ q) ⊎ (q + m ≤ g.place) → give_joined q m (give_joined p n (g ∷ gs)) ≡ give_joined p n (give_joined q m (g ∷ gs))
    by_side merged later (inl up) side = elim (below_or_at (end_of g) p up) [
      | inl lt ↦
          ap (give_joined q m) (passes p n g gs lt) ∙ passes q m g (give_joined p n gs) (omega (arith, lt, le)) ∙ ap (λ xs. g ∷ xs) later
          ∙ sym (passes p n g (give_joined q m gs) lt) ∙ sym (ap (give_joined p n) (passes q m g gs (omega (arith, lt, le))))
      | inr e ↦
          ap (give_joined q m) (joins_left p n g gs e)
          ∙ merged (omega (arith, some)) long (omega (arith, e, le)) o.2 (tail_apart p n g gs e (order_from g gs o) o.2 a.1) b.1
          ∙ sym (joins_left p n g (give_joined q m gs) e) ∙ sym (ap (give_joined p n) (passes q m g gs (omega (arith, e, le, some))))
    ]
    by_side merged later (inr up) side = elim (below_or_at (p + n) g.place up) [
      | inl lt ↦ behind lt side
      | inr e ↦ touches e (ends_before e side)
    ]
      where
        ends_before : p + n ≡ g.place → (end_of g ≤ q) ⊎ (q + m ≤ g.place) → end_of g ≤ q
        ends_before e (inl h) = h
        ends_before e (inr h) = absurd (omega (arith, e, h, le, long))

pub gives_commute : (p n q m : ℕ) (gs : List Extent) → 0 < n → 0 < m → (p + n ≤ q) ⊎ (q + m ≤ p) → AreGapsInOrder gs → MeetsNone p n gs → MeetsNone q m gs
    → give_joined q m (give_joined p n gs) ≡ give_joined p n (give_joined q m gs)
gives_commute p n q m gs some long (inl le) o a b = give_both p n q m gs some long le o (cover_apart p n gs some o a) (cover_apart q m gs long o b)
gives_commute p n q m gs some long (inr le) o a b = sym (give_both q m p n gs long some le o (cover_apart q m gs long o b) (cover_apart p n gs some o a))

-- ---- many gifts

-- ranges with bytes of their own, which no gap has, over gaps in order
record AreGifts (xs : List Extent) (heap : Heap) : Type 0 where
  long : AllByRecursion (λ (e : Extent). 0 < e.length) xs
  once : (b : ℕ) → cover (xs ++ heap.gaps) b ≤ 1
  order : AreGapsInOrder heap.gaps

range_has : (p n b : ℕ) → p ≤ b → b < p + n → in_range p n b ≡ 1
range_has p n b low high = grind (arith, nat_tests)

meets_none : (e : Extent) (xs : List Extent) (heap : Heap) → AreGifts (e ∷ xs) heap → MeetsNone e.place e.length heap.gaps
meets_none e xs heap g b low high =
    let one = g.once b in
    let own = range_has e.place e.length b low high in
    let both = cover-append xs heap.gaps b in
    omega (arith, one, own, both)

one_less : (e : Extent) (xs : List Extent) (heap : Heap) → AreGifts (e ∷ xs) heap → AreGifts xs (heap_give e.place e.length heap)
one_less e xs heap g = record {
  long = g.long.1;
  once = λ b.
      let one = g.once b in
      let given = cover-give_joined e.place e.length heap.gaps b in
      let before = cover-append xs heap.gaps b in
      let after = cover-append xs (give_joined e.place e.length heap.gaps) b in
      omega (arith, one, given, before, after);
  order = (give_keeps_order e.place e.length heap g.long.0 g.order (meets_none e xs heap g)).0;
}

long_first : (front : List Extent) (y : Extent) (bs : List Extent) → AllByRecursion (λ (e : Extent). 0 < e.length) (front ++ y ∷ bs) → AllByRecursion (λ (e : Extent). 0 < e.length) (y ∷ front ++ bs)
long_first [] y bs l = l
long_first (a ∷ front) y bs l = let rest = long_first front y bs l.1 in (rest.0, (l.0, rest.1))

to_front : (front : List Extent) (y : Extent) (bs : List Extent) (heap : Heap) → AreGifts (front ++ y ∷ bs) heap → AreGifts (y ∷ front ++ bs) heap
to_front front y bs heap g = record {
  long = long_first front y bs g.long;
  once = λ b.
      let one = g.once b in
      let whole = cover-append (front ++ y ∷ bs) heap.gaps b in
      let split = cover-append front (y ∷ bs) b in
      let after = cover-append (front ++ bs) heap.gaps b in
      let rest = cover-append front bs b in
      omega (arith, one, whole, split, after, rest);
  order = g.order;
}

-- two of them stand apart
two_apart : (a y : Extent) (xs : List Extent) (heap : Heap) → AreGifts (a ∷ y ∷ xs) heap → (a.place + a.length ≤ y.place) ⊎ (y.place + y.length ≤ a.place)
two_apart a y xs heap g = elim (leb_tells (a.place + a.length) y.place) [
  | inl h ↦ inl h.1
  | inr h ↦ elim (leb_tells (y.place + y.length) a.place) [
    | inl k ↦ inr k.1
    | inr k ↦ absurd (elim (leb_tells a.place y.place) [
      | inl low ↦ twice y.place low.1 h.1 (omega arith) (let long = g.long.1.0 in omega (arith, long))
      | inr low ↦ twice a.place (omega arith) (let long = g.long.0 in omega (arith, long)) (let lt = low.1 in omega (arith, lt)) k.1
    ])
  ]
]
  where
    twice : (b : ℕ) → a.place ≤ b → b < a.place + a.length → y.place ≤ b → b < y.place + y.length → ⊥
    twice b p q r s =
        let one = g.once b in
        let first = range_has a.place a.length b p q in
        let second = range_has y.place y.length b r s in
        omega (arith, one, first, second)

second_none : (a y : Extent) (xs : List Extent) (heap : Heap) → AreGifts (a ∷ y ∷ xs) heap → MeetsNone y.place y.length heap.gaps
second_none a y xs heap g b low high =
    let one = g.once b in
    let own = range_has y.place y.length b low high in
    let both = cover-append xs heap.gaps b in
    omega (arith, one, own, both)

two_gifts : (a y : Extent) (xs : List Extent) (heap : Heap) → AreGifts (a ∷ y ∷ xs) heap
    → heap_give y.place y.length (heap_give a.place a.length heap) ≡ heap_give a.place a.length (heap_give y.place y.length heap)
two_gifts a y xs heap g =
    ap (λ (gaps : List Extent). record heap { gaps = gaps })
    (gives_commute a.place a.length y.place y.length heap.gaps g.long.0 g.long.1.0 (two_apart a y xs heap g) g.order (meets_none a (y ∷ xs) heap g) (second_none a y xs heap g))

-- a gift may come first
gift_first : (front : List Extent) (y : Extent) (bs : List Extent) (heap : Heap) → AreGifts (front ++ y ∷ bs) heap → give_all (front ++ y ∷ bs) heap ≡ give_all (front ++ bs) (heap_give y.place y.length heap)
gift_first [] y bs heap g = refl
gift_first (a ∷ front) y bs heap g =
    gift_first front y bs (heap_give a.place a.length heap) (one_less a (front ++ y ∷ bs) heap g)
    ∙ ap (give_all (front ++ bs)) (two_gifts a y (front ++ bs) heap (swapped (to_front (a ∷ front) y bs heap g)))
  where
    swapped : AreGifts (y ∷ a ∷ (front ++ bs)) heap → AreGifts (a ∷ y ∷ (front ++ bs)) heap
    swapped h = record {
      long = (h.long.1.0, (h.long.0, h.long.1.1));
      once = λ b. let one = h.once b in omega (arith, one);
      order = h.order;
    }

-- ---- in any order

is_range : (p n : ℕ) (e : Extent) → ((e.place == p) && (e.length == n)) ≡ true → (e.place ≡ p) × (e.length ≡ n)
is_range p n e t = (grind (arith, nat_tests, t), grind (arith, nat_tests, t))

own_range : (e : Extent) → ((e.place == e.place) && (e.length == e.length)) ≡ true
own_range e = let p : (e.place == e.place) ≡ true = grind (arith, nat_tests) in let n : (e.length == e.length) ≡ true = grind (arith, nat_tests) in rw (p, n) refl

-- a range that stands in a list
record StandsIn (p n : ℕ) (xs : List Extent) : Type 0 where
  before : List Extent
  own : Extent
  behind : List Extent
  split : xs ≡ before ++ own ∷ behind
  same : (own.place ≡ p) × (own.length ≡ n)

found_in : (p n : ℕ) (xs : List Extent) → 0 < count_of p n xs → StandsIn p n xs
found_in p n [] some = absurd (omega (arith, some))
found_in p n (e ∷ es) some = by_test ((e.place == p) && (e.length == n)) refl some (found_in p n es)
  where
    by_test : (t : Bool) → ((e.place == p) && (e.length == n)) ≡ t → 0 < (cond t 1 0) + count_of p n es → (0 < count_of p n es → StandsIn p n es) → StandsIn p n (e ∷ es)
    by_test true is some later = record { before = []; own = e; behind = es; split = refl; same = is_range p n e is }
    by_test false is some later = let rest = later (omega (arith, some)) in record { before = e ∷ rest.before; own = rest.own; behind = rest.behind; split = ap (λ xs. e ∷ xs) rest.split; same = rest.same }

count-append : (p n : ℕ) (xs ys : List Extent) → count_of p n (xs ++ ys) ≡ count_of p n xs + count_of p n ys
count-append p n [] ys = omega arith
count-append p n (x ∷ xs) ys = let rest = count-append p n xs ys in omega (arith, rest)

count_itself : (e : Extent) (es : List Extent) → 0 < count_of e.place e.length (e ∷ es)
count_itself e es = let own = own_range e in rw own (omega arith)

gifts_alike : (xs ys : List Extent) (heap : Heap) → AreGifts ys heap → HasSameRanges xs ys → give_all xs heap ≡ give_all ys heap
gifts_alike [] [] heap g same = refl
gifts_alike [] (y ∷ ys) heap g same = let none = same y.place y.length in let some = count_itself y ys in absurd (omega (arith, none, some))
gifts_alike (x ∷ xs) ys heap g same = by_split (λ zs next h k. gifts_alike xs zs next h k) (found_in x.place x.length ys (let all = same x.place x.length in let some = count_itself x xs in omega (arith, all, some)))
  where
    by_split : ((zs : List Extent) (next : Heap) → AreGifts zs next → HasSameRanges xs zs → give_all xs next ≡ give_all zs next) → StandsIn x.place x.length ys → give_all (x ∷ xs) heap ≡ give_all ys heap
    by_split later s =
        let gifts = subst (λ zs. AreGifts zs heap) s.split g in
        let fewer = one_less s.own (s.before ++ s.behind) heap (to_front s.before s.own s.behind heap gifts) in
        ap (λ n. give_all xs (heap_give x.place n heap)) (sym s.same.1) ∙ ap (λ p. give_all xs (heap_give p s.own.length heap)) (sym s.same.0)
        ∙ later (s.before ++ s.behind) (heap_give s.own.place s.own.length heap) fewer (λ p n. without s p n)
        ∙ sym (gift_first s.before s.own s.behind heap gifts) ∙ sym (ap (λ zs. give_all zs heap) s.split)
      where
        without : (s : StandsIn x.place x.length ys) (p n : ℕ) → count_of p n xs ≡ count_of p n (s.before ++ s.behind)
        without s p n =
            let all = same p n ∙ ap (count_of p n) s.split in
            let one = count-append p n s.before (s.own ∷ s.behind) in
            let two = count-append p n s.before s.behind in
            let own : count_of p n (s.own ∷ []) ≡ count_of p n (x ∷ []) = ap (λ k. count_of p n (extent s.own.kind s.own.place k ∷ [])) s.same.1 ∙ ap (λ k. count_of p n (extent s.own.kind k x.length ∷ [])) s.same.0 in
            omega (arith, all, one, two, own)

-- ranges that differ in their order alone leave the same heap
pub gives_in_any_order : (xs ys : List Extent) (heap : Heap) → AllByRecursion (λ (e : Extent). 0 < e.length) xs → ((b : ℕ) → cover (xs ++ heap.gaps) b ≤ 1) → AreGapsInOrder heap.gaps → HasSameRanges xs ys → give_all xs heap ≡ give_all ys heap
gives_in_any_order xs ys heap long once order same = sym (gifts_alike ys xs heap (record { long = long; once = once; order = order }) (λ p n. sym (same p n)))
