-- Gaps in order are determined by the bytes that they cover and by the free chunks among them.
use Rattle.std.proofs.Common.{◌≡◌, ◌⊎◌, inl, inr, ℕ, suc, refl, sym, ◌∙◌, ap, subst, arith, List, [], ◌∷◌, filter, ◌+◌, ◌<◌, ◌≤◌, Bool, true, false, cond}
use Rattle.std.proofs.lemmas.Bool.Decides.{nat_tests, leb_tells}
use Rattle.std.specs.Prelude.{nat_le, nat_lt, ◌&&◌, ◌==◌}
use Rattle.adf_format.specs.declared.types.Extent.{Extent}
use Rattle.adf_format.specs.declared.types.ExtentKind.{ExtentKind}
use Rattle.adf_format.specs.Tiles.{cover, holds_byte, end_of, is_free, is_free_kind, is_filler, is_filler_kind}
use Rattle.adf_format.specs.LaysOut.{IsGap, AreGapsInOrder, count_of, HasSameRanges}
use Rattle.adf_model.proofs.Basics.{and_parts, not_true, equal}
use Rattle.layout_laws.specs.TilePass.{AllFrom}
use Rattle.layout_laws.proofs.TilePassLaws.{from_none}
use Rattle.layout_laws.proofs.FoundLayoutLaws.{filler_is_not_free}
use Rattle.layout_laws.proofs.VisitExtents.{first_byte}

-- ---- gaps in order

later : (m n : ℕ) (gs : List Extent) → m ≤ n → AllFrom n gs → AllFrom m gs
later m n [] le h = tt
later m n (g ∷ gs) le h = ((let k = h.0 in omega (arith, le, k)), later m n gs le h.1)

-- gaps behind a gap stand from its end on
behind : (g : Extent) (gs : List Extent) → AreGapsInOrder (g ∷ gs) → AllFrom (end_of g) gs
behind g [] o = tt
behind g (h ∷ hs) o = (o.1.0, later (end_of g) (end_of h) hs (let a = o.1.0 in omega (arith, a)) (behind h hs o.2))

no_range : (n place length : ℕ) (gs : List Extent) → AllFrom n gs → place < n → count_of place length (filter is_free gs) ≡ 0
no_range n place length [] h lt = refl
no_range n place length (g ∷ gs) h lt = by_test (is_free g) refl (no_range n place length gs h.1 lt)
  where
    differ : (p : ℕ) → n ≤ p → (p == place) ≡ false
    differ p le = grind (arith, nat_tests, lt)

    by_test : (t : Bool) → is_free g ≡ t → count_of place length (filter is_free gs) ≡ 0 → count_of place length (filter is_free (g ∷ gs)) ≡ 0
    by_test true e ih = let d = differ g.place h.0 in rw (e, d) (omega (arith, ih))
    by_test false e ih = rw e ih

-- the first gap's own bytes
first_held : (g : Extent) (gs : List Extent) → AreGapsInOrder (g ∷ gs) → 1 ≤ cover (g ∷ gs) g.place
first_held g gs o = let one = first_byte g o.0.0 in rw one (omega arith)

first_least : (g : Extent) (gs : List Extent) (b : ℕ) → AreGapsInOrder (g ∷ gs) → b < g.place → cover (g ∷ gs) b ≡ 0
first_least g gs b o lt = from_none g.place (g ∷ gs) b ((omega arith), later g.place (end_of g) gs (omega arith) (behind g gs o)) lt

same_first : (g : Extent) (gs : List Extent) (h : Extent) (hs : List Extent) → AreGapsInOrder (g ∷ gs) → AreGapsInOrder (h ∷ hs) → ((b : ℕ) → cover (g ∷ gs) b ≡ cover (h ∷ hs) b) → g.place ≡ h.place
same_first g gs h hs o r same = by_place (leb_tells (suc g.place) h.place) (leb_tells (suc h.place) g.place)
  where
    by_place : ((nat_le (suc g.place) h.place ≡ true) × (suc g.place ≤ h.place)) ⊎ ((nat_le (suc g.place) h.place ≡ false) × (h.place < suc g.place)) → ((nat_le (suc h.place) g.place ≡ true) × (suc h.place ≤ g.place)) ⊎ ((nat_le (suc h.place) g.place ≡ false) × (g.place < suc h.place)) → g.place ≡ h.place
    by_place (inl k) m = let lt = k.1 in let one = first_held g gs o in let s = same g.place in let none = first_least h hs g.place r (omega (arith, lt)) in absurd (omega (arith, one, s, none))
    by_place (inr k) (inl m) = let lt = m.1 in let one = first_held h hs r in let s = same h.place in let none = first_least g gs h.place o (omega (arith, lt)) in absurd (omega (arith, one, s, none))
    by_place (inr k) (inr m) = let a = k.1 in let b = m.1 in omega (arith, a, b)

-- ---- the first free chunk

counts_one : (g : Extent) (rest : List Extent) → 1 ≤ count_of g.place g.length (g ∷ rest)
counts_one g rest = rw (same g.place, same g.length) (omega arith)
  where
    same : (n : ℕ) → (n == n) ≡ true
    same n = grind (arith, nat_tests)

-- where a free chunk is the first of the one, it is the first of the other
free_first : (g : Extent) (gs : List Extent) (h : Extent) (hs : List Extent) → AreGapsInOrder (h ∷ hs) → HasSameRanges (filter is_free (g ∷ gs)) (filter is_free (h ∷ hs)) → g.place ≡ h.place → is_free g ≡ true → (is_free h ≡ true) × (h.length ≡ g.length)
free_first g gs h hs r same place free = by_free (is_free h) refl counted
  where
    counted : 1 ≤ count_of g.place g.length (filter is_free (h ∷ hs))
    counted = subst (λ n. 1 ≤ n) (ap (λ t. count_of g.place g.length (cond t (g ∷ filter is_free gs) (filter is_free gs))) (sym free) ∙ same g.place g.length) (counts_one g (filter is_free gs))

    none : count_of g.place g.length (filter is_free hs) ≡ 0
    none = no_range (end_of h) g.place g.length hs (behind h hs r) (let some = r.0.0 in omega (arith, place, some))

    by_free : (t : Bool) → is_free h ≡ t → 1 ≤ count_of g.place g.length (cond t (h ∷ filter is_free hs) (filter is_free hs)) → (t ≡ true) × (h.length ≡ g.length)
    by_free true e c = (refl, by_length ((h.place == g.place) && (h.length == g.length)) refl c)
      where
        by_length : (u : Bool) → ((h.place == g.place) && (h.length == g.length)) ≡ u → 1 ≤ cond u 1 0 + count_of g.place g.length (filter is_free hs) → h.length ≡ g.length
        by_length true f c = equal h.length g.length (and_parts (h.place == g.place) (h.length == g.length) f).1
        by_length false f c = absurd (let n = none in omega (arith, n, c))
    by_free false e c = absurd (let n = none in omega (arith, n, c))

-- ---- the first filler

filler_of : (g : Extent) → IsGap g → is_free g ≡ false → is_filler g ≡ true
filler_of g (pos, inl f) e = absurd (not_true (sym e ∙ f.0))
filler_of g (pos, inr f) e = f

-- a filler is no shorter than one of the other gaps at its place
no_shorter : (g : Extent) (gs : List Extent) (h : Extent) (hs : List Extent) → AreGapsInOrder (g ∷ gs) → AreGapsInOrder (h ∷ hs) → ((b : ℕ) → cover (g ∷ gs) b ≡ cover (h ∷ hs) b) → HasSameRanges (filter is_free (g ∷ gs)) (filter is_free (h ∷ hs)) → g.place ≡ h.place → is_filler g ≡ true → is_filler h ≡ true → g.length < h.length → ⊥
no_shorter g gs h hs o r same ranges place fg fh lt = by_next gs refl
  where
    held : 1 ≤ cover (h ∷ hs) (end_of g)
    held = let some = o.0.0 in let one : holds_byte h (end_of g) ≡ true = inside h.place h.length (g.place + g.length) (omega (arith, place)) (omega (arith, place, lt)) in rw one (omega arith)
      where
        inside : (p n x : ℕ) → p ≤ x → x < p + n → (nat_le p x && nat_lt x (p + n)) ≡ true
        inside p n x low high = grind (arith, nat_tests)

    not_held : holds_byte g (end_of g) ≡ false
    not_held = after g.place g.length
      where
        after : (p n : ℕ) → (nat_le p (p + n) && nat_lt (p + n) (p + n)) ≡ false
        after p n = grind (arith, nat_tests)

    rest_held : 1 ≤ cover gs (end_of g)
    rest_held = let s = same (end_of g) in let a = held in let c : cover (g ∷ gs) (end_of g) ≡ 0 + cover gs (end_of g) = ap (λ t. cond t 1 0 + cover gs (end_of g)) not_held in omega (arith, s, a, c)

    by_next : (xs : List Extent) → gs ≡ xs → ⊥
    by_next [] e = let a : 1 ≤ 0 = subst (λ xs. 1 ≤ cover xs (end_of g)) e rest_held in omega (arith, a)
    by_next (x ∷ xs) e =
        let order : AreGapsInOrder (g ∷ x ∷ xs) = subst (λ ys. AreGapsInOrder (g ∷ ys)) e o in
        let rest : 1 ≤ cover (x ∷ xs) (end_of g) = subst (λ ys. 1 ≤ cover ys (end_of g)) e rest_held in
        by_place order rest (leb_tells (suc (end_of g)) x.place)
      where
        by_place : AreGapsInOrder (g ∷ x ∷ xs) → 1 ≤ cover (x ∷ xs) (end_of g) → ((nat_le (suc (end_of g)) x.place ≡ true) × (suc (end_of g) ≤ x.place)) ⊎ ((nat_le (suc (end_of g)) x.place ≡ false) × (x.place < suc (end_of g))) → ⊥
        by_place order rest (inl k) = let none = first_least x xs (end_of g) order.2 k.1 in omega (arith, rest, none)
        by_place order rest (inr k) = by_kind (is_filler x) refl
          where
            by_kind : (t : Bool) → is_filler x ≡ t → ⊥
            by_kind true f = let apart = order.1.1 fg f in let near = k.1 in omega (arith, apart, near)
            by_kind false f =
                let free : is_free x ≡ true = free_of x order.2.0 f in
                let at : x.place ≡ end_of g = (let low = order.1.0 in let high = k.1 in omega (arith, low, high)) in
                let listed : 1 ≤ count_of x.place x.length (filter is_free (g ∷ x ∷ xs)) = rw (filler_is_not_free g fg, free) (counts_one x (filter is_free xs)) in
                let there : 1 ≤ count_of x.place x.length (filter is_free (h ∷ hs)) = subst (λ n. 1 ≤ n) (ranges x.place x.length) (subst (λ ys. 1 ≤ count_of x.place x.length (filter is_free (g ∷ ys))) (sym e) listed) in
                let none : count_of x.place x.length (filter is_free hs) ≡ 0 = no_range (end_of h) x.place x.length hs (behind h hs r) (omega (arith, at, place, lt)) in
                let skip : count_of x.place x.length (filter is_free (h ∷ hs)) ≡ count_of x.place x.length (filter is_free hs) = ap (λ t. count_of x.place x.length (cond t (h ∷ filter is_free hs) (filter is_free hs))) (filler_is_not_free h fh) in
                omega (arith, there, none, skip)
              where
                free_of : (x : Extent) → IsGap x → is_filler x ≡ false → is_free x ≡ true
                free_of x (pos, inl f) e = f.0
                free_of x (pos, inr f) e = absurd (not_true (sym e ∙ f))

-- ---- all gaps

filler_kind : (k : ExtentKind) → is_filler_kind k ≡ true → k ≡ ExtentKind.Filler
filler_kind ExtentKind.Filler e = refl
filler_kind ExtentKind.FreeChunk e = cc
filler_kind ExtentKind.Header e = cc
filler_kind ExtentKind.FreeTable e = cc
filler_kind ExtentKind.Node e = cc
filler_kind ExtentKind.SubNodes e = cc
filler_kind ExtentKind.DataChunk e = cc
filler_kind ExtentKind.ChunkTable e = cc

free_kind : (k : ExtentKind) → is_free_kind k ≡ true → k ≡ ExtentKind.FreeChunk
free_kind ExtentKind.FreeChunk e = refl
free_kind ExtentKind.Filler e = cc
free_kind ExtentKind.Header e = cc
free_kind ExtentKind.FreeTable e = cc
free_kind ExtentKind.Node e = cc
free_kind ExtentKind.SubNodes e = cc
free_kind ExtentKind.DataChunk e = cc
free_kind ExtentKind.ChunkTable e = cc

same_extent : (g h : Extent) → g.place ≡ h.place → g.length ≡ h.length → g.kind ≡ h.kind → g ≡ h
same_extent g h a b c =
    ap (λ n. record { place = n; length = g.length; kind = g.kind }) a ∙ ap (λ n. record { place = h.place; length = n; kind = g.kind }) b ∙ ap (λ k. record { place = h.place; length = h.length; kind = k }) c

one_first : (g : Extent) (gs : List Extent) (h : Extent) (hs : List Extent) → AreGapsInOrder (g ∷ gs) → AreGapsInOrder (h ∷ hs) → ((b : ℕ) → cover (g ∷ gs) b ≡ cover (h ∷ hs) b) → HasSameRanges (filter is_free (g ∷ gs)) (filter is_free (h ∷ hs)) → g ≡ h
one_first g gs h hs o r same ranges = by_free (is_free g) refl
  where
    place : g.place ≡ h.place
    place = same_first g gs h hs o r same

    by_length : is_filler g ≡ true → is_filler h ≡ true → g.length ≡ h.length
    by_length fg fh = of_tests (leb_tells (suc g.length) h.length) (leb_tells (suc h.length) g.length)
      where
        of_tests : ((nat_le (suc g.length) h.length ≡ true) × (suc g.length ≤ h.length)) ⊎ ((nat_le (suc g.length) h.length ≡ false) × (h.length < suc g.length)) → ((nat_le (suc h.length) g.length ≡ true) × (suc h.length ≤ g.length)) ⊎ ((nat_le (suc h.length) g.length ≡ false) × (g.length < suc h.length)) → g.length ≡ h.length
        of_tests (inl k) m = absurd (no_shorter g gs h hs o r same ranges place fg fh k.1)
        of_tests (inr k) (inl m) = absurd (no_shorter h hs g gs r o (λ b. sym (same b)) (λ p n. sym (ranges p n)) (sym place) fh fg m.1)
        of_tests (inr k) (inr m) = let a = k.1 in let b = m.1 in omega (arith, a, b)

    by_other : is_free g ≡ false → (t : Bool) → is_free h ≡ t → g ≡ h
    by_other e true f = absurd (not_true (sym e ∙ (free_first h hs g gs o (λ p n. sym (ranges p n)) (sym place) f).0))
    by_other e false f =
        let fg = filler_of g o.0 e in
        let fh = filler_of h r.0 f in
        same_extent g h place (by_length fg fh) (filler_kind g.kind fg ∙ sym (filler_kind h.kind fh))

    by_free : (t : Bool) → is_free g ≡ t → g ≡ h
    by_free true e = let other = free_first g gs h hs r ranges place e in same_extent g h place (sym other.1) (free_kind g.kind e ∙ sym (free_kind h.kind other.0))
    by_free false e = by_other e (is_free h) refl

pub one_list : (xs ys : List Extent) → AreGapsInOrder xs → AreGapsInOrder ys → ((b : ℕ) → cover xs b ≡ cover ys b) → HasSameRanges (filter is_free xs) (filter is_free ys) → xs ≡ ys
one_list [] [] o r same ranges = refl
one_list [] (y ∷ ys) o r same ranges = absurd (let one = first_held y ys r in let s = same y.place in omega (arith, one, s))
one_list (x ∷ xs) [] o r same ranges = absurd (let one = first_held x xs o in let s = same x.place in omega (arith, one, s))
one_list (x ∷ xs) (y ∷ ys) o r same ranges =
    let first : x ≡ y = one_first x xs y ys o r same ranges in
    ap (λ e. e ∷ xs) first ∙ ap (λ es. y ∷ es) (one_list xs ys o.2 r.2 (λ b. covers b first) (λ p n. counts p n first (is_free y) refl))
  where
    cancel : (a b c : ℕ) → a + b ≡ a + c → b ≡ c
    cancel a b c e = omega (arith, e)

    covers : (b : ℕ) → x ≡ y → cover xs b ≡ cover ys b
    covers b first = cancel (cond (holds_byte y b) 1 0) (cover xs b) (cover ys b) (ap (λ (e : Extent). cond (holds_byte e b) 1 0 + cover xs b) (sym first) ∙ same b)

    counts : (p n : ℕ) → x ≡ y → (t : Bool) → is_free y ≡ t → count_of p n (filter is_free xs) ≡ count_of p n (filter is_free ys)
    counts p n first t e = by_test t e (ap (λ (z : Extent). count_of p n (filter is_free (z ∷ xs))) (sym first) ∙ ranges p n)
      where
        by_test : (t : Bool) → is_free y ≡ t → count_of p n (cond (is_free y) (y ∷ filter is_free xs) (filter is_free xs)) ≡ count_of p n (cond (is_free y) (y ∷ filter is_free ys) (filter is_free ys)) → count_of p n (filter is_free xs) ≡ count_of p n (filter is_free ys)
        by_test true f h = cancel (cond ((y.place == p) && (y.length == n)) 1 0) (count_of p n (filter is_free xs)) (count_of p n (filter is_free ys)) (subst (λ u. count_of p n (cond u (y ∷ filter is_free xs) (filter is_free xs)) ≡ count_of p n (cond u (y ∷ filter is_free ys) (filter is_free ys))) f h)
        by_test false f h = subst (λ u. count_of p n (cond u (y ∷ filter is_free xs) (filter is_free xs)) ≡ count_of p n (cond u (y ∷ filter is_free ys) (filter is_free ys))) f h
