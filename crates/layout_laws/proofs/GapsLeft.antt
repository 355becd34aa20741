-- What extents leave of a file, as gaps in order: a scan over the bytes, which puts each free chunk where it begins and joins the bytes that nothing holds.
use Rattle.std.proofs.Common.{◌≡◌, ◌⊎◌, inl, inr, ℕ, zero, suc, refl, sym, ◌∙◌, ap, subst, arith, List, [], ◌∷◌, ◌++◌, filter, ◌+◌, ◌<◌, ◌≤◌, Bool, true, false, cond}
use Rattle.std.proofs.lemmas.Bool.Decides.{nat_tests, leb_tells, eqb_tells}
use Rattle.std.specs.Prelude.{nat_le, nat_lt, ◌&&◌, ◌==◌}
use Rattle.std.specs.List.{AllByRecursion}
use Rattle.adf_format.specs.declared.types.Extent.{Extent}
use Rattle.adf_format.specs.declared.types.ExtentKind.{ExtentKind}
use Rattle.adf_format.specs.Tiles.{cover, holds_byte, end_of, is_free, is_filler}
use Rattle.adf_format.specs.Placement.{extent}
use Rattle.adf_format.specs.LaysOut.{StandsBefore, AreGapsInOrder, HasSameRanges}
use Rattle.adf_format.specs.HeapRule.{before_gaps}
use Rattle.adf_format.proofs.GapLaws.{BeginFrom, before_gaps_in_order}
use Rattle.adf_format.proofs.HeapLaws.{cover-before_gaps, in_range}
use Rattle.adf_format.proofs.HeapSteps.{cover-append}
use Rattle.adf_model.proofs.Basics.{not_true, equal}
use Rattle.layout_laws.proofs.FoundLayoutLaws.{filler_is_not_free}
use Rattle.layout_laws.proofs.Ranges.{weigh, cover_weighs, count_weighs, one_for, holds_one, cover-filter}
use Rattle.layout_laws.proofs.VisitExtents.{first_byte}

abbrev pub at_place : ℕ → List Extent → List Extent
at_place b fs = filter (λ (e : Extent). e.place == b) fs

abbrev pub from_place : ℕ → List Extent → List Extent
from_place b fs = filter (λ (e : Extent). nat_le b e.place) fs

-- ---- weights

weigh-append : (w : ℕ → ℕ → ℕ) (xs ys : List Extent) → weigh w (xs ++ ys) ≡ weigh w xs + weigh w ys
weigh-append w [] ys = omega arith
weigh-append w (x ∷ xs) ys = ap (λ n. w x.place x.length + n) (weigh-append w xs ys) ∙ assoc (w x.place x.length) (weigh w xs) (weigh w ys)
  where
    assoc : (a b c : ℕ) → a + (b + c) ≡ a + b + c
    assoc a b c = omega arith

-- those from a place on are those at it and those behind it
split_place : (w : ℕ → ℕ → ℕ) (b : ℕ) (fs : List Extent) → weigh w (from_place b fs) ≡ weigh w (at_place b fs) + weigh w (from_place (suc b) fs)
split_place w b [] = refl
split_place w b (e ∷ es) = by_place (eqb_tells e.place b) (leb_tells (suc b) e.place) (split_place w b es)
  where
    assoc : (a b c d : ℕ) → a ≡ b + c → d + a ≡ d + b + c
    assoc a b c d e = omega (arith, e)

    swap : (a b c d : ℕ) → a ≡ b + c → d + a ≡ b + (d + c)
    swap a b c d e = omega (arith, e)

    at : (p b : ℕ) → p ≡ b → nat_le b p ≡ true
    at p b e = grind (arith, nat_tests)

    not_behind : (p b : ℕ) → p ≡ b → nat_le (suc b) p ≡ false
    not_behind p b e = grind (arith, nat_tests)

    behind : (p b : ℕ) → suc b ≤ p → nat_le b p ≡ true
    behind p b h = grind (arith, nat_tests)

    before : (p b : ℕ) → (p ≡ b → ⊥) → p < suc b → nat_le b p ≡ false
    before p b differ h = below p b (less p b differ h)
      where
        less : (p b : ℕ) → (p ≡ b → ⊥) → p < suc b → p < b
        less p b differ h = elim (leb_tells (suc p) b) [ inl k ↦ k.1 | inr k ↦ absurd (differ (let g = k.1 in omega (arith, h, g))) ]

        below : (p b : ℕ) → p < b → nat_le b p ≡ false
        below p b h = grind (arith, nat_tests)

    by_place : (((e.place == b) ≡ true) × (e.place ≡ b)) ⊎ (((e.place == b) ≡ false) × (e.place ≡ b → ⊥)) → ((nat_le (suc b) e.place ≡ true) × (suc b ≤ e.place)) ⊎ ((nat_le (suc b) e.place ≡ false) × (e.place < suc b))
        → weigh w (from_place b es) ≡ weigh w (at_place b es) + weigh w (from_place (suc b) es) → weigh w (from_place b (e ∷ es)) ≡ weigh w (at_place b (e ∷ es)) + weigh w (from_place (suc b) (e ∷ es))
    by_place (inl s) k ih = rw (s.0, at e.place b s.1, not_behind e.place b s.1) (assoc _ _ _ _ ih)
    by_place (inr s) (inl k) ih = rw (s.0, behind e.place b k.1, k.0) (swap _ _ _ _ ih)
    by_place (inr s) (inr k) ih = rw (s.0, before e.place b s.1 k.1, k.0) ih

cover_split : (b : ℕ) (fs : List Extent) (x : ℕ) → cover (from_place b fs) x ≡ cover (at_place b fs) x + cover (from_place (suc b) fs) x
cover_split b fs x = cover_weighs x (from_place b fs) ∙ split_place (holds_one x) b fs ∙ ap (λ n. n + weigh (holds_one x) (from_place (suc b) fs)) (sym (cover_weighs x (at_place b fs))) ∙ ap (λ n. cover (at_place b fs) x + n) (sym (cover_weighs x (from_place (suc b) fs)))

abbrev AllFree : List Extent → Type 0
AllFree fs = AllByRecursion (λ (e : Extent). (is_free e ≡ true) × (32 ≤ e.length)) fs

free-filter : (w : ℕ → ℕ → ℕ) (test : Extent → Bool) (fs : List Extent) → AllFree fs → weigh w (filter is_free (filter test fs)) ≡ weigh w (filter test fs)
free-filter w test [] h = refl
free-filter w test (e ∷ es) h = by_test (test e) refl (free-filter w test es h.1)
  where
    by_test : (t : Bool) → test e ≡ t → weigh w (filter is_free (filter test es)) ≡ weigh w (filter test es) → weigh w (filter is_free (filter test (e ∷ es))) ≡ weigh w (filter test (e ∷ es))
    by_test true k ih = rw (k, h.0.0) (ap (λ n. w e.place e.length + n) ih)
    by_test false k ih = rw k ih

free-append : (w : ℕ → ℕ → ℕ) (xs ys : List Extent) → weigh w (filter is_free (xs ++ ys)) ≡ weigh w (filter is_free xs) + weigh w (filter is_free ys)
free-append w [] ys = omega arith
free-append w (x ∷ xs) ys = by_test (is_free x) refl (free-append w xs ys)
  where
    assoc : (a b c d : ℕ) → a ≡ b + c → d + a ≡ d + b + c
    assoc a b c d e = omega (arith, e)

    by_test : (t : Bool) → is_free x ≡ t → weigh w (filter is_free (xs ++ ys)) ≡ weigh w (filter is_free xs) + weigh w (filter is_free ys) → weigh w (filter is_free (x ∷ xs ++ ys)) ≡ weigh w (filter is_free (x ∷ xs)) + weigh w (filter is_free ys)
    by_test true k ih = rw k (assoc _ _ _ _ ih)
    by_test false k ih = rw k ih

-- a filler before gaps adds no free chunk
free-filled : (b : ℕ) (gs : List Extent) → filter is_free (before_gaps (extent ExtentKind.Filler b 1) gs) ≡ filter is_free gs
free-filled b [] = refl
free-filled b (h ∷ gs) = by_test (is_filler h && (b + 1 == h.place)) refl
  where
    left : (a c : Bool) → (a && c) ≡ true → a ≡ true
    left true c e = refl
    left false c e = cc

    by_test : (t : Bool) → (is_filler h && (b + 1 == h.place)) ≡ t → filter is_free (cond t (extent ExtentKind.Filler b (1 + h.length) ∷ gs) (extent ExtentKind.Filler b 1 ∷ h ∷ gs)) ≡ filter is_free (h ∷ gs)
    by_test true e = let out : is_free h ≡ false = filler_is_not_free h (left (is_filler h) (b + 1 == h.place) e) in rw out refl
    by_test false e = refl

begin_filled : (b : ℕ) (gs : List Extent) → BeginFrom b (before_gaps (extent ExtentKind.Filler b 1) gs)
begin_filled b [] = omega arith
begin_filled b (h ∷ gs) = by_test (is_filler h && (b + 1 == h.place))
  where
    by_test : (t : Bool) → BeginFrom b (cond t (extent ExtentKind.Filler b (1 + h.length) ∷ gs) (extent ExtentKind.Filler b 1 ∷ h ∷ gs))
    by_test true = omega arith
    by_test false = omega arith

-- ---- the scan

module _ (found fs : List Extent) where
  abbrev is_bare : ℕ → Bool
  is_bare b = cover found b == 0

  abbrev filled : ℕ → List Extent → List Extent
  filled b rest = cond (cover found b == 0) (before_gaps (extent ExtentKind.Filler b 1) rest) rest

  -- the gaps of n bytes from b on
  abbrev pub scan : ℕ → ℕ → List Extent
  scan zero b = []
  scan (suc n) b = at_place b fs ++ filled b (scan n (suc b))

  abbrev bare_at : ℕ → ℕ → ℕ
  bare_at b x = cond (cover found b == 0) (in_range b 1 x) 0

  abbrev bare : ℕ → ℕ → ℕ → ℕ
  bare zero b x = 0
  bare (suc n) b x = bare_at b x + bare n (suc b) x

  cover_filled : (b : ℕ) (rest : List Extent) (x : ℕ) → cover (filled b rest) x ≡ bare_at b x + cover rest x
  cover_filled b rest x = by_test (cover found b == 0)
    where
      plain : (n : ℕ) → n ≡ 0 + n
      plain n = omega arith

      by_test : (t : Bool) → cover (cond t (before_gaps (extent ExtentKind.Filler b 1) rest) rest) x ≡ cond t (in_range b 1 x) 0 + cover rest x
      by_test true = cover-before_gaps (extent ExtentKind.Filler b 1) rest x
      by_test false = plain (cover rest x)

  shift : (b n : ℕ) → b + suc n ≡ suc b + n
  shift b n = omega arith

  scan_cover : (n b x : ℕ) → cover (scan n b) x + cover (from_place (b + n) fs) x ≡ cover (from_place b fs) x + bare n b x
  scan_cover zero b x = ap (λ k. 0 + cover (from_place k fs) x) (none b) ∙ swap (cover (from_place b fs) x)
    where
      none : (b : ℕ) → b + 0 ≡ b
      none b = omega arith

      swap : (n : ℕ) → 0 + n ≡ n + 0
      swap n = omega arith
  scan_cover (suc n) b x =
      let ih = scan_cover n (suc b) x in
      let a = cover-append (at_place b fs) (filled b (scan n (suc b))) x in
      let c = cover_filled b (scan n (suc b)) x in
      let d = cover_split b fs x in
      let e = ap (λ k. cover (from_place k fs) x) (shift b n) in
      sums _ _ _ _ _ _ _ _ _ _ a c d e ih
    where
      sums : (whole here part one rest from later after last bares : ℕ) → whole ≡ here + part → part ≡ one + rest → from ≡ here + later → after ≡ last → rest + last ≡ later + bares → whole + after ≡ from + (one + bares)
      sums whole here part one rest from later after last bares a c d e ih = omega (arith, a, c, d, e, ih)

  not_here : (b x : ℕ) → (x < b) ⊎ (b + 1 ≤ x) → bare_at b x ≡ 0
  not_here b x h = by_test (cover found b == 0)
    where
      out : (x < b) ⊎ (b + 1 ≤ x) → in_range b 1 x ≡ 0
      out (inl k) = grind (arith, nat_tests)
      out (inr k) = grind (arith, nat_tests)

      by_test : (t : Bool) → cond t (in_range b 1 x) 0 ≡ 0
      by_test true = out h
      by_test false = refl

  here : (b x : ℕ) → b ≡ x → bare_at b x ≡ cond (cover found x == 0) 1 0
  here b x e = subst (λ k. bare_at k x ≡ cond (cover found x == 0) 1 0) (sym e) (by_test (cover found x == 0))
    where
      one : (x : ℕ) → in_range x 1 x ≡ 1
      one x = grind (arith, nat_tests)

      by_test : (t : Bool) → cond t (in_range x 1 x) 0 ≡ cond t 1 0
      by_test true = one x
      by_test false = refl

  bare_out : (n b x : ℕ) → (x < b) ⊎ (b + n ≤ x) → bare n b x ≡ 0
  bare_out zero b x h = refl
  bare_out (suc n) b x (inl h) = let first = not_here b x (inl h) in let rest = bare_out n (suc b) x (inl (omega (arith, h))) in omega (arith, first, rest)
  bare_out (suc n) b x (inr h) = let first = not_here b x (inr (omega (arith, h))) in let rest = bare_out n (suc b) x (inr (omega (arith, h))) in omega (arith, first, rest)

  bare_in : (n b x : ℕ) → b ≤ x → x < b + n → bare n b x ≡ cond (cover found x == 0) 1 0
  bare_in zero b x low high = absurd (omega (arith, low, high))
  bare_in (suc n) b x low high = by_place (leb_tells (suc b) x) (bare_in n (suc b) x)
    where
      none : (n : ℕ) → 0 + n ≡ n
      none n = omega arith

      plus : (n : ℕ) → n + 0 ≡ n
      plus n = omega arith

      by_place : ((nat_le (suc b) x ≡ true) × (suc b ≤ x)) ⊎ ((nat_le (suc b) x ≡ false) × (x < suc b)) → (suc b ≤ x → x < suc b + n → bare n (suc b) x ≡ cond (cover found x == 0) 1 0) → bare_at b x + bare n (suc b) x ≡ cond (cover found x == 0) 1 0
      by_place (inl k) ih = let above = k.1 in ap (λ m. m + bare n (suc b) x) (not_here b x (inr (omega (arith, above)))) ∙ none (bare n (suc b) x) ∙ ih above (omega (arith, high))
      by_place (inr k) ih =
          let below = k.1 in
          ap (λ m. bare_at b x + m) (bare_out n (suc b) x (inl (omega (arith, below)))) ∙ plus (bare_at b x) ∙ here b x (omega (arith, low, below))

  bare_few : (n b x : ℕ) → bare n b x ≤ cond (cover found x == 0) 1 0
  bare_few n b x = by_low (leb_tells b x) (leb_tells (suc x) (b + n))
    where
      by_low : ((nat_le b x ≡ true) × (b ≤ x)) ⊎ ((nat_le b x ≡ false) × (x < b)) → ((nat_le (suc x) (b + n) ≡ true) × (suc x ≤ b + n)) ⊎ ((nat_le (suc x) (b + n) ≡ false) × (b + n < suc x)) → bare n b x ≤ cond (cover found x == 0) 1 0
      by_low (inl h) (inl k) = rw (bare_in n b x h.1 k.1) (omega arith)
      by_low (inl h) (inr k) = let g = k.1 in rw (bare_out n b x (inr (omega (arith, g)))) (omega arith)
      by_low (inr h) k = rw (bare_out n b x (inl h.1)) (omega arith)

  -- ---- no byte in two gaps

  module _ (once : (x : ℕ) → cover found x ≤ 1) (part : (x : ℕ) → cover fs x ≤ cover found x) (free : AllFree fs) where
    scan_once : (n b x : ℕ) → cover (scan n b) x ≤ 1
    scan_once n b x =
        let a = scan_cover n b x in
        let c = bare_few n b x in
        let d = cover-filter (λ (e : Extent). nat_le b e.place) fs x in
        let e = part x in
        let f = once x in
        by_test (cover found x == 0) refl (at_most _ _ _ _ _ a c d)
      where
        at_most : (gaps after from bares most : ℕ) → gaps + after ≡ from + bares → bares ≤ most → from ≤ cover fs x → gaps ≤ cover fs x + most
        at_most gaps after from bares most a c d = omega (arith, a, c, d)

        by_test : (t : Bool) → (cover found x == 0) ≡ t → cover (scan n b) x ≤ cover fs x + cond t 1 0 → cover (scan n b) x ≤ 1
        by_test true t h = let none = equal (cover found x) 0 t in let e = part x in omega (arith, h, none, e)
        by_test false t h = let e = part x in let f = once x in omega (arith, h, e, f)

    -- ---- the gaps are in order

    -- what stands at a place
    at_those : (b : ℕ) (gs : List Extent) → AllFree gs → AllByRecursion (λ (e : Extent). (e.place ≡ b) × (is_free e ≡ true) × (32 ≤ e.length)) (at_place b gs)
    at_those b [] h = tt
    at_those b (e ∷ es) h = by_test (e.place == b) refl (at_those b es h.1)
      where
        by_test : (t : Bool) → (e.place == b) ≡ t → AllByRecursion (λ (e : Extent). (e.place ≡ b) × (is_free e ≡ true) × (32 ≤ e.length)) (at_place b es)
            → AllByRecursion (λ (e : Extent). (e.place ≡ b) × (is_free e ≡ true) × (32 ≤ e.length)) (at_place b (e ∷ es))
        by_test true k ih = rw k ((equal e.place b k, h.0.0, h.0.1), ih)
        by_test false k ih = rw k ih

    holds_first : (e : Extent) (b : ℕ) → e.place ≡ b → 32 ≤ e.length → holds_byte e b ≡ true
    holds_first e b p long = subst (λ k. holds_byte e k ≡ true) p (first_byte e (omega (arith, long)))

    free_no_filler : (e : Extent) → is_free e ≡ true → is_filler e ≡ true → ⊥
    free_no_filler e f g = not_true (sym (filler_is_not_free e g) ∙ f)

    stands_first : (f : Extent) (rest : List Extent) (b : ℕ) → f.place ≡ b → is_free f ≡ true → 32 ≤ f.length → BeginFrom (suc b) rest → AreGapsInOrder rest → ((x : ℕ) → cover (f ∷ rest) x ≤ 1) → StandsBefore f rest
    stands_first f [] b p fr long from order covers = tt
    stands_first f (h ∷ hs) b p fr long from order covers = (by_end (leb_tells (end_of f) h.place), λ g _. absurd (free_no_filler f fr g))
      where
        by_end : ((nat_le (end_of f) h.place ≡ true) × (end_of f ≤ h.place)) ⊎ ((nat_le (end_of f) h.place ≡ false) × (h.place < end_of f)) → end_of f ≤ h.place
        by_end (inl k) = k.1
        by_end (inr k) =
            let lt = k.1 in
            let one : holds_byte f h.place ≡ true = inside f.place f.length h.place (omega (arith, from, p)) lt in
            let two : holds_byte h h.place ≡ true = first_byte h order.0.0 in
            let c : 1 + (1 + cover hs h.place) ≤ 1 = subst (λ n. n ≤ 1) (ap (λ t. cond t 1 0 + cover (h ∷ hs) h.place) one ∙ ap (λ t. 1 + (cond t 1 0 + cover hs h.place)) two) (covers h.place) in
            absurd (omega (arith, c))
          where
            inside : (p n x : ℕ) → p ≤ x → x < p + n → (nat_le p x && nat_lt x (p + n)) ≡ true
            inside p n x low high = grind (arith, nat_tests)

    begin_less : (b : ℕ) (gs : List Extent) → BeginFrom (suc b) gs → BeginFrom b gs
    begin_less b [] h = tt
    begin_less b (g ∷ gs) h = omega (arith, h)

    begin_same : (c d : ℕ) (gs : List Extent) → c ≡ d → BeginFrom c gs → BeginFrom d gs
    begin_same c d gs e h = subst (λ k. BeginFrom k gs) e h

    scan_order : (n b : ℕ) → AreGapsInOrder (scan n b) × BeginFrom b (scan n b)
    scan_order zero b = (tt, tt)
    scan_order (suc n) b = by_here (at_place b fs) refl (at_those b fs free) (scan_order n (suc b)) (λ x. scan_once (suc n) b x)
      where
        abbrev_rest : (t : Bool) → AreGapsInOrder (scan n (suc b)) × BeginFrom (suc b) (scan n (suc b)) → AreGapsInOrder (cond t (before_gaps (extent ExtentKind.Filler b 1) (scan n (suc b))) (scan n (suc b))) × BeginFrom b (cond t (before_gaps (extent ExtentKind.Filler b 1) (scan n (suc b))) (scan n (suc b)))
        abbrev_rest true ih = (before_gaps_in_order (extent ExtentKind.Filler b 1) (scan n (suc b)) (omega arith, inr refl) (begin_same (suc b) (b + 1) (scan n (suc b)) (more b) ih.1) ih.0, begin_filled b (scan n (suc b)))
          where
            more : (b : ℕ) → suc b ≡ b + 1
            more b = omega arith
        abbrev_rest false ih = (ih.0, begin_less b (scan n (suc b)) ih.1)

        covered : (f : Extent) (rest : List Extent) → at_place b fs ≡ f ∷ rest → holds_byte f b ≡ true → (cover found b == 0) ≡ false
        covered f rest e h =
            let some : 1 + cover rest b ≡ cover (at_place b fs) b = sym (ap (λ xs. cover xs b) e ∙ ap (λ t. cond t 1 0 + cover rest b) h) in
            let few = cover-filter (λ (e : Extent). e.place == b) fs b in
            let more = part b in
            none (cover found b) (omega (arith, some, few, more))
          where
            none : (n : ℕ) → 1 ≤ n → (n == 0) ≡ false
            none n h = grind (arith, nat_tests)

        by_here : (a : List Extent) → at_place b fs ≡ a → AllByRecursion (λ (e : Extent). (e.place ≡ b) × (is_free e ≡ true) × (32 ≤ e.length)) (at_place b fs) → AreGapsInOrder (scan n (suc b)) × BeginFrom (suc b) (scan n (suc b)) → ((x : ℕ) → cover (scan (suc n) b) x ≤ 1)
            → AreGapsInOrder (at_place b fs ++ filled b (scan n (suc b))) × BeginFrom b (at_place b fs ++ filled b (scan n (suc b)))
        by_here [] e those ih covers = rw e (abbrev_rest (cover found b == 0) ih)
        by_here (f ∷ []) e those ih covers =
            let that = (subst (λ xs. AllByRecursion (λ (e : Extent). (e.place ≡ b) × (is_free e ≡ true) × (32 ≤ e.length)) xs) e those).0 in
            let p = that.0 in
            let long = that.2 in
            let plain : filled b (scan n (suc b)) ≡ scan n (suc b) = ap (λ t. cond t (before_gaps (extent ExtentKind.Filler b 1) (scan n (suc b))) (scan n (suc b))) (covered f [] e (holds_first f b that.0 that.2)) in
            let all : (x : ℕ) → cover (f ∷ scan n (suc b)) x ≤ 1 = λ x. subst (λ xs. cover xs x ≤ 1) (ap (λ xs. xs ++ filled b (scan n (suc b))) e ∙ ap (λ xs. f ∷ xs) plain) (covers x) in
            subst (λ xs. AreGapsInOrder xs × BeginFrom b xs) (sym (ap (λ xs. xs ++ filled b (scan n (suc b))) e ∙ ap (λ xs. f ∷ xs) plain))
            (((omega (arith, long), inl (that.1, that.2)), stands_first f (scan n (suc b)) b that.0 that.1 that.2 ih.1 ih.0 all, ih.0), omega (arith, p))
        by_here (f ∷ g ∷ gs) e those ih covers =
            let those' = subst (λ xs. AllByRecursion (λ (e : Extent). (e.place ≡ b) × (is_free e ≡ true) × (32 ≤ e.length)) xs) e those in
            let one = holds_first f b those'.0.0 those'.0.2 in
            let two = holds_first g b those'.1.0.0 those'.1.0.2 in
            let some : 1 + (1 + cover gs b) ≡ cover (at_place b fs) b = sym (ap (λ xs. cover xs b) e ∙ ap (λ t. cond t 1 0 + cover (g ∷ gs) b) one ∙ ap (λ t. 1 + (cond t 1 0 + cover gs b)) two) in
            let few = cover-filter (λ (e : Extent). e.place == b) fs b in
            let more = part b in
            let most = once b in
            absurd (omega (arith, some, few, more, most))

    -- ---- the free chunks among them

    filled_weight : (w : ℕ → ℕ → ℕ) (b : ℕ) (rest : List Extent) → weigh w (filter is_free (filled b rest)) ≡ weigh w (filter is_free rest)
    filled_weight w b rest = by_test (cover found b == 0)
      where
        by_test : (t : Bool) → weigh w (filter is_free (cond t (before_gaps (extent ExtentKind.Filler b 1) rest) rest)) ≡ weigh w (filter is_free rest)
        by_test true = ap (weigh w) (free-filled b rest)
        by_test false = refl

    scan_weight : (w : ℕ → ℕ → ℕ) (n b : ℕ) → weigh w (filter is_free (scan n b)) + weigh w (from_place (b + n) fs) ≡ weigh w (from_place b fs)
    scan_weight w zero b = ap (λ k. 0 + weigh w (from_place k fs)) (none b) ∙ swap (weigh w (from_place b fs))
      where
        none : (b : ℕ) → b + 0 ≡ b
        none b = omega arith

        swap : (n : ℕ) → 0 + n ≡ n
        swap n = omega arith
    scan_weight w (suc n) b =
        let ih = scan_weight w n (suc b) in
        let a = free-append w (at_place b fs) (filled b (scan n (suc b))) in
        let c = filled_weight w b (scan n (suc b)) in
        let d = free-filter w (λ (e : Extent). e.place == b) fs free in
        let s = split_place w b fs in
        let e = ap (λ k. weigh w (from_place k fs)) (shift b n) in
        sums _ _ _ _ _ _ _ _ _ a c d s e ih
      where
        sums : (whole first at part rest from later after last : ℕ) → whole ≡ first + part → part ≡ rest → first ≡ at → from ≡ at + later → after ≡ last → rest + last ≡ later → whole + after ≡ from
        sums whole first at part rest from later after last a c d s e ih = omega (arith, a, c, d, s, e, ih)

    -- ---- the scan of a whole file

    from_all : (w : ℕ → ℕ → ℕ) (gs : List Extent) → weigh w (from_place 0 gs) ≡ weigh w gs
    from_all w [] = refl
    from_all w (e ∷ es) = let t : nat_le 0 e.place ≡ true = zero_first e.place in rw t (ap (λ n. w e.place e.length + n) (from_all w es))
      where
        zero_first : (n : ℕ) → nat_le 0 n ≡ true
        zero_first n = grind (arith, nat_tests)

    from_none : (w : ℕ → ℕ → ℕ) (m : ℕ) (gs : List Extent) → AllByRecursion (λ (e : Extent). e.place < m) gs → weigh w (from_place m gs) ≡ 0
    from_none w m [] h = refl
    from_none w m (e ∷ es) h = let t : nat_le m e.place ≡ false = before m e.place h.0 in rw t (from_none w m es h.1)
      where
        before : (m p : ℕ) → p < m → nat_le m p ≡ false
        before m p h = grind (arith, nat_tests)

    module _ (end : ℕ) (within : AllByRecursion (λ (e : Extent). e.place < end + 1) fs) where
      pub gaps_ranges : HasSameRanges fs (filter is_free (scan (end + 1) 0))
      gaps_ranges place length =
          count_weighs place length fs ∙ sym (from_all (one_for place length) fs) ∙ sym (scan_weight (one_for place length) (end + 1) 0)
          ∙ ap (λ n. weigh (one_for place length) (filter is_free (scan (end + 1) 0)) + n) (ap (λ k. weigh (one_for place length) (from_place k fs)) (front (end + 1)) ∙ from_none (one_for place length) (end + 1) fs within)
          ∙ plus (weigh (one_for place length) (filter is_free (scan (end + 1) 0))) ∙ sym (count_weighs place length (filter is_free (scan (end + 1) 0)))
        where
          front : (n : ℕ) → 0 + n ≡ n
          front n = omega arith

          plus : (n : ℕ) → n + 0 ≡ n
          plus n = omega arith

      pub gaps_order : AreGapsInOrder (scan (end + 1) 0)
      gaps_order = (scan_order (end + 1) 0).0

      gaps_whole : (x : ℕ) → cover (scan (end + 1) 0) x ≡ cover fs x + bare (end + 1) 0 x
      gaps_whole x =
          let a = scan_cover (end + 1) 0 x in
          let c : cover (from_place (0 + (end + 1)) fs) x ≡ 0 = cover_weighs x (from_place (0 + (end + 1)) fs) ∙ ap (λ k. weigh (holds_one x) (from_place k fs)) (front (end + 1)) ∙ from_none (holds_one x) (end + 1) fs within in
          let d : cover (from_place 0 fs) x ≡ cover fs x = cover_weighs x (from_place 0 fs) ∙ from_all (holds_one x) fs ∙ sym (cover_weighs x fs) in
          sums _ _ _ _ _ a c d
        where
          front : (n : ℕ) → 0 + n ≡ n
          front n = omega arith

          sums : (gaps after from all bares : ℕ) → gaps + after ≡ from + bares → after ≡ 0 → from ≡ all → gaps ≡ all + bares
          sums gaps after from all bares a c d = omega (arith, a, c, d)

      pub gaps_inside : (x : ℕ) → x ≤ end → cover (scan (end + 1) 0) x ≡ cover fs x + cond (cover found x == 0) 1 0
      gaps_inside x le = gaps_whole x ∙ ap (λ n. cover fs x + n) (bare_in (end + 1) 0 x (omega arith) (omega (arith, le)))

      pub gaps_beyond : (x : ℕ) → end < x → cover (scan (end + 1) 0) x ≡ cover fs x
      gaps_beyond x lt = gaps_whole x ∙ ap (λ n. cover fs x + n) (bare_out (end + 1) 0 x (inr (omega (arith, lt)))) ∙ plus (cover fs x)
        where
          plus : (n : ℕ) → n + 0 ≡ n
          plus n = omega arith
