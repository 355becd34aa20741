-- One pass over sorted extents finds the gaps, or the least byte that is misplaced.
use Rattle.std.proofs.Common.{◌≡◌, ◌⊎◌, inl, inr, ℕ, suc, refl, sym, ◌∙◌, ap, subst, arith, List, [], ◌∷◌, ◌++◌, map, filter, append-nil, ◌+◌, ◌-◌, ◌<◌, ◌≤◌, Bool, true, false, cond, not}
use Rattle.std.proofs.lemmas.Bool.Decides.{nat_tests, leb_tells, eqb_tells}
use Rattle.std.specs.Prelude.{IsTrue, nat_le, nat_lt, ◌&&◌, ◌||◌, ◌==◌, ⊤, codes}
use Rattle.adf_format.specs.Fields.{holds}
use Rattle.adf_format.specs.declared.types.Extent.{Extent}
use Rattle.adf_format.specs.declared.types.ExtentKind.{ExtentKind}
use Rattle.adf_format.specs.Tiles.{cover, holds_byte, end_of, is_free, is_filler}
use Rattle.adf_format.specs.Placement.{extent, head_extents}
use Rattle.adf_format.specs.LaysOut.{IsGap, AreGapsInOrder, HasSameRanges, count_of}
use Rattle.adf_format.specs.FirstFault.{Visit, FreeVisit, free_extent, found_extents, extents_found, is_misplaced, IsLeastMisplaced, is_wide, end_in}
use Rattle.adf_format.proofs.HeapSteps.{cover-append}
use Rattle.adf_model.proofs.Basics.{not_true}
use Rattle.layout_laws.specs.FoundLayout.{FillGaps}
use Rattle.layout_laws.specs.TilePass.{filled_up, passed_gaps, LastEndsBy, AllFrom, AreBlank, IsPassed}
use Rattle.layout_laws.proofs.FoundLayoutLaws.{filler_is_not_free}
use Rattle.layout_laws.proofs.Ranges.{same_cover}
use Rattle.layout_laws.proofs.VisitExtents.{first_byte}

-- ---- lists

filter-append : (test : Extent → Bool) (xs ys : List Extent) → filter test (xs ++ ys) ≡ filter test xs ++ filter test ys
filter-append test [] ys = refl
filter-append test (x ∷ xs) ys = by_test (test x) refl (filter-append test xs ys)
  where
    by_test : (t : Bool) → test x ≡ t → filter test (xs ++ ys) ≡ filter test xs ++ filter test ys → filter test (x ∷ xs ++ ys) ≡ filter test (x ∷ xs) ++ filter test ys
    by_test true e ih = rw e (ap (λ zs. x ∷ zs) ih)
    by_test false e ih = rw e ih

filter-one : (test : Extent → Bool) (e : Extent) → test e ≡ true → filter test (e ∷ []) ≡ e ∷ []
filter-one test e h = rw h refl

filter-none : (test : Extent → Bool) (e : Extent) → test e ≡ false → filter test (e ∷ []) ≡ []
filter-none test e h = rw h refl

pub from_none : (n : ℕ) (xs : List Extent) (b : ℕ) → AllFrom n xs → b < n → cover xs b ≡ 0
from_none n [] b h lt = refl
from_none n (e ∷ es) b h lt = let out : holds_byte e b ≡ false = before e.place e.length h.0 in let rest = from_none n es b h.1 lt in rw (out, rest) refl
  where
    before : (p l : ℕ) → n ≤ p → (nat_le p b && nat_lt b (p + l)) ≡ false
    before p l h = grind (arith, nat_tests, lt)

-- the last gap ends by a place
abbrev LastWithin : List Extent → ℕ → Type 0
LastWithin [] n = ⊤
LastWithin (g ∷ []) n = end_of g ≤ n
LastWithin (g ∷ h ∷ gs) n = LastWithin (h ∷ gs) n

last_within : (gaps : List Extent) (m n : ℕ) → LastEndsBy gaps m → m ≤ n → LastWithin gaps n
last_within [] m n h le = tt
last_within (g ∷ []) m n h le = (let a = h.0 in omega (arith, a, le))
last_within (g ∷ x ∷ xs) m n h le = last_within (x ∷ xs) m n h le

within-append : (gaps : List Extent) (g : Extent) (n : ℕ) → end_of g ≤ n → LastWithin (gaps ++ g ∷ []) n
within-append [] g n h = h
within-append (x ∷ []) g n h = h
within-append (x ∷ y ∷ ys) g n h = within-append (y ∷ ys) g n h

-- a gap behind the last one keeps the order
order-append : (gaps : List Extent) (g : Extent) → AreGapsInOrder gaps → IsGap g → LastWithin gaps g.place → (IsTrue (is_filler g) → LastEndsBy gaps g.place) → AreGapsInOrder (gaps ++ g ∷ [])
order-append [] g o is within strict = (is, tt, tt)
order-append (x ∷ []) g o is within strict = (o.0, (within, λ fx fg. (strict fg).1 fx), (is, tt, tt))
order-append (x ∷ y ∷ ys) g o is within strict = (o.0, o.1, order-append (y ∷ ys) g o.2 is within strict)

last-append : (gaps : List Extent) (g : Extent) (n : ℕ) → end_of g ≤ n → (IsTrue (is_filler g) → end_of g < n) → LastEndsBy (gaps ++ g ∷ []) n
last-append [] g n h k = (h, k)
last-append (x ∷ []) g n h k = (h, k)
last-append (x ∷ y ∷ ys) g n h k = last-append (y ∷ ys) g n h k

last_later : (gaps : List Extent) (m n : ℕ) → LastEndsBy gaps m → m ≤ n → LastEndsBy gaps n
last_later [] m n h le = tt
last_later (g ∷ []) m n h le = ((let a = h.0 in omega (arith, a, le)), λ f. (let a = h.1 f in omega (arith, a, le)))
last_later (g ∷ x ∷ xs) m n h le = last_later (x ∷ xs) m n h le

-- ---- the start

pub start : (image : List ℕ) → IsPassed image [] 0 0 []
start image = record {
  before = omega arith;
  once = λ b lt. absurd (omega (arith, lt));
  inside = λ b le. refl;
  fillers_end = λ b le. refl;
  blank = λ b e. absurd (none e);
  frees = refl;
  in_order = tt;
  last = tt;
}
  where
    none : ◌≡◌ {A = ℕ} 0 1 → ⊥
    none e = omega (arith, e)

-- ---- a filler up to a place

module _ (image : List ℕ) (done : List Extent) (low reach : ℕ) (gaps : List Extent) (p : IsPassed image done low reach gaps) (to : ℕ) (le : reach ≤ to) (blank : AreBlank image reach to) where
  abbrev filler : Extent
  filler = extent ExtentKind.Filler reach (to - reach)

  abbrev fillers : ℕ → ℕ
  fillers b = cover (filter is_filler (filled_up gaps reach to)) b

  in_filler : (b : ℕ) → reach ≤ b → b < to → holds_byte filler b ≡ true
  in_filler b low high = grind (arith, nat_tests)

  out_filler : (b : ℕ) → (b < reach) ⊎ (to ≤ b) → holds_byte filler b ≡ false
  out_filler b (inl h) = grind (arith, nat_tests)
  out_filler b (inr h) = grind (arith, nat_tests, le)

  fillers_then : (b : ℕ) → (reach ≡ to → ⊥) → cover (filter is_filler (gaps ++ filler ∷ [])) b ≡ cover (filter is_filler gaps) b + (cond (holds_byte filler b) 1 0 + 0)
  fillers_then b differ = ap (λ xs. cover xs b) (filter-append is_filler gaps (filler ∷ [])) ∙ cover-append (filter is_filler gaps) (filler ∷ []) b

  plus : (n : ℕ) → n + 0 ≡ n
  plus n = omega arith

  -- before the place the fillers are as they were, from it on they reach
  pub fillers_before : (b : ℕ) → (b < reach) ⊎ (to ≤ b) → fillers b ≡ cover (filter is_filler gaps) b
  fillers_before b out = by_test (eqb_tells reach to)
    where
      by_test : (((reach == to) ≡ true) × (reach ≡ to)) ⊎ (((reach == to) ≡ false) × (reach ≡ to → ⊥)) → fillers b ≡ cover (filter is_filler gaps) b
      by_test (inl t) = ap (λ c. cover (filter is_filler (cond c gaps (gaps ++ filler ∷ []))) b) t.0
      by_test (inr t) = ap (λ c. cover (filter is_filler (cond c gaps (gaps ++ filler ∷ []))) b) t.0 ∙ fillers_then b t.1 ∙ ap (λ c. cover (filter is_filler gaps) b + (cond c 1 0 + 0)) (out_filler b out) ∙ plus (cover (filter is_filler gaps) b)

  pub fillers_inside : (b : ℕ) → reach ≤ b → b < to → fillers b ≡ 1
  fillers_inside b low high = by_test (eqb_tells reach to)
    where
      none : cover (filter is_filler gaps) b ≡ 0
      none = p.fillers_end b (let h = p.before in omega (arith, h, low))

      by_test : (((reach == to) ≡ true) × (reach ≡ to)) ⊎ (((reach == to) ≡ false) × (reach ≡ to → ⊥)) → fillers b ≡ 1
      by_test (inl t) = absurd (let s = t.1 in omega (arith, s, low, high))
      by_test (inr t) = ap (λ c. cover (filter is_filler (cond c gaps (gaps ++ filler ∷ []))) b) t.0 ∙ fillers_then b t.1 ∙ ap (λ c. cover (filter is_filler gaps) b + (cond c 1 0 + 0)) (in_filler b low high) ∙ ap (λ n. n + 1) none

  pub filled_blank : (b : ℕ) → fillers b ≡ 1 → holds image b (codes "z") ≡ true
  filled_blank b e = by_place (leb_tells reach b) (leb_tells (suc b) to)
    where
      by_place : ((nat_le reach b ≡ true) × (reach ≤ b)) ⊎ ((nat_le reach b ≡ false) × (b < reach)) → ((nat_le (suc b) to ≡ true) × (suc b ≤ to)) ⊎ ((nat_le (suc b) to ≡ false) × (to < suc b)) → holds image b (codes "z") ≡ true
      by_place (inl h) (inl k) = blank b h.1 k.1
      by_place (inl h) (inr k) = p.blank b (sym (fillers_before b (inr (let g = k.1 in omega (arith, g)))) ∙ e)
      by_place (inr h) k = p.blank b (sym (fillers_before b (inl h.1)) ∙ e)

  pub filled_frees : filter is_free (filled_up gaps reach to) ≡ filter is_free done
  filled_frees = by_test (reach == to) ∙ p.frees
    where
      by_test : (t : Bool) → filter is_free (cond t gaps (gaps ++ filler ∷ [])) ≡ filter is_free gaps
      by_test true = refl
      by_test false = filter-append is_free gaps (filler ∷ []) ∙ append-nil (filter is_free gaps)

  pub filled_order : AreGapsInOrder (filled_up gaps reach to)
  filled_order = by_test (eqb_tells reach to)
    where
      some : (reach ≡ to → ⊥) → 0 < to - reach
      some differ = elim (leb_tells (suc reach) to) [ inl k ↦ (let g = k.1 in omega (arith, g)) | inr k ↦ absurd (differ (let g = k.1 in omega (arith, le, g))) ]

      by_test : (((reach == to) ≡ true) × (reach ≡ to)) ⊎ (((reach == to) ≡ false) × (reach ≡ to → ⊥)) → AreGapsInOrder (filled_up gaps reach to)
      by_test (inl t) = subst (λ c. AreGapsInOrder (cond c gaps (gaps ++ filler ∷ []))) (sym t.0) p.in_order
      by_test (inr t) = subst (λ c. AreGapsInOrder (cond c gaps (gaps ++ filler ∷ []))) (sym t.0) (order-append gaps filler p.in_order (some t.1, inr refl) (last_within gaps reach reach p.last (omega arith)) (λ f. p.last))

  -- the last of them ends by the place; so it ends before each later one
  pub filled_last : (n : ℕ) → to < n → LastEndsBy (filled_up gaps reach to) n
  filled_last n lt = by_test (reach == to)
    where
      by_test : (t : Bool) → LastEndsBy (cond t gaps (gaps ++ filler ∷ [])) n
      by_test true = last_later gaps reach n p.last (omega (arith, le, lt))
      by_test false = last-append gaps filler n (omega (arith, le, lt)) (λ f. omega (arith, le, lt))

  filled_within : LastWithin (filled_up gaps reach to) to
  filled_within = by_test (reach == to)
    where
      by_test : (t : Bool) → LastWithin (cond t gaps (gaps ++ filler ∷ [])) to
      by_test true = last_within gaps reach to p.last le
      by_test false = within-append gaps filler to (omega (arith, le))

  -- a free chunk at the place keeps the order
  pub filled_before : (e : Extent) → e.place ≡ to → is_free e ≡ true → 32 ≤ e.length → AreGapsInOrder (filled_up gaps reach to ++ e ∷ [])
  filled_before e at free long =
      order-append (filled_up gaps reach to) e filled_order (omega (arith, long), inl (free, long)) (subst (λ n. LastWithin (filled_up gaps reach to) n) (sym at) filled_within)
      (λ f. absurd (not_true (sym (filler_is_not_free e f) ∙ free)))

-- ---- one extent further

pub pass_on : (image : List ℕ) (done : List Extent) (low reach : ℕ) (gaps : List Extent) (e : Extent) → IsPassed image done low reach gaps → reach ≤ e.place → AreBlank image reach e.place → is_filler e ≡ false → 0 < e.length → (is_free e ≡ true → 32 ≤ e.length)
    → IsPassed image (done ++ e ∷ []) e.place (end_of e) (passed_gaps gaps reach e)
pass_on image done low reach gaps e p le blank solid some long = record {
  before = omega arith;
  once = once;
  inside = inside;
  fillers_end = λ b h. same_fillers b ∙ fillers_before image done low reach gaps p e.place le blank b (inr h) ∙ p.fillers_end b (omega (arith, below, le, h));
  blank = λ b h. filled_blank image done low reach gaps p e.place le blank b (sym (same_fillers b) ∙ h);
  frees = frees (is_free e) refl;
  in_order = order (is_free e) refl;
  last = last (is_free e) refl;
}
  where
    below : low ≤ reach
    below = p.before

    filled : List Extent
    filled = filled_up gaps reach e.place

    same_fillers : (b : ℕ) → cover (filter is_filler (passed_gaps gaps reach e)) b ≡ cover (filter is_filler (filled_up gaps reach e.place)) b
    same_fillers b = by_test (is_free e)
      where
        by_test : (t : Bool) → cover (filter is_filler (cond t (filled_up gaps reach e.place ++ e ∷ []) (filled_up gaps reach e.place))) b ≡ cover (filter is_filler (filled_up gaps reach e.place)) b
        by_test true = ap (λ xs. cover xs b) (filter-append is_filler (filled_up gaps reach e.place) (e ∷ []) ∙ ap (λ xs. filter is_filler (filled_up gaps reach e.place) ++ xs) (filter-none is_filler e solid) ∙ append-nil (filter is_filler (filled_up gaps reach e.place)))
        by_test false = refl

    then_one : (b : ℕ) → cover (done ++ e ∷ []) b ≡ cover done b + (cond (holds_byte e b) 1 0 + 0)
    then_one b = cover-append done (e ∷ []) b

    in_e : (b : ℕ) → e.place ≤ b → b < end_of e → holds_byte e b ≡ true
    in_e b low high = grind (arith, nat_tests)

    out_e : (b : ℕ) → (b < e.place) ⊎ (end_of e ≤ b) → holds_byte e b ≡ false
    out_e b (inl h) = grind (arith, nat_tests)
    out_e b (inr h) = grind (arith, nat_tests)

    once : (b : ℕ) → b < end_of e → cover (done ++ e ∷ []) b + cover (filter is_filler (passed_gaps gaps reach e)) b ≡ 1
    once b lt = by_place (leb_tells (suc b) reach) (leb_tells (suc b) e.place)
      where
        sums : (all done one fill fills : ℕ) → all ≡ done + (one + 0) → fill ≡ fills → done + one + fills ≡ 1 → all + fill ≡ 1
        sums all done one fill fills a c d = omega (arith, a, c, d)

        by_place : ((nat_le (suc b) reach ≡ true) × (suc b ≤ reach)) ⊎ ((nat_le (suc b) reach ≡ false) × (reach < suc b)) → ((nat_le (suc b) e.place ≡ true) × (suc b ≤ e.place)) ⊎ ((nat_le (suc b) e.place ≡ false) × (e.place < suc b))
            → cover (done ++ e ∷ []) b + cover (filter is_filler (passed_gaps gaps reach e)) b ≡ 1
        by_place (inl h) k =
            let g = h.1 in
            let one = p.once b h.1 in
            let same = same_fillers b ∙ fillers_before image done low reach gaps p e.place le blank b (inl h.1) in
            let out = ap {B = ℕ} (λ c. cond c 1 0) (out_e b (inl (omega (arith, g, le)))) in
            sums _ _ _ _ _ (then_one b) same (omega (arith, one, out))
        by_place (inr h) (inl k) =
            let g = h.1 in
            let none = p.inside b (omega (arith, g)) in
            let one = same_fillers b ∙ fillers_inside image done low reach gaps p e.place le blank b (omega (arith, g)) k.1 in
            let out = ap {B = ℕ} (λ c. cond c 1 0) (out_e b (inl k.1)) in
            sums _ _ _ _ _ (then_one b) one (omega (arith, none, out))
        by_place (inr h) (inr k) =
            let g = h.1 in
            let f = k.1 in
            let none = p.inside b (omega (arith, g)) in
            let same = same_fillers b ∙ fillers_before image done low reach gaps p e.place le blank b (inr (omega (arith, f))) in
            let fills = p.fillers_end b (omega (arith, below, g)) in
            let one = ap {B = ℕ} (λ c. cond c 1 0) (in_e b (omega (arith, f)) lt) in
            sums _ _ _ _ _ (then_one b) (same ∙ fills) (omega (arith, none, one))

    inside : (b : ℕ) → end_of e ≤ b → cover (done ++ e ∷ []) b ≡ 0
    inside b h =
        let none = p.inside b (omega (arith, le, h)) in
        let out = ap {B = ℕ} (λ c. cond c 1 0) (out_e b (inr h)) in
        then_one b ∙ omega (arith, none, out)

    frees : (t : Bool) → is_free e ≡ t → filter is_free (passed_gaps gaps reach e) ≡ filter is_free (done ++ e ∷ [])
    frees true f =
        ap (λ c. filter is_free (cond c (filled_up gaps reach e.place ++ e ∷ []) (filled_up gaps reach e.place))) f
        ∙ filter-append is_free (filled_up gaps reach e.place) (e ∷ []) ∙ ap (λ xs. xs ++ filter is_free (e ∷ [])) (filled_frees image done low reach gaps p e.place le blank) ∙ sym (filter-append is_free done (e ∷ []))
    frees false f =
        ap (λ c. filter is_free (cond c (filled_up gaps reach e.place ++ e ∷ []) (filled_up gaps reach e.place))) f
        ∙ filled_frees image done low reach gaps p e.place le blank
        ∙ sym (filter-append is_free done (e ∷ []) ∙ ap (λ xs. filter is_free done ++ xs) (filter-none is_free e f) ∙ append-nil (filter is_free done))

    order : (t : Bool) → is_free e ≡ t → AreGapsInOrder (passed_gaps gaps reach e)
    order true f = subst (λ c. AreGapsInOrder (cond c (filled_up gaps reach e.place ++ e ∷ []) (filled_up gaps reach e.place))) (sym f) (filled_before image done low reach gaps p e.place le blank e refl f (long f))
    order false f = subst (λ c. AreGapsInOrder (cond c (filled_up gaps reach e.place ++ e ∷ []) (filled_up gaps reach e.place))) (sym f) (filled_order image done low reach gaps p e.place le blank)

    last : (t : Bool) → is_free e ≡ t → LastEndsBy (passed_gaps gaps reach e) (end_of e)
    last true f = subst (λ c. LastEndsBy (cond c (filled_up gaps reach e.place ++ e ∷ []) (filled_up gaps reach e.place)) (end_of e)) (sym f) (last-append (filled_up gaps reach e.place) e (end_of e) (omega arith) (λ g. absurd (not_true (sym solid ∙ g))))
    last false f = subst (λ c. LastEndsBy (cond c (filled_up gaps reach e.place ++ e ∷ []) (filled_up gaps reach e.place)) (end_of e)) (sym f) (filled_last image done low reach gaps p e.place le blank (end_of e) (omega (arith, some)))

-- ---- a byte that is misplaced

module _ (image : List ℕ) (found done rest : List Extent) (low reach : ℕ) (gaps : List Extent) (end : ℕ) (p : IsPassed image done low reach gaps) (all : (b : ℕ) → cover found b ≡ cover done b + cover rest b) where
  -- no byte before what was passed, and before the rest, is misplaced
  none_before : (b n : ℕ) → b < reach → b < n → AllFrom n rest → is_misplaced image found b ≡ false
  none_before b n lt less from = by_count (cover done b) refl
    where
      none : cover rest b ≡ 0
      none = from_none n rest b from less

      total : cover found b ≡ cover done b
      total = let a = all b in let c = none in omega (arith, a, c)

      few : (n : ℕ) → n ≤ 1 → nat_lt 1 n ≡ false
      few n h = grind (arith, nat_tests)

      some : (n : ℕ) → (n ≡ 0 → ⊥) → (n == 0) ≡ false
      some n differ = elim (eqb_tells n 0) [ inl t ↦ absurd (differ t.1) | inr t ↦ t.0 ]

      by_count : (n : ℕ) → cover done b ≡ n → is_misplaced image found b ≡ false
      by_count n e = elim (eqb_tells n 0) [
        | inl z ↦ (let one = p.once b lt in let zero_here : cover done b ≡ 0 = e ∙ z.1 in let blank = p.blank b (omega (arith, one, zero_here)) in
            ap (λ k. nat_lt 1 k || (k == 0) && not (holds image b (codes "z"))) (total ∙ zero_here) ∙ ap not blank)
        | inr z ↦ (let one = p.once b lt in let small : n ≤ 1 = omega (arith, one, e) in
            ap (λ k. nat_lt 1 k || (k == 0) && not (holds image b (codes "z"))) (total ∙ e) ∙ ap (λ t. t || (n == 0) && not (holds image b (codes "z"))) (few n small) ∙ ap (λ t. t && not (holds image b (codes "z"))) z.0)
      ]

  -- an extent that begins before the byte behind those passed
  pub clash : (e : Extent) (after : List Extent) → rest ≡ e ∷ after → AllFrom e.place rest → low ≤ e.place → e.place < reach → 0 < e.length → e.place ≤ end → IsLeastMisplaced image found end e.place
  clash e after is from above lt some inside = record {
    inside = inside;
    misplaced = ap (λ t. t || (cover found e.place == 0) && not (holds image e.place (codes "z"))) two;
    least = λ b less. none_before b e.place (omega (arith, less, lt)) less from;
  }
    where
      many : (n : ℕ) → 2 ≤ n → nat_lt 1 n ≡ true
      many n h = grind (arith, nat_tests)

      two : nat_lt 1 (cover found e.place) ≡ true
      two =
          let a = all e.place in
          let one = p.once e.place lt in
          let none = p.fillers_end e.place above in
          let here : cover rest e.place ≡ 1 + cover after e.place = ap (λ xs. cover xs e.place) is ∙ ap (λ t. cond t 1 0 + cover after e.place) (first_byte e some) in
          many (cover found e.place) (omega (arith, a, one, none, here))

  -- a byte between the extents that is not blank
  pub hole : (n byte : ℕ) → AllFrom n rest → reach ≤ byte → byte < n → AreBlank image reach byte → holds image byte (codes "z") ≡ false → byte ≤ end → IsLeastMisplaced image found end byte
  hole n byte from above less blank other inside = record {
    inside = inside;
    misplaced = ap (λ k. nat_lt 1 k || (k == 0) && not (holds image byte (codes "z"))) (empty byte above less) ∙ ap not other;
    least = least;
  }
    where
      empty : (b : ℕ) → reach ≤ b → b < n → cover found b ≡ 0
      empty b low lt = let a = all b in let c = p.inside b low in let d = from_none n rest b from lt in omega (arith, a, c, d)

      least : (b : ℕ) → b < byte → is_misplaced image found b ≡ false
      least b lt = by_place (leb_tells (suc b) reach)
        where
          by_place : ((nat_le (suc b) reach ≡ true) × (suc b ≤ reach)) ⊎ ((nat_le (suc b) reach ≡ false) × (reach < suc b)) → is_misplaced image found b ≡ false
          by_place (inl h) = none_before b n h.1 (omega (arith, lt, less)) from
          by_place (inr h) =
              let g = h.1 in
              ap (λ k. nat_lt 1 k || (k == 0) && not (holds image b (codes "z"))) (empty b (omega (arith, g)) (omega (arith, lt, less))) ∙ ap not (blank b (omega (arith, g)) lt)

-- ---- the end

-- a gap is a free chunk or a filler
split_gaps : (gaps : List Extent) (b : ℕ) → AreGapsInOrder gaps → cover gaps b ≡ cover (filter is_free gaps) b + cover (filter is_filler gaps) b
split_gaps [] b o = refl
split_gaps (g ∷ gs) b o = by_kind (is_free g) refl (split_gaps gs b o.2)
  where
    left : (a c d e : ℕ) → a ≡ c + d → e + a ≡ e + c + d
    left a c d e h = omega (arith, h)

    right : (a c d e : ℕ) → a ≡ c + d → e + a ≡ c + (e + d)
    right a c d e h = omega (arith, h)

    no_filler : is_free g ≡ true → is_filler g ≡ false
    no_filler f = by_test (is_filler g) refl
      where
        by_test : (t : Bool) → is_filler g ≡ t → t ≡ false
        by_test true h = absurd (not_true (sym (filler_is_not_free g h) ∙ f))
        by_test false h = refl

    filler_of : IsGap g → is_free g ≡ false → is_filler g ≡ true
    filler_of (pos, inl f) e = absurd (not_true (sym e ∙ f.0))
    filler_of (pos, inr f) e = f

    by_kind : (t : Bool) → is_free g ≡ t → cover gs b ≡ cover (filter is_free gs) b + cover (filter is_filler gs) b → cover (g ∷ gs) b ≡ cover (filter is_free (g ∷ gs)) b + cover (filter is_filler (g ∷ gs)) b
    by_kind true e ih = rw (e, no_filler e) (left _ _ _ _ ih)
    by_kind false e ih = rw (e, filler_of o.0 e) (right _ _ _ _ ih)

module _ (image : List ℕ) (nodes : List Visit) (frees : List FreeVisit) (done : List Extent) (low reach : ℕ) (gaps : List Extent) (p : IsPassed image done low reach gaps) (le : reach ≤ end_in image + 1) (blank : AreBlank image reach (end_in image + 1))
    (all : (b : ℕ) → cover (extents_found image nodes frees) b ≡ cover done b) (same : HasSameRanges (map (free_extent image) frees) (filter is_free done)) where
  abbrev last_gaps : List Extent
  last_gaps = filled_up gaps reach (end_in image + 1)

  same_frees : HasSameRanges (map (free_extent image) frees) (filter is_free last_gaps)
  same_frees place length = same place length ∙ ap (count_of place length) (sym (filled_frees image done low reach gaps p (end_in image + 1) le blank))

  abbrev front : List Extent
  front = head_extents ++ found_extents image (is_wide image) nodes

  whole : (b : ℕ) → cover (front ++ last_gaps) b ≡ cover done b + cover (filter is_filler last_gaps) b
  whole b =
      let a = cover-append front last_gaps b in
      let c = split_gaps last_gaps b (filled_order image done low reach gaps p (end_in image + 1) le blank) in
      let d = same_cover (map (free_extent image) frees) (filter is_free last_gaps) b same_frees in
      let e = sym (all b) ∙ cover-append front (map (free_extent image) frees) b in
      sums _ _ _ _ _ _ _ a c d e
    where
      sums : (all front gaps frees fills found done : ℕ) → all ≡ front + gaps → gaps ≡ frees + fills → found ≡ frees → done ≡ front + found → all ≡ done + fills
      sums all front gaps frees fills found done a c d e = omega (arith, a, c, d, e)

  -- behind the last extent the gaps fill the file
  pub last_fill : FillGaps image nodes frees (filled_up gaps reach (end_in image + 1))
  last_fill = record {
    in_order = filled_order image done low reach gaps p (end_in image + 1) le blank;
    tiles = record { once = once; inside = beyond };
    same_frees = same_frees;
  }
    where
      once : (b : ℕ) → b ≤ end_in image → cover (front ++ last_gaps) b ≡ 1
      once b h = whole b ∙ by_place (leb_tells (suc b) reach)
        where
          by_place : ((nat_le (suc b) reach ≡ true) × (suc b ≤ reach)) ⊎ ((nat_le (suc b) reach ≡ false) × (reach < suc b)) → cover done b + cover (filter is_filler last_gaps) b ≡ 1
          by_place (inl k) = ap (λ n. cover done b + n) (fillers_before image done low reach gaps p (end_in image + 1) le blank b (inl k.1)) ∙ p.once b k.1
          by_place (inr k) = let g = k.1 in let none = p.inside b (omega (arith, g)) in let one = fillers_inside image done low reach gaps p (end_in image + 1) le blank b (omega (arith, g)) (omega (arith, h)) in omega (arith, none, one)

      beyond : (b : ℕ) → end_in image < b → cover (front ++ last_gaps) b ≡ 0
      beyond b h =
          let none = p.inside b (omega (arith, h, le)) in
          let before = p.before in
          let fills = fillers_before image done low reach gaps p (end_in image + 1) le blank b (inr (omega (arith, h))) ∙ p.fillers_end b (omega (arith, h, le, before)) in
          whole b ∙ omega (arith, none, fills)

  -- and no byte is misplaced
  pub last_tiled : (b : ℕ) → b ≤ end_in image → is_misplaced image (extents_found image nodes frees) b ≡ false
  last_tiled b h = by_place (leb_tells (suc b) reach)
    where
      plus : (n : ℕ) → n ≡ n + 0
      plus n = omega arith

      by_place : ((nat_le (suc b) reach ≡ true) × (suc b ≤ reach)) ⊎ ((nat_le (suc b) reach ≡ false) × (reach < suc b)) → is_misplaced image (extents_found image nodes frees) b ≡ false
      by_place (inl k) = none_before image (extents_found image nodes frees) done [] low reach gaps (end_in image) p (λ c. all c ∙ plus (cover done c)) b (suc b) k.1 (omega arith) tt
      by_place (inr k) =
          let g = k.1 in
          let none : cover (extents_found image nodes frees) b ≡ 0 = all b ∙ p.inside b (omega (arith, g)) in
          ap (λ n. nat_lt 1 n || (n == 0) && not (holds image b (codes "z"))) none ∙ ap not (blank b (omega (arith, g)) (omega (arith, h)))
