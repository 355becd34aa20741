-- What is left where bytes are taken from the front of a free chunk: it leaves, its rest is written, and a filler is joined.
use Rattle.std.proofs.Common.{◌≡◌, ◌≢◌, ℕ, zero, suc, add-one, refl, sym, ◌∙◌, ap, subst, arith, List, [], ◌∷◌, ◌++◌, length, take, drop, filter, ◌+◌, ◌-◌, ◌<◌, ◌≤◌, ◌^◌, Bool, true, false, cond}
use Rattle.std.proofs.lemmas.Bool.Decides.{nat_tests}
use Rattle.std.specs.Prelude.{Option, Some, None, IfSome, remove, nat_lt, ◌==◌}
use Rattle.cg_io.specs.Blocks.{Both}
use Rattle.adf_format.specs.declared.types.Extent.{Extent}
use Rattle.adf_format.specs.declared.types.ExtentKind.{ExtentKind}
use Rattle.adf_format.specs.Placement.{extent}
use Rattle.adf_format.specs.Tiles.{cover, end_of, is_free, is_filler, MeetsNone}
use Rattle.adf_format.specs.LaysOut.{AreGapsInOrder, count_of}
use Rattle.adf_format.specs.HeapRule.{new_gap, before_gaps, rest_of, cut}
use Rattle.adf_format.proofs.HeapLaws.{in_range, gap_place}
use Rattle.gap_tree.specs.declared.slot.Slot.{Slot}
use Rattle.gap_tree.specs.Slots.{gaps_of}
use Rattle.file_heap.specs.Gaps.{AllEndBy, IsFirstFit, gap_at, put_by_place}
use Rattle.file_heap.specs.Heap.{ChangesOnly, KeepsFillers}
use Rattle.file_heap.specs.Links.{AreGaps, free_table}
use Rattle.file_heap.specs.Slots.{AreFirst, BecomeSlots, HasNoMore, ThreadsSlots}
use Rattle.file_heap.proofs.HeapFacts.{free_cut, filler_cut, free_put, filler_put, free_removed, gaps_apart, gaps_short}
use Rattle.file_heap.proofs.JoinLaws.{behind, cover_removed_gap}
use Rattle.file_heap.proofs.SlotLaws.{gaps_length}
use Rattle.file_heap.proofs.SpaceLaws.{fillers_then, rest_fillers}

-- ---- the rest at its index

pub put_at : (i : ℕ) (gaps : List Extent) (x : Extent) → AreGapsInOrder gaps → i < length gaps → (gap_at gaps i).place ≤ x.place → x.place < end_of (gap_at gaps i) → put_by_place x (remove gaps i) ≡ take i gaps ++ x ∷ drop (suc i) gaps
put_at i [] x o lt low high = absurd (omega (arith, lt))
put_at zero (g ∷ []) x o lt low high = refl
put_at zero (g ∷ h ∷ hs) x o lt low high =
    let next : end_of g ≤ h.place = o.1.0 in
    let off : nat_lt h.place x.place ≡ false = above h.place (omega (arith, next, high)) in rw off
  where
    above : (p : ℕ) → x.place ≤ p → nat_lt p x.place ≡ false
    above p le = grind (arith, nat_tests)
put_at (suc i) (g ∷ gs) x o lt low high =
    let b = behind g gs i o.1 o.2 (omega (arith, lt)) in
    let long : 0 < g.length = o.0.0 in
    let on : nat_lt g.place x.place ≡ true = below g.place (omega (arith, b, long, low)) in
    rw on (ap (λ xs. g ∷ xs) (put_at i gs x o.2 (omega (arith, lt)) low high))
  where
    below : (p : ℕ) → p < x.place → nat_lt p x.place ≡ true
    below p lt = grind (arith, nat_tests)

joined_at : (i : ℕ) (gaps : List Extent) (x : Extent) → i < length gaps
    → take i (take i gaps ++ x ∷ drop (suc i) gaps) ++ before_gaps (gap_at (take i gaps ++ x ∷ drop (suc i) gaps) i) (drop (suc i) (take i gaps ++ x ∷ drop (suc i) gaps)) ≡ take i gaps ++ before_gaps x (drop (suc i) gaps)
joined_at i [] x lt = absurd (omega (arith, lt))
joined_at zero (g ∷ gs) x lt = refl
joined_at (suc i) (g ∷ gs) x lt = ap (λ xs. g ∷ xs) (joined_at i gs x (omega (arith, lt)))

length_put : (i : ℕ) (gaps : List Extent) (x : Extent) → i < length gaps → i < length (take i gaps ++ x ∷ drop (suc i) gaps)
length_put i [] x lt = absurd (omega (arith, lt))
length_put zero (g ∷ gs) x lt = omega arith
length_put (suc i) (g ∷ gs) x lt = let r = length_put i gs x (omega (arith, lt)) in omega (arith, r)

short_put : (last : ℕ) (x : Extent) (gaps : List Extent) → end_of x ≤ last → AllEndBy last gaps → AllEndBy last (put_by_place x gaps)
short_put last x [] le all = λ k lt. one k lt
  where
    one : (k : ℕ) → k < 1 → end_of (gap_at (x ∷ []) k) ≤ last
    one zero lt = le
    one (suc k) lt = absurd (omega (arith, lt))
short_put last x (g ∷ gs) le all = by_test (nat_lt g.place x.place) (short_put last x gs le (λ k lt. all (suc k) (omega (arith, lt))))
  where
    by_test : (t : Bool) → AllEndBy last (put_by_place x gs) → AllEndBy last (cond t (g ∷ put_by_place x gs) (x ∷ g ∷ gs))
    by_test true rest = λ k lt. more k lt
      where
        more : (k : ℕ) → k < suc (length (put_by_place x gs)) → end_of (gap_at (g ∷ put_by_place x gs) k) ≤ last
        more zero lt = all 0 (omega arith)
        more (suc k) lt = rest k (omega (arith, lt))
    by_test false rest = λ k lt. more k lt
      where
        more : (k : ℕ) → k < suc (suc (length gs)) → end_of (gap_at (x ∷ g ∷ gs) k) ≤ last
        more zero lt = le
        more (suc k) lt = all k (omega (arith, lt))

pub short_removed : (last i : ℕ) (gaps : List Extent) → AllEndBy last gaps → AllEndBy last (remove gaps i)
short_removed last zero [] all = all
short_removed last (suc i) [] all = all
short_removed last zero (g ∷ gs) all = λ k lt. all (suc k) (omega (arith, lt))
short_removed last (suc i) (g ∷ gs) all = go (short_removed last i gs (λ k lt. all (suc k) (omega (arith, lt))))
  where
    go : AllEndBy last (remove gs i) → (k : ℕ) → k < suc (length (remove gs i)) → end_of (gap_at (g ∷ remove gs i) k) ≤ last
    go rest zero lt = all 0 (omega arith)
    go rest (suc k) lt = rest k (omega (arith, lt))

gap_end : (p n : ℕ) → end_of (new_gap p n) ≡ p + n
gap_end p n = by_test (nat_lt n 32)
  where
    by_test : (t : Bool) → end_of (cond t (extent ExtentKind.Filler p n) (extent ExtentKind.FreeChunk p n)) ≡ p + n
    by_test true = refl
    by_test false = refl

module _ (n i : ℕ) (gap : Extent) (slots rest : List Slot) (g : AreGaps (gaps_of slots)) (fit : IsFirstFit n (gaps_of slots) i) (is : gap ≡ gap_at (gaps_of slots) i) (left : gaps_of rest ≡ remove (gaps_of slots) i) (ne : gap.length ≢ n) (some : 1 ≤ n) where
  fits : n ≤ gap.length
  fits = subst (λ (x : Extent). n ≤ x.length) (sym is) fit.fits

  ends : end_of gap ≤ 2 ^ 44
  ends = subst (λ (x : Extent). end_of x ≤ 2 ^ 44) (sym is) (gaps_short (gaps_of slots) g i fit.within)

  pub rest_apart : MeetsNone (gap.place + n) (gap.length - n) (gaps_of rest)
  rest_apart b low high =
      let h = inner gap.place gap.length b fits low high in
      let s = cover_removed_gap (gaps_of slots) i b fit.within in
      let o = (gaps_apart (gaps_of slots) g).once b in
      let e : in_range gap.place gap.length b ≡ in_range (gap_at (gaps_of slots) i).place (gap_at (gaps_of slots) i).length b = ap (λ (x : Extent). in_range x.place x.length b) is in
      let z : cover (remove (gaps_of slots) i) b ≡ 0 = omega (arith, h, s, o, e) in ap (λ xs. cover xs b) left ∙ z
    where
      inner : (p l b : ℕ) → n ≤ l → p + n ≤ b → b < p + n + (l - n) → in_range p l b ≡ 1
      inner p l b le low high = grind (arith, nat_tests)

  abbrev rest_gap : Extent
  rest_gap = new_gap (gap.place + n) (gap.length - n)

  put_is : put_by_place rest_gap (gaps_of rest) ≡ take i (gaps_of slots) ++ rest_gap ∷ drop (suc i) (gaps_of slots)
  put_is =
      ap (put_by_place rest_gap) left
      ∙ put_at i (gaps_of slots) rest_gap g.order fit.within
      (let p = gap_place (gap.place + n) (gap.length - n) in let e : (gap_at (gaps_of slots) i).place ≡ gap.place = ap (λ (x : Extent). x.place) (sym is) in omega (arith, p, e))
      (let p = gap_place (gap.place + n) (gap.length - n) in let e : end_of (gap_at (gaps_of slots) i) ≡ end_of gap = ap end_of (sym is) in omega (arith, p, e, fits, ne))

  module _ (more : List Slot) (are : gaps_of more ≡ put_by_place (new_gap (gap.place + n) (gap.length - n)) (gaps_of rest)) where
    pub more_there : i < length more
    more_there = let e = ap length (are ∙ put_is) in let l = length_put i (gaps_of slots) rest_gap fit.within in omega (arith, e, l, gaps_length more)

    pub more_short : AllEndBy (2 ^ 44) (gaps_of more)
    more_short =
        subst (AllEndBy (2 ^ 44)) (sym are)
        (short_put (2 ^ 44) rest_gap (gaps_of rest) (let e = gap_end (gap.place + n) (gap.length - n) in omega (arith, e, ends, fits))
        (subst (AllEndBy (2 ^ 44)) (sym left) (short_removed (2 ^ 44) i (gaps_of slots) (gaps_short (gaps_of slots) g))))

    joined_is : (joined : List Slot) → gaps_of joined ≡ take i (gaps_of more) ++ before_gaps (gap_at (gaps_of more) i) (drop (i + 1) (gaps_of more)) → gaps_of joined ≡ cut n (gaps_of slots)
    joined_is joined e =
        rw add-one at e
        ∙ ap (λ xs. take i xs ++ before_gaps (gap_at xs i) (drop (suc i) xs)) (are ∙ put_is)
        ∙ joined_at i (gaps_of slots) rest_gap fit.within
        ∙ ap (λ (x : Extent). take i (gaps_of slots) ++ before_gaps (new_gap (x.place + n) (x.length - n)) (drop (suc i) (gaps_of slots))) is
        ∙ sym (rw add-one at fit.left ∙ ap (λ xs. take i (gaps_of slots) ++ xs) (by_length (subst (λ (x : Extent). x.length ≢ n) is ne)))
      where
        other : (a b : ℕ) → a ≢ b → (a == b) ≡ false
        other a b ne = grind (arith, nat_tests)

        by_length : (gap_at (gaps_of slots) i).length ≢ n → rest_of n (gap_at (gaps_of slots) i) (drop (suc i) (gaps_of slots)) ≡ before_gaps (new_gap ((gap_at (gaps_of slots) i).place + n) ((gap_at (gaps_of slots) i).length - n)) (drop (suc i) (gaps_of slots))
        by_length ne = let off = other (gap_at (gaps_of slots) i).length n ne in rw off

    -- the same free chunks
    same_free : (q m : ℕ) → count_of q m (filter is_free (gaps_of more)) ≡ count_of q m (filter is_free (cut n (gaps_of slots)))
    same_free q m =
        ap (λ xs. count_of q m (filter is_free xs)) (are ∙ ap (put_by_place rest_gap) left) ∙ free_put q m rest_gap (remove (gaps_of slots) i)
        ∙ ap (λ (x : Extent). count_of q m (filter is_free (new_gap (x.place + n) (x.length - n) ∷ remove (gaps_of slots) i))) is ∙ free_cut n i (gaps_of slots) fit q m

    same_filler : (b : ℕ) → cover (filter is_filler (cut n (gaps_of slots))) b ≡ cover (filter is_filler (put_by_place rest_gap (gaps_of rest))) b
    same_filler b =
        filler_cut n i (gaps_of slots) b fit ∙ ap (λ (x : Extent). cover (filter is_filler (new_gap (x.place + n) (x.length - n) ∷ remove (gaps_of slots) i)) b) (sym is)
        ∙ sym (filler_put b rest_gap (remove (gaps_of slots) i)) ∙ ap (λ xs. cover (filter is_filler (put_by_place rest_gap xs)) b) (sym left)

    pub cut_becomes : (joined : List Slot) (a b c : Option (List ℕ)) → Both (ChangesOnly (free_table ∷ filter is_free (gaps_of slots))) a b → BecomeSlots (put_by_place (new_gap (gap.place + n) (gap.length - n)) (gaps_of rest)) rest more b c
        → gaps_of joined ≡ take i (gaps_of more) ++ before_gaps (gap_at (gaps_of more) i) (drop (i + 1) (gaps_of more)) → HasNoMore more joined → BecomeSlots (cut n (gaps_of slots)) slots joined a c
    cut_becomes joined a b c v w e no_more = record {
      are = cut_is;
      threads = threads c w.threads;
      first = firsts c w.first;
      fillers = fillers_then (gaps_of slots) (remove (gaps_of slots) i) (cut n (gaps_of slots)) a b c (rest_fillers (gaps_of slots) i a b g v) (keep b c (subst (λ gs. Both (KeepsFillers gs (put_by_place rest_gap (gaps_of rest))) b c) left w.fillers));
    }
      where
        cut_is : gaps_of joined ≡ cut n (gaps_of slots)
        cut_is = joined_is joined e

        threads : (c : Option (List ℕ)) → IfSome c (ThreadsSlots (gaps_of more) more) → IfSome c (ThreadsSlots (gaps_of joined) joined)
        threads None th = tt
        threads (Some bytes) th = record {
          threads = record {
            small = th.threads.small;
            medium = th.threads.medium;
            large = th.threads.large;
            table = th.threads.table;
            each = th.threads.each;
            all = λ place l. th.threads.all place l ∙ same_free place l ∙ ap (λ xs. count_of place l (filter is_free xs)) (sym cut_is);
          };
          spots = λ s h f. th.spots s (no_more s h f) f;
        }

        firsts : (c : Option (List ℕ)) → IfSome c (AreFirst (gaps_of rest) (put_by_place rest_gap (gaps_of rest))) → IfSome c (AreFirst (gaps_of slots) (cut n (gaps_of slots)))
        firsts None f = tt
        firsts (Some bytes) f = λ q m lt.
            f q m (let le = free_removed q m i (gaps_of slots) in
            let l : count_of q m (filter is_free (gaps_of rest)) ≡ count_of q m (filter is_free (remove (gaps_of slots) i)) = ap (λ xs. count_of q m (filter is_free xs)) left in
            let s = same_free q m in
            let r : count_of q m (filter is_free (gaps_of more)) ≡ count_of q m (filter is_free (put_by_place rest_gap (gaps_of rest))) = ap (λ xs. count_of q m (filter is_free xs)) are in omega (arith, le, l, s, r, lt))

        keep : (b c : Option (List ℕ)) → Both (KeepsFillers (remove (gaps_of slots) i) (put_by_place rest_gap (gaps_of rest))) b c → Both (KeepsFillers (remove (gaps_of slots) i) (cut n (gaps_of slots))) b c
        keep None None k = tt
        keep None (Some y) k = k
        keep (Some x) None k = k
        keep (Some x) (Some y) k = λ held byte lt. k held byte (subst (λ m. 0 < m) (same_filler byte) lt)

-- the whole chunk is taken
pub whole_becomes : (n i : ℕ) (gap : Extent) (slots rest : List Slot) (a b : Option (List ℕ)) → AreGaps (gaps_of slots) → IsFirstFit n (gaps_of slots) i → gap ≡ gap_at (gaps_of slots) i → gaps_of rest ≡ remove (gaps_of slots) i → gap.length ≡ n
    → IfSome b (ThreadsSlots (gaps_of rest) rest) → Both (ChangesOnly (free_table ∷ filter is_free (gaps_of slots))) a b → BecomeSlots (cut n (gaps_of slots)) slots rest a b
whole_becomes n i gap slots rest a b g fit is left e th v = record {
  are = left ∙ sym cut_is;
  threads = th;
  first = firsts b;
  fillers = subst (λ xs. Both (KeepsFillers (gaps_of slots) xs) a b) (sym cut_is) (rest_fillers (gaps_of slots) i a b g v);
}
  where
    same : (p q : ℕ) → p ≡ q → (p == q) ≡ true
    same p q e = grind (arith, nat_tests)

    cut_is : cut n (gaps_of slots) ≡ remove (gaps_of slots) i
    cut_is = let on = same (gap_at (gaps_of slots) i).length n (ap (λ (x : Extent). x.length) (sym is) ∙ e) in rw add-one at fit.left ∙ rw on refl

    firsts : (b : Option (List ℕ)) → IfSome b (AreFirst (gaps_of slots) (cut n (gaps_of slots)))
    firsts None = tt
    firsts (Some bytes) = λ q m lt.
        (let le = free_removed q m i (gaps_of slots) in
        let s : count_of q m (filter is_free (cut n (gaps_of slots))) ≡ count_of q m (filter is_free (remove (gaps_of slots) i)) = ap (λ xs. count_of q m (filter is_free xs)) cut_is in absurd (omega (arith, le, s, lt)))
