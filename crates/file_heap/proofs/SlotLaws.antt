-- Slots whose gaps are found by their places, and by their lengths.
use Rattle.std.proofs.Common.{◌≡◌, ◌≢◌, ◌⊎◌, inl, inr, ℕ, zero, suc, add-one, refl, sym, ◌∙◌, ap, subst, arith, List, [], ◌∷◌, ◌++◌, length, ◌+◌, ◌-◌, ◌<◌, ◌≤◌, Bool, true, false, cond}
use Rattle.std.specs.Prelude.{Option, Some, None, take, drop, ◌&&◌, ◌==◌, find, slice_get, slice_set, insert, remove, nat_lt}
use Rattle.std.specs.List.{AllByRecursion}
use Rattle.std.proofs.lemmas.Bool.Decides.{nat_tests, leb_tells}
use Rattle.adf_format.specs.declared.types.Extent.{Extent}
use Rattle.adf_format.specs.declared.types.ExtentKind.{ExtentKind}
use Rattle.adf_format.specs.Placement.{extent}
use Rattle.adf_format.specs.Tiles.{end_of, is_filler, is_free, MeetsNone}
use Rattle.adf_format.specs.LaysOut.{AreGapsInOrder}
use Rattle.adf_format.specs.HeapRule.{is_fit, before_gaps}
use Rattle.gap_tree.specs.declared.slot.Slot.{Slot}
use Rattle.gap_tree.specs.declared.slot.Spot.{Spot}
use Rattle.gap_tree.specs.Slots.{IsByPlace, fit_index, one_on, count_before, gaps_of}
use Rattle.file_heap.specs.Gaps.{IsFirstFit, FitsAt, CountsBefore, NoneEnds, NoneBegins, BeginsAt, IsBesideGap, gap_at, put_by_place}
use Rattle.file_heap.specs.Slots.{MovesTo, BeginsSome, HasSlot, HasNoMore, HasOneMore}
use Rattle.file_heap.proofs.CutLaws.{first_fit, stays_last, stays_apart, is_joined}
use Rattle.file_heap.proofs.PutLaws.{is_put as gap_is_put}
use Rattle.file_heap.proofs.JoinLaws.{behind}
use Rattle.file_heap.proofs.GiveTests.{none_of, meets_at}

-- ---- the gaps alone

pub gaps_length : (slots : List Slot) → length (gaps_of slots) ≡ length slots
gaps_length [] = refl
gaps_length (s ∷ ss) = ap suc (gaps_length ss)

pub gaps-removed : (slots : List Slot) (i : ℕ) → gaps_of (remove slots i) ≡ remove (gaps_of slots) i
gaps-removed [] zero = refl
gaps-removed [] (suc i) = refl
gaps-removed (s ∷ ss) zero = refl
gaps-removed (s ∷ ss) (suc i) = ap (λ gs. s.gap ∷ gs) (gaps-removed ss i)

pub gaps-set : (slots : List Slot) (i : ℕ) (x : Slot) → gaps_of (slice_set slots i x) ≡ slice_set (gaps_of slots) i x.gap
gaps-set [] i x = refl
gaps-set (s ∷ ss) zero x = refl
gaps-set (s ∷ ss) (suc i) x = ap (λ gs. s.gap ∷ gs) (gaps-set ss i x)

pub gaps-inserted : (slots : List Slot) (i : ℕ) (x : Slot) → gaps_of (insert slots i x) ≡ insert (gaps_of slots) i x.gap
gaps-inserted [] zero x = refl
gaps-inserted [] (suc i) x = refl
gaps-inserted (s ∷ ss) zero x = refl
gaps-inserted (s ∷ ss) (suc i) x = ap (λ gs. s.gap ∷ gs) (gaps-inserted ss i x)

pub gap_got : (slots : List Slot) (i : ℕ) (x : Slot) → slice_get slots i ≡ Some x → x.gap ≡ gap_at (gaps_of slots) i
gap_got [] i x e = cc
gap_got (s ∷ ss) zero x e = ap (λ (r : Slot). r.gap) (same s x e)
  where
    same : (a b : Slot) → ◌≡◌ {A = Option Slot} (Some a) (Some b) → b ≡ a
    same a b e = cc
gap_got (s ∷ ss) (suc i) x e = gap_got ss i x e

-- a gap that is set to itself
set_gap : (gaps : List Extent) (i : ℕ) → slice_set gaps i (gap_at gaps i) ≡ gaps
set_gap [] i = refl
set_gap (g ∷ gs) zero = refl
set_gap (g ∷ gs) (suc i) = ap (λ xs. g ∷ xs) (set_gap gs i)

-- ---- by length

later_fit : (n i : ℕ) (g : Extent) (gs : List Extent) → is_fit n g ≡ false → IsFirstFit n gs i → IsFirstFit n (g ∷ gs) (suc i)
later_fit n i g gs off r = record {
  within = (let w = r.within in omega (arith, w));
  free = r.free;
  fits = r.fits;
  first = rw off r.first;
  left = rw (off, add-one) (ap (λ xs. g ∷ xs) (rw add-one at r.left));
}

fit_tells : (n i : ℕ) (slots : List Slot) → fit_index n slots ≡ Some i → IsFirstFit n (gaps_of slots) i
fit_tells n i [] e = cc
fit_tells n i (s ∷ ss) e = by_test (is_fit n s.gap) refl e (fit_index n ss) refl (λ j f. fit_tells n j ss f)
  where
    same : (a b : ℕ) → ◌≡◌ {A = Option ℕ} (Some a) (Some b) → a ≡ b
    same a b e = cc

    by_test : (t : Bool) → is_fit n s.gap ≡ t → cond t (Some 0) (one_on (fit_index n ss)) ≡ Some i → (o : Option ℕ) → fit_index n ss ≡ o → ((j : ℕ) → fit_index n ss ≡ Some j → IsFirstFit n (gaps_of ss) j) → IsFirstFit n (s.gap ∷ gaps_of ss) i
    by_test true on e o f ih = subst (IsFirstFit n (s.gap ∷ gaps_of ss)) (same 0 i e) (first_fit n 0 (s.gap ∷ gaps_of ss) (omega arith) on (λ j lt. absurd (omega (arith, lt))))
    by_test false off e None f ih = let h : one_on (fit_index n ss) ≡ None = ap one_on f in cc
    by_test false off e (Some j) f ih = subst (IsFirstFit n (s.gap ∷ gaps_of ss)) (same (suc j) i (sym (ap one_on f) ∙ e)) (later_fit n j s.gap (gaps_of ss) off (ih j f))

none_tells : (n : ℕ) (slots : List Slot) → fit_index n slots ≡ None → find (is_fit n) (gaps_of slots) ≡ None
none_tells n [] e = refl
none_tells n (s ∷ ss) e = by_test (is_fit n s.gap) e (fit_index n ss) refl (none_tells n ss)
  where
    by_test : (t : Bool) → cond t (Some 0) (one_on (fit_index n ss)) ≡ None → (o : Option ℕ) → fit_index n ss ≡ o → (fit_index n ss ≡ None → find (is_fit n) (gaps_of ss) ≡ None) → cond t (Some s.gap) (find (is_fit n) (gaps_of ss)) ≡ None
    by_test true e o f ih = cc
    by_test false e None f ih = ih f
    by_test false e (Some j) f ih = let h : one_on (fit_index n ss) ≡ Some (suc j) = ap one_on f in cc

pub fits_at : (n : ℕ) (slots : List Slot) (r : Option ℕ) → r ≡ fit_index n slots → FitsAt n (gaps_of slots) r
fits_at n slots None e = none_tells n slots (sym e)
fits_at n slots (Some i) e = fit_tells n i slots (sym e)

-- ---- by place

from_all : (p q : ℕ) (ss : List Slot) → p < q → AllByRecursion (λ (r : Slot). q < r.gap.place) ss → AllByRecursion (λ (r : Slot). p < r.gap.place) ss
from_all p q [] lt a = tt
from_all p q (s ∷ ss) lt a = (let k : q < s.gap.place = a.0 in omega (arith, lt, k), from_all p q ss lt a.1)

pub by_place : (slots : List Slot) → AreGapsInOrder (gaps_of slots) → IsByPlace slots
by_place [] o = tt
by_place (s ∷ []) o = (tt, tt)
by_place (s ∷ r ∷ rs) o =
    let ih = by_place (r ∷ rs) o.2 in
    let long : 0 < s.gap.length = o.0.0 in
    let next : end_of s.gap ≤ r.gap.place = o.1.0 in
    let lt : s.gap.place < r.gap.place = omega (arith, long, next) in ((lt, from_all s.gap.place r.gap.place rs lt ih.0), ih)

pub counts : (place : ℕ) (slots : List Slot) → CountsBefore place (gaps_of slots) (count_before place slots)
counts place [] = record { within = omega arith; before = λ j lt. absurd (omega (arith, lt)); behind = λ lt. absurd (omega (arith, lt)) }
counts place (s ∷ ss) = by_test (nat_lt s.gap.place place) refl (counts place ss)
  where
    below : nat_lt s.gap.place place ≡ true → s.gap.place < place
    below e = grind (arith, nat_tests)

    above : nat_lt s.gap.place place ≡ false → place ≤ s.gap.place
    above e = grind (arith, nat_tests)

    by_test : (t : Bool) → nat_lt s.gap.place place ≡ t → CountsBefore place (gaps_of ss) (count_before place ss) → CountsBefore place (s.gap ∷ gaps_of ss) (cond t (suc (count_before place ss)) 0)
    by_test false e c = record { within = omega arith; before = λ j lt. absurd (omega (arith, lt)); behind = λ lt. above e }
    by_test true e c = record { within = (let w = c.within in omega (arith, w)); before = λ j lt. go j lt; behind = λ lt. c.behind (omega (arith, lt)) }
      where
        go : (j : ℕ) → j < suc (count_before place ss) → (gap_at (s.gap ∷ gaps_of ss) j).place < place
        go zero lt = below e
        go (suc j) lt = c.before j (omega (arith, lt))

-- each gap has a byte, and ends before the later ones begin
pub ordered : (gaps : List Extent) (j k : ℕ) → AreGapsInOrder gaps → j < k → k < length gaps → end_of (gap_at gaps j) ≤ (gap_at gaps k).place
ordered [] j k o lt le = absurd (omega (arith, le))
ordered (g ∷ gs) zero zero o lt le = absurd (omega (arith, lt))
ordered (g ∷ gs) zero (suc k) o lt le = (behind g gs k o.1 o.2 (omega (arith, le))).0
ordered (g ∷ gs) (suc j) zero o lt le = absurd (omega (arith, lt))
ordered (g ∷ gs) (suc j) (suc k) o lt le = ordered gs j k o.2 (omega (arith, lt)) (omega (arith, le))

pub has_bytes : (gaps : List Extent) (k : ℕ) → AreGapsInOrder gaps → k < length gaps → 0 < (gap_at gaps k).length
has_bytes [] k o lt = absurd (omega (arith, lt))
has_bytes (g ∷ gs) zero o lt = o.0.0
has_bytes (g ∷ gs) (suc k) o lt = has_bytes gs k o.2 (omega (arith, lt))

module _ (place : ℕ) (gaps : List Extent) (o : AreGapsInOrder gaps) (i : ℕ) (c : CountsBefore place gaps i) where
  -- the gaps from the index on begin at the place or behind it
  from_index : (j : ℕ) → i ≤ j → j < length gaps → place ≤ (gap_at gaps j).place
  from_index j le lt = elim (leb_tells j i) [
    | inl h ↦ (let e : i ≡ j = omega (arith, le, h.1) in subst (λ k. place ≤ (gap_at gaps k).place) e (c.behind (omega (arith, le, lt))))
    | inr h ↦ (let first = c.behind (omega (arith, le, lt)) in let next = ordered gaps i j o h.1 lt in omega (arith, first, next))
  ]

  pub none_ends : (0 < i → end_of (gap_at gaps (i - 1)) ≡ place → ⊥) → NoneEnds place gaps (length gaps)
  none_ends off j lt e = elim (leb_tells i j) [
    | inl h ↦ (let from = from_index j h.1 lt in let long = has_bytes gaps j o lt in omega (arith, from, long, e))
    | inr h ↦ elim (leb_tells (i - 1) j) [
      | inl k ↦ (let is : j ≡ i - 1 = omega (arith, h.1, k.1) in off (omega (arith, h.1)) (subst (λ m. end_of (gap_at gaps m) ≡ place) is e))
      | inr k ↦ (let lt_before = c.before (i - 1) (omega (arith, h.1)) in let w = c.within in let next = ordered gaps j (i - 1) o k.1 (omega (arith, h.1, w)) in omega (arith, next, lt_before, e))
    ]
  ]

  pub none_begins : (i < length gaps → (gap_at gaps i).place ≡ place → ⊥) → NoneBegins place gaps (length gaps)
  none_begins off j lt e = elim (leb_tells i j) [
    | inl h ↦ elim (leb_tells j i) [
      | inl k ↦ (let is : j ≡ i = omega (arith, h.1, k.1) in off (omega (arith, h.1, lt)) (subst (λ m. (gap_at gaps m).place ≡ place) is e))
      | inr k ↦ (let from = from_index i (omega arith) (omega (arith, k.1, lt)) in let long = has_bytes gaps i o (omega (arith, k.1, lt)) in let next = ordered gaps i j o k.1 lt in omega (arith, from, long, next, e))
    ]
    | inr h ↦ (let b = c.before j h.1 in omega (arith, b, e))
  ]

-- ---- a range that meets no gap

module _ (place n i : ℕ) (gaps : List Extent) (o : AreGapsInOrder gaps) (c : CountsBefore (place + n) gaps i) where
  pub meets_nothing : (0 < i → IsBesideGap place n (gap_at gaps (i - 1))) → MeetsNone place n gaps
  meets_nothing beside = none_of gaps place n (λ j lt. elim (leb_tells i j) [ inl h ↦ inr (from_index (place + n) gaps o i c j h.1 lt) | inr h ↦ inl (ends j h.1) ])
    where
      last : 0 < i → end_of (gap_at gaps (i - 1)) ≤ place
      last pos = elim (beside pos) [ inl h ↦ h | inr h ↦ (let b = c.before (i - 1) (omega (arith, pos)) in absurd (omega (arith, b, h))) ]

      ends : (j : ℕ) → j < i → end_of (gap_at gaps j) ≤ place
      ends j lt = elim (leb_tells (i - 1) j) [
        | inl k ↦ (let is : i - 1 ≡ j = omega (arith, lt, k.1) in subst (λ m. end_of (gap_at gaps m) ≤ place) is (last (omega (arith, lt))))
        | inr k ↦ (let w = c.within in let next = ordered gaps j (i - 1) o k.1 (omega (arith, lt, w)) in let long = has_bytes gaps (i - 1) o (omega (arith, lt, w)) in let l = last (omega (arith, lt)) in omega (arith, next, long, l))
      ]

  pub meets_something : 1 ≤ n → 0 < i → (gap_at gaps (i - 1)).place < place + n → place < end_of (gap_at gaps (i - 1)) → MeetsNone place n gaps → ⊥
  meets_something some pos before behind_it none =
      let w = c.within in meets_at gaps (i - 1) place n (omega (arith, pos, w)) some before behind_it (has_bytes gaps (i - 1) o (omega (arith, pos, w))) none

-- ---- as the code finds them

module _ (place : ℕ) (slots : List Slot) (i : ℕ) (o : AreGapsInOrder (gaps_of slots)) (at : i ≡ count_before place slots) where
  counted : CountsBefore place (gaps_of slots) i
  counted = subst (CountsBefore place (gaps_of slots)) (sym at) (counts place slots)

  pub none_ends_at_all : i ≡ 0 → NoneEnds place (gaps_of slots) (length (gaps_of slots))
  none_ends_at_all e = none_ends place (gaps_of slots) o i counted (λ pos _. omega (arith, pos, e))

  pub none_ends_there : (g : Extent) → g ≡ gap_at (gaps_of slots) (i - 1) → g.place + g.length ≢ place → NoneEnds place (gaps_of slots) (length (gaps_of slots))
  none_ends_there g is off = none_ends place (gaps_of slots) o i counted (λ pos e. off (ap end_of is ∙ e))

  pub none_begins_at_all : length slots ≤ i → NoneBegins place (gaps_of slots) (length (gaps_of slots))
  none_begins_at_all le = none_begins place (gaps_of slots) o i counted (λ lt _. omega (arith, lt, le, gaps_length slots))

  pub none_begins_there : (g : Extent) → g ≡ gap_at (gaps_of slots) i → g.place ≢ place → NoneBegins place (gaps_of slots) (length (gaps_of slots))
  none_begins_there g is off = none_begins place (gaps_of slots) o i counted (λ lt e. off (ap (λ (x : Extent). x.place) is ∙ e))

module _ (place n : ℕ) (slots : List Slot) (i : ℕ) (o : AreGapsInOrder (gaps_of slots)) (at : i ≡ count_before (place + n) slots) where
  pub meets_nothing_at_all : i ≡ 0 → MeetsNone place n (gaps_of slots)
  meets_nothing_at_all e = meets_nothing place n i (gaps_of slots) o (counted (place + n) slots i o at) (λ pos. absurd (omega (arith, pos, e)))

  pub meets_nothing_there : (g : Extent) → g ≡ gap_at (gaps_of slots) (i - 1) → IsBesideGap place n g → MeetsNone place n (gaps_of slots)
  meets_nothing_there g is beside = meets_nothing place n i (gaps_of slots) o (counted (place + n) slots i o at) (λ pos. subst (IsBesideGap place n) is beside)

  pub meets_something_there : (g : Extent) → i ≢ 0 → g ≡ gap_at (gaps_of slots) (i - 1) → 1 ≤ n → (g.place < place + n) × (place < end_of g) → MeetsNone place n (gaps_of slots) → ⊥
  meets_something_there g pos is some meets none =
      let m = subst (λ (x : Extent). (x.place < place + n) × (place < end_of x)) is meets in
      meets_something place n i (gaps_of slots) o (counted (place + n) slots i o at) some (omega (arith, pos)) m.0 m.1 none

-- ---- one more, one less, another spot

pub is_put : (x : Slot) (slots more : List Slot) → more ≡ insert slots (count_before x.gap.place slots) x → gaps_of more ≡ put_by_place x.gap (gaps_of slots)
is_put x slots more e = ap gaps_of e ∙ gaps-inserted slots (count_before x.gap.place slots) x ∙ gap_is_put x.gap (count_before x.gap.place slots) (gaps_of slots) (counts x.gap.place slots)

got_inserted : (slots : List Slot) (i k : ℕ) (x s : Slot) → slice_get (insert slots i x) k ≡ Some s → (s ≡ x) ⊎ HasSlot slots s
got_inserted [] zero zero x s e = inl (same x s e)
  where
    same : (a b : Slot) → ◌≡◌ {A = Option Slot} (Some a) (Some b) → b ≡ a
    same a b e = cc
got_inserted [] zero (suc k) x s e = cc
got_inserted [] (suc i) zero x s e = inl (same x s e)
  where
    same : (a b : Slot) → ◌≡◌ {A = Option Slot} (Some a) (Some b) → b ≡ a
    same a b e = cc
got_inserted [] (suc i) (suc k) x s e = cc
got_inserted (y ∷ ys) zero zero x s e = inl (same x s e)
  where
    same : (a b : Slot) → ◌≡◌ {A = Option Slot} (Some a) (Some b) → b ≡ a
    same a b e = cc
got_inserted (y ∷ ys) zero (suc k) x s e = inr (k, e)
got_inserted (y ∷ ys) (suc i) zero x s e = inr (0, e)
got_inserted (y ∷ ys) (suc i) (suc k) x s e = elim (got_inserted ys i k x s e) [ inl h ↦ inl h | inr h ↦ inr (suc h.0, h.1) ]

pub one_more : (slots more : List Slot) (i : ℕ) (x : Slot) → more ≡ insert slots i x → HasOneMore x slots more
one_more slots more i x e s h = got_inserted slots i h.0 x s (subst (λ ys. slice_get ys h.0 ≡ Some s) e h.1)

-- a slot that is left stands at another index than the one that was removed
pub got_removed : (slots : List Slot) (i k : ℕ) (s : Slot) → slice_get (remove slots i) k ≡ Some s → (j : ℕ) × (j ≢ i) × (slice_get slots j ≡ Some s)
got_removed [] zero k s e = cc
got_removed [] (suc i) k s e = cc
got_removed (y ∷ ys) zero k s e = (suc k, λ q. omega (arith, q), e)
got_removed (y ∷ ys) (suc i) zero s e = (0, λ q. omega (arith, q), e)
got_removed (y ∷ ys) (suc i) (suc k) s e = let r = got_removed ys i k s e in (suc r.0, λ q. r.1 (omega (arith, q)), r.2)

pub got_set : (slots : List Slot) (i k : ℕ) (x s : Slot) → slice_get (slice_set slots i x) k ≡ Some s → ((k ≡ i) × (s ≡ x)) ⊎ ((k ≢ i) × (slice_get slots k ≡ Some s))
got_set [] i k x s e = cc
got_set (y ∷ ys) zero zero x s e = inl (refl, cc)
got_set (y ∷ ys) zero (suc k) x s e = inr (λ q. omega (arith, q), e)
got_set (y ∷ ys) (suc i) zero x s e = inr (λ q. omega (arith, q), e)
got_set (y ∷ ys) (suc i) (suc k) x s e = elim (got_set ys i k x s e) [ inl r ↦ inl (ap suc r.0, r.1) | inr r ↦ inr (λ q. r.0 (omega (arith, q)), r.1) ]

pub moves_at : (slots moved : List Slot) (place i : ℕ) (s x : Slot) (spot : Spot) → BeginsAt place (gaps_of slots) (Some i) → slice_get slots i ≡ Some s → x ≡ record { gap = s.gap; spot = Some spot } → moved ≡ slice_set slots i x → MovesTo (Some place) spot slots moved
moves_at slots moved place i s x spot at got is e = (i, s, got, ap (λ (g : Extent). g.place) (gap_got slots i s got) ∙ at.1, e ∙ ap (slice_set slots i) is)

pub moved_gaps : (place : Option ℕ) (spot : Spot) (slots moved : List Slot) → MovesTo place spot slots moved → gaps_of moved ≡ gaps_of slots
moved_gaps None spot slots moved m = ap gaps_of m
moved_gaps (Some place) spot slots moved m =
    ap gaps_of m.4 ∙ gaps-set slots m.0 (record { gap = m.1.gap; spot = Some spot }) ∙ ap (slice_set (gaps_of slots) m.0) (gap_got slots m.0 m.1 m.2) ∙ set_gap (gaps_of slots) m.0

pub begins_none : (place : ℕ) (gaps : List Extent) → NoneBegins place gaps (length gaps) → BeginsSome gaps (Some place) → ⊥
begins_none place gaps none some = some none

-- ---- two fillers that touch

module _ (slots : List Slot) (i : ℕ) where
  abbrev pub IsOneGap : List Extent → Type 0
  IsOneGap gaps = gaps ≡ take i (gaps_of slots) ++ before_gaps (gap_at (gaps_of slots) i) (drop (i + 1) (gaps_of slots))

  pub last_stays : i < length slots → length slots ≤ i + 1 → IsOneGap (gaps_of slots)
  last_stays lt le = rw add-one (stays_last i (gaps_of slots) (omega (arith, lt, gaps_length slots)) (omega (arith, le, gaps_length slots)))

  module _ (g h : Extent) (lt : i + 1 < length slots) (first : g ≡ gap_at (gaps_of slots) i) (next : h ≡ gap_at (gaps_of slots) (i + 1)) where
    abbrev touch : Bool
    touch = is_filler (gap_at (gaps_of slots) i) && is_filler (gap_at (gaps_of slots) (suc i)) && (end_of (gap_at (gaps_of slots) i) == (gap_at (gaps_of slots) (suc i)).place)

    same_touch : (is_filler g && is_filler h && (end_of g == h.place)) ≡ touch
    same_touch = ap (λ (x : Extent). is_filler x && is_filler h && (end_of x == h.place)) first ∙ ap (λ (x : Extent). is_filler (gap_at (gaps_of slots) i) && is_filler x && (end_of (gap_at (gaps_of slots) i) == x.place)) (rw add-one at next)

    pub apart_stays : (is_filler g && is_filler h && (end_of g == h.place)) ≡ false → IsOneGap (gaps_of slots)
    apart_stays off = rw add-one (stays_apart i (gaps_of slots) (omega (arith, lt, gaps_length slots)) (sym same_touch ∙ off))

    module _ (x : Slot) (mid new : List Slot) (is : x.gap ≡ extent ExtentKind.Filler g.place (g.length + h.length)) (set : mid ≡ slice_set slots (i + 1) x) (less : new ≡ remove mid i) where
      pub one_filler : (is_filler g && is_filler h && (end_of g == h.place)) ≡ true → IsOneGap (gaps_of new)
      one_filler on =
          ap gaps_of less ∙ gaps-removed mid i ∙ ap (λ ss. remove (gaps_of ss) i) set ∙ ap (λ gs. remove gs i) (gaps-set slots (i + 1) x ∙ ap (slice_set (gaps_of slots) (i + 1)) is)
          ∙ ap (λ (y : Extent). remove (slice_set (gaps_of slots) (i + 1) (extent ExtentKind.Filler y.place (y.length + h.length))) i) first
          ∙ ap (λ (y : Extent). remove (slice_set (gaps_of slots) (i + 1) (extent ExtentKind.Filler (gap_at (gaps_of slots) i).place ((gap_at (gaps_of slots) i).length + y.length))) i) next
          ∙ rw add-one (is_joined i (gaps_of slots) (omega (arith, lt, gaps_length slots)) (sym same_touch ∙ on))

      pub no_more : HasNoMore slots new
      no_more s has free =
          let r = got_removed mid i has.0 s (subst (λ ss. slice_get ss has.0 ≡ Some s) less has.1) in
          elim (got_set slots (i + 1) r.0 x s (subst (λ ss. slice_get ss r.0 ≡ Some s) set r.2)) [
            | inl q ↦ absurd (clash (is_free s.gap) free (ap (λ (y : Slot). is_free y.gap) q.1 ∙ ap is_free is))
            | inr q ↦ (r.0, q.1)
          ]
        where
          clash : (t : Bool) → t ≡ true → t ≡ false → ⊥
          clash t p q = cc

pub same_slots : (slots new : List Slot) → new ≡ slots → HasNoMore slots new
same_slots slots new e s has free = (has.0, subst (λ ss. slice_get ss has.0 ≡ Some s) e has.1)
