-- A gap leaves the gaps and its list, and a gap is written and joins them.
use Rattle.std.proofs.Common.{◌≡◌, ◌≢◌, inl, inr, ℕ, refl, sym, ◌∙◌, ap, subst, arith, List, [], ◌∷◌, length, get_or, filter, ◌+◌, ◌<◌, ◌≤◌, Bool, true, false, cond}
use Rattle.std.proofs.lemmas.Bool.Decides.{nat_tests, eqb_tells, leb_tells}
use Rattle.std.specs.Prelude.{Option, Some, None, IfSome, slice_get, slice_set, remove, nat_lt, ◌==◌, ◌&&◌}
use Rattle.cg_io.specs.Blocks.{Both}
use Rattle.cg_io.specs.Answers.{IsRefusal, IsUntold}
use Rattle.adf_model.specs.declared.error.AdfError.{AdfError}
use Rattle.adf_model.specs.declared.error.AdfError.TheVariants as error
use Rattle.adf_format.specs.declared.fields.TheConstants.{FREE_TABLE_PLACE, FREE_TABLE_LENGTH}
use Rattle.adf_format.specs.declared.types.Extent.{Extent}
use Rattle.adf_format.specs.RecordFields.{list_first}
use Rattle.adf_format.specs.Parts.{HasPointer}
use Rattle.adf_format.specs.Tiles.{is_free, MeetsNone}
use Rattle.adf_format.specs.LaysOut.{AreGapsInOrder, ThreadsFreeChunks, HasSameRanges, first_place, count_of}
use Rattle.adf_format.specs.HeapRule.{new_gap}
use Rattle.gap_tree.specs.declared.slot.Class.{Class}
use Rattle.gap_tree.specs.declared.slot.Slot.{Slot}
use Rattle.gap_tree.specs.declared.slot.Spot.{Spot}
use Rattle.gap_tree.specs.Slots.{gaps_of}
use Rattle.file_heap.specs.Gaps.{NoneBegins, gap_at, put_by_place}
use Rattle.file_heap.specs.Heap.{ChangesOnly}
use Rattle.file_heap.specs.Links.{AreGaps, IsBehind, ListsGap, ThreadsNone, ThreadsThese, WritesGap, list_of, lists_of, listed, number_of, class_of, range, free_table}
use Rattle.file_heap.specs.Slots.{AreFirst, BecomeSlots, BeginsSome, HasOneMore, HasSlot, HasSpot, IsMissing, LeavesList, MovesTo, StandsOn, ThreadsSlots}
use Rattle.file_heap.proofs.ListLaws.{link_says, some_same}
use Rattle.file_heap.proofs.HeapFacts.{free_put, free_unlisted}
use Rattle.file_heap.proofs.SlotLaws.{gap_got, gaps_length, moved_gaps, gaps-removed, got_removed, got_set}
use Rattle.file_heap.proofs.SpaceLaws.{free_of_gaps, low_apart, put_fillers}
use Rattle.file_heap.proofs.SpotLaws.{behind_pushed, different, first_pushed, listed_begins, number_few, set_here, set_other, to_slots}

-- ---- a gap leaves

pub has_spot : (slots : List Slot) (i : ℕ) (s : Slot) (spot : Spot) → slice_get slots i ≡ Some s → s.spot ≡ Some spot → HasSpot slots i spot
has_spot slots i s spot got is =
    got ∙ ap (λ (g : Extent). Some (record { gap = g; spot = s.spot })) (gap_got slots i s got) ∙ ap (λ (o : Option Spot). Some (record { gap = gap_at (gaps_of slots) i; spot = o })) is

pub filler_gaps : (slots rest : List Slot) (i : ℕ) → rest ≡ remove slots i → gaps_of rest ≡ remove (gaps_of slots) i
filler_gaps slots rest i e = ap gaps_of e ∙ gaps-removed slots i

pub chunk_gaps : (slots moved rest : List Slot) (i : ℕ) (spot : Spot) (next : Option ℕ) → MovesTo next spot slots moved → rest ≡ remove moved i → gaps_of rest ≡ remove (gaps_of slots) i
chunk_gaps slots moved rest i spot next m e = filler_gaps moved rest i e ∙ ap (λ gs. remove gs i) (moved_gaps next spot slots moved m)

pub moved_order : (slots moved : List Slot) (spot : Spot) (next : Option ℕ) → AreGaps (gaps_of slots) → MovesTo next spot slots moved → AreGapsInOrder (gaps_of moved)
moved_order slots moved spot next g m = subst AreGapsInOrder (sym (moved_gaps next spot slots moved m)) g.order

-- a filler leaves
pub filler_leaves : (slots rest : List Slot) (i : ℕ) (s : Slot) (image : Option (List ℕ)) → i < length slots → slice_get slots i ≡ Some s → is_free s.gap ≡ false → rest ≡ remove slots i → IfSome image (ThreadsSlots (gaps_of slots) slots) → IfSome image (ThreadsSlots (gaps_of rest) rest)
filler_leaves slots rest i s None lt got off e th = tt
filler_leaves slots rest i s (Some bytes) lt got off e th = subst (λ ss. ThreadsSlots (gaps_of ss) ss bytes) (sym e) (subst (λ gs. ThreadsSlots gs (remove slots i) bytes) (sym (gaps-removed slots i)) (record {
  threads = record { small = th.threads.small; medium = th.threads.medium; large = th.threads.large; table = th.threads.table; each = th.threads.each; all = λ place n. th.threads.all place n ∙ ap (count_of place n) (sym unlisted) };
  spots = λ r h f. th.spots r (let k = got_removed slots i h.0 r h.1 in (k.0, k.2)) f;
}))
  where
    unlisted : filter is_free (remove (gaps_of slots) i) ≡ filter is_free (gaps_of slots)
    unlisted = free_unlisted i (gaps_of slots) (omega (arith, lt, gaps_length slots)) (ap is_free (sym (gap_got slots i s got)) ∙ off)

-- a free chunk leaves
pub chunk_leaves : (slots moved rest : List Slot) (i : ℕ) (spot : Spot) (next : Option ℕ) (image : Option (List ℕ)) → IfSome image (LeavesList slots i spot next) → MovesTo next spot slots moved → rest ≡ remove moved i → IfSome image (ThreadsSlots (gaps_of rest) rest)
chunk_leaves slots moved rest i spot next None l m e = tt
chunk_leaves slots moved rest i spot next (Some bytes) l m e = subst (λ ss. ThreadsSlots (gaps_of ss) ss bytes) (sym e) (l moved m)

-- a free chunk has a spot, where the bytes are told
pub spot_is_there : (slots : List Slot) (i : ℕ) (s : Slot) (image : Option (List ℕ)) → slice_get slots i ≡ Some s → is_free s.gap ≡ true → s.spot ≡ None → IfSome image (ThreadsSlots (gaps_of slots) slots) → IsUntold image
spot_is_there slots i s None got free none th = tt
spot_is_there slots i s (Some bytes) got free none th = subst (StandsOn (lists_of th.threads) s.gap.place) none (th.spots s (i, got) free)

-- what is not found is not told of
pub missing_refused : (e : AdfError) (gaps : List Extent) (next : Option ℕ) (image : Option (List ℕ)) (a b : ℕ) → IfSome image (λ bytes. BeginsSome gaps next) → IsMissing (BeginsSome gaps next) e → IsRefusal (IsUntold image) a b e
missing_refused error.Memory gaps next image a b begins m = tt
missing_refused (error.Layout rule place) gaps next None a b begins m = (m.0, tt)
missing_refused (error.Layout rule place) gaps next (Some bytes) a b begins m = (m.0, m.1 begins)
missing_refused other gaps next image a b begins m = absurd m

-- ---- a gap is written

-- the same lists, over gaps with the same free chunks
these_same : (bytes : List ℕ) (xs ys : List Extent) (lists : List (List Extent)) → HasSameRanges (filter is_free xs) (filter is_free ys) → ThreadsThese bytes xs lists → ThreadsThese bytes ys lists
these_same bytes xs ys lists same th = record {
  threads = record { small = th.threads.small; medium = th.threads.medium; large = th.threads.large; table = th.threads.table; each = th.threads.each; all = λ place n. th.threads.all place n ∙ same place n };
  are = th.are;
}

abbrev own_slot : ℕ → ℕ → Slot
own_slot place n = record { gap = new_gap place n; spot = Some (record { list = class_of n; front = None }) }

abbrev own_spot : ℕ → ℕ → Spot
own_spot place n = record { list = class_of n; front = Some place }

module _ (old new : List ℕ) (slots moved more : List Slot) (place n : ℕ) (first : Option ℕ) (g : AreGaps (gaps_of slots)) (none : MeetsNone place n (gaps_of slots)) (low : 266 ≤ place) (th : ThreadsSlots (gaps_of slots) slots old)
    (w : WritesGap place n first old new) (m : MovesTo first (record { list = class_of n; front = Some place }) slots moved) (are : gaps_of more ≡ put_by_place (new_gap place n) (gaps_of slots)) (one : HasOneMore (own_slot place n) moved more) where
  t : ThreadsFreeChunks old (gaps_of slots)
  t = th.threads

  abbrev k : ℕ
  k = number_of (class_of n)

  abbrev list : List Extent
  list = list_of th.threads (number_of (class_of n))

  gap_listed : ListsGap place n first th.threads new
  gap_listed = w.threads (gaps_of slots) (free_of_gaps (gaps_of slots) place n none) (free_of_gaps (gaps_of slots) FREE_TABLE_PLACE FREE_TABLE_LENGTH (low_apart (gaps_of slots) g)) low th.threads

  these : ThreadsThese new (put_by_place (new_gap place n) (gaps_of slots)) (listed place n (lists_of th.threads))
  these = these_same new (new_gap place n ∷ gaps_of slots) (put_by_place (new_gap place n) (gaps_of slots)) (listed place n (lists_of th.threads)) (λ q l. sym (free_put q l (new_gap place n) (gaps_of slots))) gap_listed.these

  not_free : nat_lt n 32 ≡ true → is_free (new_gap place n) ≡ false
  not_free on = rw on

  clash : (b : Bool) → b ≡ true → b ≡ false → ⊥
  clash b p q = cc

  -- a filler
  with_filler : n < 32 → nat_lt n 32 ≡ true → (s : Slot) → HasSlot more s → is_free s.gap ≡ true → StandsOn (listed place n (lists_of th.threads)) s.gap.place s.spot
  with_filler short on s h f = elim (one s h) [
    | inl e ↦ absurd (clash (is_free s.gap) f (ap (λ (x : Slot). is_free x.gap) e ∙ not_free on))
    | inr q ↦ rw on (th.spots s (subst (λ ss. HasSlot ss s) same q) f)
  ]
    where
      same : moved ≡ slots
      same = subst (λ o. MovesTo o (own_spot place n) slots moved) (w.unlisted short) m

  -- another chunk behind the new one, or in another list
  pub pushed_stands : (p : ℕ) (spot : Option Spot) → first_place list ≢ Some p → StandsOn (lists_of th.threads) p spot → StandsOn (slice_set (lists_of th.threads) (number_of (class_of n)) (range place n ∷ list)) p spot
  pushed_stands p None nf h = h
  pushed_stands p (Some spot) nf h = elim (eqb_tells (number_of spot.list) (number_of (class_of n))) [
    | inl e ↦ subst (λ fs. IsBehind fs p spot.front) (sym (ap (λ j. get_or (slice_set (lists_of th.threads) (number_of (class_of n)) (range place n ∷ list)) j []) e.1 ∙ set_here (lists_of th.threads) (number_of (class_of n)) (range place n ∷ list) (number_few (class_of n))))
        (behind_pushed (range place n) list p spot.front nf (subst (λ j. IsBehind (list_of th.threads j) p spot.front) e.1 h))
    | inr e ↦ subst (λ fs. IsBehind fs p spot.front) (sym (set_other (lists_of th.threads) (number_of (class_of n)) (number_of spot.list) (range place n ∷ list) e.1)) h
  ]

  here_is : get_or (slice_set (lists_of th.threads) (number_of (class_of n)) (range place n ∷ list)) (number_of (class_of n)) [] ≡ range place n ∷ list
  here_is = set_here (lists_of th.threads) (number_of (class_of n)) (range place n ∷ list) (number_few (class_of n))

  own_place : nat_lt n 32 ≡ false → (new_gap place n).place ≡ place
  own_place off = rw off

  -- the chunks that were there
  moved_stand : (first : Option ℕ) → first ≡ first_place list → MovesTo first (own_spot place n) slots moved → (s : Slot) → HasSlot moved s → is_free s.gap ≡ true → StandsOn (slice_set (lists_of th.threads) (number_of (class_of n)) (range place n ∷ list)) s.gap.place s.spot
  moved_stand None e m s h f = pushed_stands s.gap.place s.spot (λ q. (let z = e ∙ q in cc)) (th.spots s (subst (λ ss. HasSlot ss s) m h) f)
  moved_stand (Some p) e m s h f = elim (got_set slots m.0 h.0 (record { gap = m.1.gap; spot = Some (own_spot place n) }) s (subst (λ ss. slice_get ss h.0 ≡ Some s) m.4 h.1)) [
    | inl q ↦ subst (λ (x : Slot). StandsOn (slice_set (lists_of th.threads) (number_of (class_of n)) (range place n ∷ list)) x.gap.place x.spot) (sym q.1)
        (subst (λ fs. IsBehind fs m.1.gap.place (Some place)) (sym here_is) (first_pushed (range place n) list m.1.gap.place (ap (λ x. Some x) m.3 ∙ e)))
    | inr q ↦ pushed_stands s.gap.place s.spot (λ z. different slots h.0 m.0 s m.1 g.order q.1 m.2 q.0 (sym (m.3 ∙ some_same p s.gap.place (e ∙ z)))) (th.spots s (h.0, q.1) f)
  ]

  with_chunk : 32 ≤ n → nat_lt n 32 ≡ false → (s : Slot) → HasSlot more s → is_free s.gap ≡ true → StandsOn (listed place n (lists_of th.threads)) s.gap.place s.spot
  with_chunk long off s h f = elim (one s h) [
    | inl e ↦ subst (λ (x : Slot). StandsOn (listed place n (lists_of th.threads)) x.gap.place x.spot) (sym e)
        (rw off (subst (λ fs. IsBehind fs place None) (sym here_is) (record { before = []; chunk = range place n; after = list; is = refl; here = refl; follows = refl })))
    | inr q ↦ rw off (moved_stand first (gap_listed.was_first long) m s q f)
  ]

  all_stand : (s : Slot) → HasSlot more s → is_free s.gap ≡ true → StandsOn (listed place n (lists_of th.threads)) s.gap.place s.spot
  all_stand s h f = elim (leb_tells 32 n) [ inl l ↦ with_chunk l.1 (long l.1) s h f | inr l ↦ with_filler l.1 (short l.1) s h f ]
    where
      long : 32 ≤ n → nat_lt n 32 ≡ false
      long le = grind (arith, nat_tests)

      short : n < 32 → nat_lt n 32 ≡ true
      short lt = grind (arith, nat_tests)

  pub written_threads : ThreadsSlots (gaps_of more) more new
  written_threads = to_slots new (put_by_place (new_gap place n) (gaps_of slots)) (listed place n (lists_of th.threads)) more are these all_stand

  -- the chunk is the first of its class
  first_of_class : nat_lt n 32 ≡ false → HasPointer new (list_first FREE_TABLE_PLACE (number_of (class_of n))).offset (Some place)
  first_of_class off =
      let listed_here : get_or (listed place n (lists_of th.threads)) (number_of (class_of n)) [] ≡ range place n ∷ list = rw off here_is in
      let is : list_of these.threads (number_of (class_of n)) ≡ range place n ∷ list = these.are (number_of (class_of n)) (number_few (class_of n)) ∙ listed_here in
      subst (λ o. HasPointer new (list_first FREE_TABLE_PLACE (number_of (class_of n))).offset o) (ap first_place is)
      (link_says new (put_by_place (new_gap place n) (gaps_of slots)) these.threads (number_of (class_of n)) [] (list_of these.threads (number_of (class_of n))) None (number_few (class_of n)) refl refl).says

  pub written_first : AreFirst (gaps_of slots) (put_by_place (new_gap place n) (gaps_of slots)) new
  written_first q l more = by_short (nat_lt n 32) refl
    where
      counts : count_of q l (filter is_free (gaps_of slots)) < count_of q l (filter is_free (new_gap place n ∷ gaps_of slots))
      counts = subst (λ c. count_of q l (filter is_free (gaps_of slots)) < c) (free_put q l (new_gap place n) (gaps_of slots)) more

      same : (a b : ℕ) → (a == b) ≡ true → a ≡ b
      same a b e = grind (arith, nat_tests)

      by_length : (b : Bool) → (n == l) ≡ b → place ≡ q → nat_lt n 32 ≡ false → count_of q l (filter is_free (gaps_of slots)) < cond b 1 0 + count_of q l (filter is_free (gaps_of slots)) → HasPointer new (list_first FREE_TABLE_PLACE (number_of (class_of l))).offset (Some q)
      by_length true e at off lt =
          subst (λ x. HasPointer new (list_first FREE_TABLE_PLACE (number_of (class_of l))).offset (Some x)) at (subst (λ x. HasPointer new (list_first FREE_TABLE_PLACE (number_of (class_of x))).offset (Some place)) (same n l e) (first_of_class off))
      by_length false e at off lt = absurd (omega (arith, lt))

      by_place : (b : Bool) → (place == q) ≡ b → nat_lt n 32 ≡ false → count_of q l (filter is_free (gaps_of slots)) < cond (b && (n == l)) 1 0 + count_of q l (filter is_free (gaps_of slots)) → HasPointer new (list_first FREE_TABLE_PLACE (number_of (class_of l))).offset (Some q)
      by_place true e off lt = by_length (n == l) refl (same place q e) off lt
      by_place false e off lt = absurd (omega (arith, lt))

      by_short : (b : Bool) → nat_lt n 32 ≡ b → HasPointer new (list_first FREE_TABLE_PLACE (number_of (class_of l))).offset (Some q)
      by_short true on = let lt = rw on at counts in absurd (omega (arith, lt))
      by_short false off = by_place (place == q) refl off (rw off at counts)

-- the gaps with what was written
pub written : (old new : Option (List ℕ)) (slots moved more : List Slot) (place n : ℕ) (first : Option ℕ) → AreGaps (gaps_of slots) → MeetsNone place n (gaps_of slots) → 266 ≤ place → IfSome old (ThreadsSlots (gaps_of slots) slots)
    → Both (WritesGap place n first) old new → Both (ChangesOnly (free_table ∷ range place n ∷ [])) old new → MovesTo first (record { list = class_of n; front = Some place }) slots moved
    → gaps_of more ≡ put_by_place (new_gap place n) (gaps_of moved) → HasOneMore (own_slot place n) moved more → BecomeSlots (put_by_place (new_gap place n) (gaps_of slots)) slots more old new
written old new slots moved more place n first g none low th w c m put one = record {
  are = are;
  threads = threads old new th w;
  first = firsts old new th w;
  fillers = put_fillers (gaps_of slots) place n first old new g none w c;
}
  where
    are : gaps_of more ≡ put_by_place (new_gap place n) (gaps_of slots)
    are = put ∙ ap (put_by_place (new_gap place n)) (moved_gaps first (record { list = class_of n; front = Some place }) slots moved m)

    threads : (old new : Option (List ℕ)) → IfSome old (ThreadsSlots (gaps_of slots) slots) → Both (WritesGap place n first) old new → IfSome new (ThreadsSlots (gaps_of more) more)
    threads None None th w = tt
    threads None (Some b) th w = absurd w
    threads (Some a) None th w = absurd w
    threads (Some a) (Some b) th w = written_threads a b slots moved more place n first g none low th w m are one

    firsts : (old new : Option (List ℕ)) → IfSome old (ThreadsSlots (gaps_of slots) slots) → Both (WritesGap place n first) old new → IfSome new (AreFirst (gaps_of slots) (put_by_place (new_gap place n) (gaps_of slots)))
    firsts None None th w = tt
    firsts None (Some b) th w = absurd w
    firsts (Some a) None th w = absurd w
    firsts (Some a) (Some b) th w = written_first a b slots moved more place n first g none low th w m are one

-- the same, of the gap and the list that the code made
pub written_as : (old new : Option (List ℕ)) (slots moved more : List Slot) (place n : ℕ) (first : Option ℕ) (gap : Extent) (class : Class) → gap ≡ new_gap place n → class ≡ class_of n → AreGaps (gaps_of slots) → MeetsNone place n (gaps_of slots) → 266 ≤ place
    → IfSome old (ThreadsSlots (gaps_of slots) slots) → Both (WritesGap place n first) old new → Both (ChangesOnly (free_table ∷ range place n ∷ [])) old new → MovesTo first (record { list = class; front = Some place }) slots moved
    → gaps_of more ≡ put_by_place gap (gaps_of moved) → HasOneMore (record { gap = gap; spot = Some (record { list = class; front = None }) }) moved more → BecomeSlots (put_by_place (new_gap place n) (gaps_of slots)) slots more old new
written_as old new slots moved more place n first gap class is of g none low th w c m put one =
    written old new slots moved more place n first g none low th w c (subst (λ l. MovesTo first (record { list = l; front = Some place }) slots moved) of m) (put ∙ ap (λ (x : Extent). put_by_place x (gaps_of moved)) is)
    (subst (λ (x : Slot). HasOneMore x moved more) (ap (λ (x : Extent). record { gap = x; spot = Some (record { list = class; front = None }) }) is ∙ ap (λ (l : Class). record { gap = new_gap place n; spot = Some (record { list = l; front = None }) }) of) one)

-- ---- refusals

pub none_untold : (image : Option (List ℕ)) (gaps : List Extent) (slots : List Slot) → IfSome image (ThreadsSlots gaps slots) → ThreadsNone image → IsUntold image
none_untold None gaps slots th none = tt
none_untold (Some bytes) gaps slots th none = none gaps th.threads

-- the chunk that was the first of its class is among the gaps
first_begins : (old new : Option (List ℕ)) (slots : List Slot) (place n : ℕ) (first : Option ℕ) → AreGaps (gaps_of slots) → MeetsNone place n (gaps_of slots) → 266 ≤ place → IfSome old (ThreadsSlots (gaps_of slots) slots)
    → Both (WritesGap place n first) old new → IfSome old (λ bytes. BeginsSome (gaps_of slots) first)
first_begins None new slots place n first g none low th w = tt
first_begins (Some a) None slots place n first g none low th w = absurd w
first_begins (Some a) (Some b) slots place n first g none low th w = elim (leb_tells 32 n) [
  | inl l ↦ by_first first (l1.was_first l.1)
  | inr l ↦ subst (BeginsSome (gaps_of slots)) (sym (w.unlisted l.1)) tt
]
  where
    l1 : ListsGap place n first th.threads b
    l1 = w.threads (gaps_of slots) (free_of_gaps (gaps_of slots) place n none) (free_of_gaps (gaps_of slots) FREE_TABLE_PLACE FREE_TABLE_LENGTH (low_apart (gaps_of slots) g)) low th.threads

    by_list : (p : ℕ) (fs : List Extent) → list_of th.threads (number_of (class_of n)) ≡ fs → Some p ≡ first_place fs → BeginsSome (gaps_of slots) (Some p)
    by_list p [] is e = cc
    by_list p (f ∷ fs) is e = λ none. listed_begins a (gaps_of slots) th.threads (number_of (class_of n)) [] f fs (number_few (class_of n)) is (subst (λ q. NoneBegins q (gaps_of slots) (length (gaps_of slots))) (some_same p f.place e) none)

    by_first : (o : Option ℕ) → o ≡ first_place (list_of th.threads (number_of (class_of n))) → BeginsSome (gaps_of slots) o
    by_first None e = tt
    by_first (Some p) e = by_list p (list_of th.threads (number_of (class_of n))) refl e

pub first_missing : (old new : Option (List ℕ)) (slots : List Slot) (place n : ℕ) (first : Option ℕ) (a b : ℕ) (e : AdfError) → AreGaps (gaps_of slots) → MeetsNone place n (gaps_of slots) → 266 ≤ place → IfSome old (ThreadsSlots (gaps_of slots) slots)
    → Both (WritesGap place n first) old new → IsMissing (BeginsSome (gaps_of slots) first) e → IsRefusal (IsUntold old) a b e
first_missing old new slots place n first a b e g none low th w m = missing_refused e (gaps_of slots) first old a b (first_begins old new slots place n first g none low th w) m
