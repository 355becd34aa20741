-- The spots of free chunks in their lists, where one of them leaves its list.
use Rattle.std.proofs.Common.{◌≡◌, ◌≢◌, inl, inr, ℕ, zero, suc, refl, sym, ◌∙◌, ap, subst, arith, List, [], ◌∷◌, ◌++◌, length, append_assoc, get_or, filter, ◌+◌, ◌<◌, ◌≤◌, ◌^◌, Bool, true, false, cond}
use Rattle.std.proofs.lemmas.Bool.Decides.{nat_tests, eqb_tells, leb_tells}
use Rattle.std.specs.Prelude.{Option, Some, None, IfSome, slice_get, slice_set, remove, ◌==◌, ◌&&◌}
use Rattle.cg_io.specs.Blocks.{Both}
use Rattle.cg_io.specs.Answers.{IsUntold}
use Rattle.adf_format.specs.declared.types.Extent.{Extent}
use Rattle.adf_format.specs.Tiles.{is_free}
use Rattle.adf_format.specs.LaysOut.{AreGapsInOrder, ThreadsFreeChunks, first_place, last_place, count_of}
use Rattle.gap_tree.specs.declared.slot.Class.{Class}
use Rattle.gap_tree.specs.declared.slot.Class.TheVariants.{Small, Medium, Large}
use Rattle.gap_tree.specs.declared.slot.Slot.{Slot}
use Rattle.gap_tree.specs.declared.slot.Spot.{Spot}
use Rattle.gap_tree.specs.Slots.{gaps_of}
use Rattle.field_access.specs.Fields.{WaitsWithin, WaitsWhereTold}
use Rattle.field_access.proofs.WaitLaws.{waits_wider}
use Rattle.file_heap.specs.Gaps.{NoneBegins, gap_at}
use Rattle.file_heap.specs.Heap.{ChangesOnly}
use Rattle.file_heap.specs.Links.{AreGaps, Points, Follows, HasHead, IsBehind, PointsNowhere, Relinks, ThreadsThese, list_of, lists_of, number_of, free_table, link_range}
use Rattle.file_heap.specs.Slots.{BeginsSome, HasSlot, HasSpot, LeavesList, MovesTo, StandsOn, ThreadsSlots}
use Rattle.file_heap.proofs.Ranges.{count_in, count_without, here, test_holds}
use Rattle.file_heap.proofs.ListLaws.{EndsWith, ends_with, chunk_stands, list_is, link_says, last_added, same_ranges, some_same}
use Rattle.file_heap.proofs.ChangeLaws.{IsWithin, widened, spot_within}
use Rattle.file_heap.proofs.HeapFacts.{gaps_apart, free_long}
use Rattle.file_heap.proofs.SlotLaws.{gap_got, gaps_length, moved_gaps, gaps-removed, got_removed, got_set, has_bytes, ordered}
use Rattle.file_heap.proofs.UnlinkLaws.{read_behind, unlinked}

-- ---- lists by their numbers

pub number_few : (list : Class) → number_of list < 3
number_few Small = omega arith
number_few Medium = omega arith
number_few Large = omega arith

pub set_here : (lists : List (List Extent)) (k : ℕ) (xs : List Extent) → k < length lists → get_or (slice_set lists k xs) k [] ≡ xs
set_here [] k xs lt = absurd (omega (arith, lt))
set_here (l ∷ ls) zero xs lt = refl
set_here (l ∷ ls) (suc k) xs lt = set_here ls k xs (omega (arith, lt))

pub set_other : (lists : List (List Extent)) (k j : ℕ) (xs : List Extent) → j ≢ k → get_or (slice_set lists k xs) j [] ≡ get_or lists j []
set_other [] k j xs ne = refl
set_other (l ∷ ls) zero zero xs ne = absurd (ne refl)
set_other (l ∷ ls) zero (suc j) xs ne = refl
set_other (l ∷ ls) (suc k) zero xs ne = refl
set_other (l ∷ ls) (suc k) (suc j) xs ne = set_other ls k j xs (λ e. ne (ap suc e))

-- ---- the last of some chunks

abbrev or_last : Option ℕ → ℕ → Option ℕ
or_last None p = Some p
or_last (Some q) p = Some q

some_last : (x : Extent) (xs : List Extent) → (q : ℕ) × (last_place (x ∷ xs) ≡ Some q)
some_last x [] = (x.place, refl)
some_last x (y ∷ ys) = some_last y ys

pub last_cons : (b : Extent) (xs : List Extent) → last_place (b ∷ xs) ≡ or_last (last_place xs) b.place
last_cons b [] = refl
last_cons b (x ∷ xs) = let s = some_last x xs in s.1 ∙ sym (ap (λ o. or_last o b.place) s.1)

same_last : (b : Extent) (xs ys : List Extent) → last_place xs ≡ last_place ys → last_place (b ∷ xs) ≡ last_place (b ∷ ys)
same_last b xs ys e = last_cons b xs ∙ ap (λ o. or_last o b.place) e ∙ sym (last_cons b ys)

-- ---- a list without one of its chunks

module _ (c : Extent) (after : List Extent) (place : ℕ) (other : c.place ≢ place) (not_first : first_place after ≢ Some place) where
  heads : (x y : Extent) (xs ys : List Extent) → ◌≡◌ {A = List Extent} (x ∷ xs) (y ∷ ys) → (x ≡ y) × (xs ≡ ys)
  heads x y xs ys e = (cc, cc)

  split : (before bs : List Extent) (x : Extent) (rest : List Extent) → before ++ c ∷ after ≡ bs ++ x ∷ rest → x.place ≡ place → IsBehind (before ++ after) place (last_place bs)
  split [] [] x rest e at = absurd (other (ap (λ (y : Extent). y.place) (heads c x after rest e).0 ∙ at))
  split [] (b ∷ []) x rest e at = absurd (not_first (ap first_place (heads c b after (x ∷ rest) e).1 ∙ ap (λ q. Some q) at))
  split [] (b ∷ d ∷ ds) x rest e at = record { before = d ∷ ds; chunk = x; after = rest; is = (heads c b after (d ∷ ds ++ x ∷ rest) e).1; here = at; follows = refl }
  split (p ∷ ps) [] x rest e at = record { before = []; chunk = x; after = ps ++ after; is = ap (λ y. y ∷ (ps ++ after)) (heads p x (ps ++ c ∷ after) rest e).0; here = at; follows = refl }
  split (p ∷ ps) (b ∷ bs) x rest e at =
      let h = heads p b (ps ++ c ∷ after) (bs ++ x ∷ rest) e in
      let r = split ps bs x rest h.1 at in
      record { before = b ∷ r.before; chunk = r.chunk; after = r.after; is = ap (λ y. y ∷ (ps ++ after)) h.0 ∙ ap (λ ys. b ∷ ys) r.is; here = r.here; follows = same_last b bs r.before r.follows }

  pub behind_without : (before : List Extent) (front : Option ℕ) → IsBehind (before ++ c ∷ after) place front → IsBehind (before ++ after) place front
  behind_without before front b = subst (IsBehind (before ++ after) place) (sym b.follows) (split before b.before b.chunk b.after b.is b.here)

-- the chunk behind takes the spot of the one that leaves
pub behind_first : (before after : List Extent) (place : ℕ) (front : Option ℕ) → Some place ≡ first_place after → front ≡ last_place before → IsBehind (before ++ after) place front
behind_first before [] place front e f = cc
behind_first before (x ∷ xs) place front e f = record { before = before; chunk = x; after = xs; is = refl; here = sym (some_same place x.place e); follows = f }

-- ---- a list with one more in front

pub behind_pushed : (c : Extent) (fs : List Extent) (place : ℕ) (front : Option ℕ) → first_place fs ≢ Some place → IsBehind fs place front → IsBehind (c ∷ fs) place front
behind_pushed c fs place front not_first b = by_before b.before b.is b.follows
  where
    by_before : (before : List Extent) → fs ≡ before ++ b.chunk ∷ b.after → front ≡ last_place before → IsBehind (c ∷ fs) place front
    by_before [] is f = absurd (not_first (ap first_place is ∙ ap (λ q. Some q) b.here))
    by_before (d ∷ ds) is f = record { before = c ∷ d ∷ ds; chunk = b.chunk; after = b.after; is = ap (λ ys. c ∷ ys) is; here = b.here; follows = f }

pub first_pushed : (c : Extent) (fs : List Extent) (place : ℕ) → Some place ≡ first_place fs → IsBehind (c ∷ fs) place (Some c.place)
first_pushed c fs place e = behind_first (c ∷ []) fs place (Some c.place) e refl

-- ---- slots

-- slots at different indices begin at different places
pub different : (slots : List Slot) (j k : ℕ) (s r : Slot) → AreGapsInOrder (gaps_of slots) → slice_get slots j ≡ Some s → slice_get slots k ≡ Some r → j ≢ k → s.gap.place ≢ r.gap.place
different slots j k s r o f g ne e = elim (leb_tells (suc j) k) [ inl h ↦ less j k s r f g h.1 e | inr h ↦ less k j r s g f (omega (arith, h.1, ne)) (sym e) ]
  where
    within : (ss : List Slot) (m : ℕ) (x : Slot) → slice_get ss m ≡ Some x → m < length (gaps_of ss)
    within [] m x e = cc
    within (y ∷ ys) zero x e = omega arith
    within (y ∷ ys) (suc m) x e = let w = within ys m x e in omega (arith, w)

    less : (j k : ℕ) (s r : Slot) → slice_get slots j ≡ Some s → slice_get slots k ≡ Some r → j < k → s.gap.place ≡ r.gap.place → ⊥
    less j k s r f g lt e =
        let before = ordered (gaps_of slots) j k o lt (within slots k r g) in
        let long = has_bytes (gaps_of slots) j o (within slots j s f) in
        let p : s.gap.place ≡ (gap_at (gaps_of slots) j).place = ap (λ (x : Extent). x.place) (gap_got slots j s f) in
        let q : r.gap.place ≡ (gap_at (gaps_of slots) k).place = ap (λ (x : Extent). x.place) (gap_got slots k r g) in
        omega (arith, before, long, p, q, e)

-- chunks that stand at their spots in the lists
pub to_slots : (bytes : List ℕ) (gaps : List Extent) (lists : List (List Extent)) (slots : List Slot) → gaps_of slots ≡ gaps → ThreadsThese bytes gaps lists
    → ((s : Slot) → HasSlot slots s → is_free s.gap ≡ true → StandsOn lists s.gap.place s.spot) → ThreadsSlots (gaps_of slots) slots bytes
to_slots bytes gaps lists slots e th stands = subst (λ gs. ThreadsSlots gs slots bytes) (sym e) (record { threads = th.threads; spots = λ s has free. at s.gap.place s.spot (stands s has free) })
  where
    at : (place : ℕ) (spot : Option Spot) → StandsOn lists place spot → StandsOn (lists_of th.threads) place spot
    at place None h = h
    at place (Some spot) h = subst (λ fs. IsBehind fs place spot.front) (sym (th.are (number_of spot.list) (number_few spot.list))) h

module _ (lists : List (List Extent)) (k : ℕ) (before : List Extent) (c : Extent) (after : List Extent) (is : get_or lists k [] ≡ before ++ c ∷ after) (few : k < length lists) where
  -- another chunk stands as before
  pub others_stand : (place : ℕ) (spot : Option Spot) → c.place ≢ place → first_place after ≢ Some place → StandsOn lists place spot → StandsOn (slice_set lists k (before ++ after)) place spot
  others_stand place None ne nf h = h
  others_stand place (Some spot) ne nf h = elim (eqb_tells (number_of spot.list) k) [
    | inl e ↦ subst (λ fs. IsBehind fs place spot.front) (sym (ap (λ j. get_or (slice_set lists k (before ++ after)) j []) e.1 ∙ set_here lists k (before ++ after) few))
        (behind_without c after place ne nf before spot.front (subst (λ fs. IsBehind fs place spot.front) (ap (λ j. get_or lists j []) e.1 ∙ is) h))
    | inr e ↦ subst (λ fs. IsBehind fs place spot.front) (sym (set_other lists k (number_of spot.list) (before ++ after) e.1)) h
  ]

-- ---- a free chunk leaves its list

module _ (old new : List ℕ) (slots : List Slot) (i : ℕ) (spot : Spot) (next : Option ℕ) (g : AreGaps (gaps_of slots)) (inside : i < length slots) (free : is_free (gap_at (gaps_of slots) i) ≡ true) (has : HasSpot slots i spot)
    (th : ThreadsSlots (gaps_of slots) slots old) (follows : Follows (Some old) ((gap_at (gaps_of slots) i).place + 16) next) where
  abbrev behind : IsBehind (list_of th.threads (number_of spot.list)) (gap_at (gaps_of slots) i).place spot.front
  behind = th.spots (record { gap = gap_at (gaps_of slots) i; spot = Some spot }) (i, has) free

  next_is : next ≡ first_place behind.after
  next_is = read_behind old old (gaps_of slots) i (number_of spot.list) spot.front next th.threads (number_few spot.list) behind follows

  these : Relinks (number_of spot.list) spot.front next old new → ThreadsThese new (remove (gaps_of slots) i) (slice_set (lists_of th.threads) (number_of spot.list) (behind.before ++ behind.after))
  these r =
      unlinked old new (gaps_of slots) i (number_of spot.list) spot.front next th.threads (number_few spot.list) behind follows (gaps_apart (gaps_of slots) g) (omega (arith, inside, gaps_length slots)) free
      (free_long (gaps_of slots) i g.order (omega (arith, inside, gaps_length slots)) free) r

  not_none : (place : ℕ) → next ≡ None → first_place behind.after ≢ Some place
  not_none place e f = let q = sym e ∙ next_is ∙ f in cc

  clear : (j : ℕ) (s : Slot) → j ≢ i → slice_get slots j ≡ Some s → is_free s.gap ≡ true → first_place behind.after ≢ Some s.gap.place → StandsOn (slice_set (lists_of th.threads) (number_of spot.list) (behind.before ++ behind.after)) s.gap.place s.spot
  clear j s ne got f nf =
      others_stand (lists_of th.threads) (number_of spot.list) behind.before behind.chunk behind.after behind.is (number_few spot.list) s.gap.place s.spot
      (λ e. different slots j i s (record { gap = gap_at (gaps_of slots) i; spot = Some spot }) g.order got has ne (sym e ∙ behind.here)) nf (th.spots s (j, got) f)

  stand : (next : Option ℕ) → next ≡ first_place behind.after → (moved : List Slot) → MovesTo next spot slots moved → (s : Slot) → HasSlot (remove moved i) s → is_free s.gap ≡ true
      → StandsOn (slice_set (lists_of th.threads) (number_of spot.list) (behind.before ++ behind.after)) s.gap.place s.spot
  stand None e moved m s h f =
      let r = got_removed moved i h.0 s h.1 in
      clear r.0 s r.1 (subst (λ ss. slice_get ss r.0 ≡ Some s) m r.2) f (λ q. (let z = e ∙ q in cc))
  stand (Some place) e moved m s h f =
      let r = got_removed moved i h.0 s h.1 in
      elim (got_set slots m.0 r.0 (record { gap = m.1.gap; spot = Some spot }) s (subst (λ ss. slice_get ss r.0 ≡ Some s) m.4 r.2)) [
        | inl q ↦ subst (λ (x : Slot). StandsOn (slice_set (lists_of th.threads) (number_of spot.list) (behind.before ++ behind.after)) x.gap.place x.spot) (sym q.1)
            (subst (λ fs. IsBehind fs m.1.gap.place spot.front) (sym (set_here (lists_of th.threads) (number_of spot.list) (behind.before ++ behind.after) (number_few spot.list)))
            (behind_first behind.before behind.after m.1.gap.place spot.front (ap (λ p. Some p) m.3 ∙ e) behind.follows))
        | inr q ↦ clear r.0 s r.1 q.1 f (λ z. different slots r.0 m.0 s m.1 g.order q.1 m.2 q.0 (sym (m.3 ∙ some_same place s.gap.place (e ∙ z))))
      ]

  pub leaves : Relinks (number_of spot.list) spot.front next old new → LeavesList slots i spot next new
  leaves r moved m =
      to_slots new (remove (gaps_of slots) i) (slice_set (lists_of th.threads) (number_of spot.list) (behind.before ++ behind.after)) (remove moved i)
      (gaps-removed moved i ∙ ap (λ gs. remove gs i) (moved_gaps next spot slots moved m)) (these r) (stand next next_is moved m)

-- ---- what a list has is among the gaps

begins_in : (place n : ℕ) (gaps : List Extent) → 0 < count_of place n (filter is_free gaps) → NoneBegins place gaps (length gaps) → ⊥
begins_in place n [] some none = omega (arith, some)
begins_in place n (g ∷ gs) some none = by_free (λ lt. begins_in place n gs lt (λ j lj. none (suc j) (omega (arith, lj)))) (is_free g) some
  where
    same : (a b : ℕ) → (a == b) ≡ true → a ≡ b
    same a b e = grind (arith, nat_tests)

    by_test : (0 < count_of place n (filter is_free gs) → ⊥) → (t : Bool) → (g.place == place) ≡ t → 0 < cond (t && (g.length == n)) 1 0 + count_of place n (filter is_free gs) → ⊥
    by_test later true e lt = none 0 (omega arith) (same g.place place e)
    by_test later false e lt = later (omega (arith, lt))

    by_free : (0 < count_of place n (filter is_free gs) → ⊥) → (t : Bool) → 0 < count_of place n (cond t (g ∷ filter is_free gs) (filter is_free gs)) → ⊥
    by_free later true lt = by_test later (g.place == place) refl lt
    by_free later false lt = later lt

pub listed_begins : (bytes : List ℕ) (gaps : List Extent) (t : ThreadsFreeChunks bytes gaps) (k : ℕ) (before : List Extent) (f : Extent) (after : List Extent) → k < 3 → list_of t k ≡ before ++ f ∷ after → NoneBegins f.place gaps (length gaps) → ⊥
listed_begins bytes gaps t k before f after few is none =
    let on = test_holds f.place f.place f.length f.length refl refl in
    let one : here f.place f.length f.place f.length ≡ 1 = rw on in
    let w : count_of f.place f.length (list_of t k) ≡ here f.place f.length f.place f.length + count_of f.place f.length (before ++ after) = ap (count_of f.place f.length) is ∙ count_without f.place f.length before f after in
    let l = count_in f.place f.length (lists_of t) k (list_of t k) (list_is bytes gaps t k few) in
    let s = same_ranges bytes gaps t f.place f.length in
    begins_in f.place f.length gaps (omega (arith, one, w, l, s)) none

-- ---- with what the calls answered

module _ (slots : List Slot) (i : ℕ) (spot : Spot) (g : AreGaps (gaps_of slots)) (inside : i < length slots) (free : is_free (gap_at (gaps_of slots) i) ≡ true) (has : HasSpot slots i spot) where
  abbrev stands_behind : (bytes : List ℕ) (th : ThreadsSlots (gaps_of slots) slots bytes) → IsBehind (list_of th.threads (number_of spot.list)) (gap_at (gaps_of slots) i).place spot.front
  stands_behind bytes th = th.spots (record { gap = gap_at (gaps_of slots) i; spot = Some spot }) (i, has) free

  pub leaves_list : (entry read new : Option (List ℕ)) (next : Option ℕ) → read ≡ entry → IfSome entry (ThreadsSlots (gaps_of slots) slots) → Follows entry ((gap_at (gaps_of slots) i).place + 16) next
      → Both (Relinks (number_of spot.list) spot.front next) read new → IfSome new (LeavesList slots i spot next)
  leaves_list entry read new next e th follows r = go entry new th follows (subst (λ image. Both (Relinks (number_of spot.list) spot.front next) image new) e r)
    where
      go : (entry new : Option (List ℕ)) → IfSome entry (ThreadsSlots (gaps_of slots) slots) → Follows entry ((gap_at (gaps_of slots) i).place + 16) next → Both (Relinks (number_of spot.list) spot.front next) entry new → IfSome new (LeavesList slots i spot next)
      go None None th f r = tt
      go None (Some b) th f r = absurd r
      go (Some a) None th f r = absurd r
      go (Some a) (Some b) th f r = leaves a b slots i spot next g inside free has th f r

  -- the chunk behind is among the gaps
  pub next_begins : (entry : Option (List ℕ)) (next : Option ℕ) → IfSome entry (ThreadsSlots (gaps_of slots) slots) → Follows entry ((gap_at (gaps_of slots) i).place + 16) next → IfSome entry (λ bytes. BeginsSome (gaps_of slots) next)
  next_begins None next th follows = tt
  next_begins (Some bytes) next th follows = by_next next (next_is bytes bytes slots i spot next g inside free has th follows)
    where
      b : IsBehind (list_of th.threads (number_of spot.list)) (gap_at (gaps_of slots) i).place spot.front
      b = stands_behind bytes th

      by_next : (next : Option ℕ) → next ≡ first_place b.after → BeginsSome (gaps_of slots) next
      by_next None e = tt
      by_next (Some place) e = λ none. by_after none b.after b.is e
        where
          by_after : NoneBegins place (gaps_of slots) (length (gaps_of slots)) → (after : List Extent) → list_of th.threads (number_of spot.list) ≡ b.before ++ b.chunk ∷ after → Some place ≡ first_place after → ⊥
          by_after none [] is e = cc
          by_after none (f ∷ fs) is e =
              listed_begins bytes (gaps_of slots) th.threads (number_of spot.list) (b.before ++ b.chunk ∷ []) f fs (number_few spot.list) (is ∙ sym (append_assoc b.before (b.chunk ∷ []) (f ∷ fs)))
              (subst (λ p. NoneBegins p (gaps_of slots) (length (gaps_of slots))) (some_same place f.place e) none)

  -- what stands behind the chunk is a pointer
  pub reads_pointer : (entry : Option (List ℕ)) (place : ℕ) → place ≡ (gap_at (gaps_of slots) i).place → IfSome entry (ThreadsSlots (gaps_of slots) slots) → PointsNowhere entry (place + 16) → IsUntold entry
  reads_pointer None place at th nowhere = tt
  reads_pointer (Some bytes) place at th nowhere =
      let b = stands_behind bytes th in
      nowhere (first_place b.after) (subst (λ p. Points bytes (p + 16) (first_place b.after)) (b.here ∙ sym at)
      (link_says bytes (gaps_of slots) th.threads (number_of spot.list) (b.before ++ b.chunk ∷ []) b.after (Some b.chunk.place) (number_few spot.list) (b.is ∙ sym (append_assoc b.before (b.chunk ∷ []) b.after)) (sym (last_added b.before b.chunk))))

  -- the chunk in front has its head below the greatest place
  pub front_is_near : (entry : Option (List ℕ)) → IfSome entry (ThreadsSlots (gaps_of slots) slots) → (HasHead spot.front → ⊥) → IsUntold entry
  front_is_near None th far = tt
  front_is_near (Some bytes) th far = far (by_front spot.front b.follows)
    where
      b : IsBehind (list_of th.threads (number_of spot.list)) (gap_at (gaps_of slots) i).place spot.front
      b = stands_behind bytes th

      by_front : (front : Option ℕ) → front ≡ last_place b.before → HasHead front
      by_front None e = tt
      by_front (Some f) e =
          let w : EndsWith b.before f = ends_with b.before f e in
          let whole : list_of th.threads (number_of spot.list) ≡ w.before ++ w.chunk ∷ (b.chunk ∷ b.after) = b.is ∙ ap (λ xs. xs ++ b.chunk ∷ b.after) w.is ∙ append_assoc w.before (w.chunk ∷ []) (b.chunk ∷ b.after) in
          let s = chunk_stands bytes (gaps_of slots) th.threads (gaps_apart (gaps_of slots) g) (number_of spot.list) w.before w.chunk (b.chunk ∷ b.after) (number_few spot.list) whole in
          let le : w.chunk.place + w.chunk.length ≤ 2 ^ 44 = s.1 in let long : 32 ≤ w.chunk.length = s.2 in let at : w.chunk.place ≡ f = w.here in omega (arith, le, long, at)

  front_within : (bytes : List ℕ) → ThreadsSlots (gaps_of slots) slots bytes → IsWithin (free_table ∷ link_range spot.front) (free_table ∷ filter is_free (gaps_of slots))
  front_within bytes th =
      spot_within bytes (gaps_of slots) th.threads (gap_at (gaps_of slots) i).place (number_of spot.list) spot.front (gaps_apart (gaps_of slots) g) (number_few spot.list) (stands_behind bytes th)

  pub link_in_chunks : (entry read new : Option (List ℕ)) → read ≡ entry → IfSome entry (ThreadsSlots (gaps_of slots) slots) → Both (ChangesOnly (free_table ∷ link_range spot.front)) read new → Both (ChangesOnly (free_table ∷ filter is_free (gaps_of slots))) entry new
  link_in_chunks entry read new e th c = go entry new th (subst (λ image. Both (ChangesOnly (free_table ∷ link_range spot.front)) image new) e c)
    where
      go : (entry new : Option (List ℕ)) → IfSome entry (ThreadsSlots (gaps_of slots) slots) → Both (ChangesOnly (free_table ∷ link_range spot.front)) entry new → Both (ChangesOnly (free_table ∷ filter is_free (gaps_of slots))) entry new
      go None None th c = tt
      go None (Some b) th c = c
      go (Some a) new th c = widened (free_table ∷ link_range spot.front) (free_table ∷ filter is_free (gaps_of slots)) (Some a) new (front_within a th) c

  pub front_waits : (entry : Option (List ℕ)) (was read new : List ℕ) → read ≡ was → IfSome entry (ThreadsSlots (gaps_of slots) slots) → WaitsWithin (free_table ∷ link_range spot.front) read new → WaitsWhereTold entry (free_table ∷ filter is_free (gaps_of slots)) was new
  front_waits None was read new e th w = tt
  front_waits (Some a) was read new e th w =
      waits_wider (free_table ∷ link_range spot.front) (free_table ∷ filter is_free (gaps_of slots)) was new (front_within a th) (subst (λ blocks. WaitsWithin (free_table ∷ link_range spot.front) blocks new) e w)
