-- The lists are read: each chunk that is passed gets its spot.
use Rattle.std.proofs.Common.{◌≡◌, ◌≢◌, ◌⊎◌, inl, inr, ℕ, zero, suc, add-one, refl, sym, ◌∙◌, ap, subst, arith, List, [], ◌∷◌, ◌++◌, length, append_assoc, length-append, get_or, filter, ◌+◌, ◌<◌, ◌≤◌, ◌^◌, true, false}
use Rattle.std.proofs.lemmas.Bool.Decides.{eqb_tells, leb_tells}
use Rattle.std.proofs.lemmas.List.{append-nil}
use Rattle.std.specs.Prelude.{Option, Some, None, IfSome, slice_get, ◌==◌}
use Rattle.cg_io.specs.Answers.{IsRefusal, IsUntold}
use Rattle.adf_model.specs.declared.error.AdfError.{AdfError}
use Rattle.adf_format.specs.declared.types.Extent.{Extent}
use Rattle.adf_format.specs.Tiles.{is_free}
use Rattle.adf_format.specs.LaysOut.{AreGapsInOrder, ThreadsFreeChunks, first_place, last_place, count_of}
use Rattle.gap_tree.specs.declared.slot.Class.{Class}
use Rattle.gap_tree.specs.declared.slot.Slot.{Slot}
use Rattle.gap_tree.specs.Slots.{gaps_of}
use Rattle.file_heap.specs.Gaps.{NoneBegins}
use Rattle.file_heap.specs.Links.{AreGaps, Follows, IsBehind, PointsNowhere, list_of, lists_of, link_at, number_of}
use Rattle.file_heap.specs.Slots.{AreRead, chunks_below, BeginsSome, HasPassed, HasPlace, HasReadBelow, HasWalked, IsMissing, MovesTo, StandsOn, ThreadsSlots, WasRead}
use Rattle.file_heap.proofs.Ranges.{pick, flat, count-append, length_kind, same_length}
use Rattle.file_heap.proofs.ListLaws.{chunk_stands, last_added, link_says, same_ranges, some_same}
use Rattle.file_heap.proofs.HeapFacts.{gaps_apart}
use Rattle.file_heap.proofs.SlotLaws.{gap_got, got_set}
use Rattle.file_heap.proofs.SlotSteps.{missing_refused}
use Rattle.file_heap.proofs.SpotLaws.{behind_without, different, listed_begins, number_few}
use Rattle.file_heap.proofs.UnlinkLaws.{counted}

no_place : (place : ℕ) → HasPlace place [] → ⊥
no_place place h = by_before h.1.before h.1.is
  where
    by_before : (before : List Extent) → [] ≡ before ++ h.1.chunk ∷ h.1.after → ⊥
    by_before [] e = cc
    by_before (b ∷ bs) e = cc

pub none_read : (image : Option (List ℕ)) (gaps : List Extent) (slots : List Slot) → IfSome image (HasReadBelow 0 gaps slots 0)
none_read None gaps slots = tt
none_read (Some bytes) gaps slots = λ t. (λ s h was f. elim was [ inl q ↦ absurd (let lt = q.1 in omega (arith, lt)) | inr q ↦ absurd (no_place s.gap.place q) ], refl)

pub walk_starts : (image : Option (List ℕ)) (k : ℕ) (gaps : List Extent) (slots : List Slot) (count : ℕ) → IfSome image (HasReadBelow k gaps slots count) → IfSome image (HasWalked k gaps slots None count)
walk_starts None k gaps slots count r = tt
walk_starts (Some bytes) k gaps slots count r = λ t. record { before = []; after = list_of t k; is = refl; follows = refl; long = (let e = (r t).1 in omega (arith, e)); read = (r t).0 }

-- the lists up to one, and that one
chunks_next : (lists : List (List Extent)) (k : ℕ) → chunks_below lists (suc k) ≡ chunks_below lists k + length (get_or lists k [])
chunks_next [] zero = refl
chunks_next [] (suc k) = refl
chunks_next (fs ∷ lists) zero = omega arith
chunks_next (fs ∷ lists) (suc k) = let e = chunks_next lists k in omega (arith, e)

chunks_few : (lists : List (List Extent)) (k : ℕ) → chunks_below lists k ≤ length (flat lists)
chunks_few lists zero = omega arith
chunks_few [] (suc k) = omega arith
chunks_few (fs ∷ lists) (suc k) = let le = chunks_few lists k in let e = length-append fs (flat lists) in omega (arith, le, e)

module _ (list : Class) (gaps : List Extent) (front : Option ℕ) (count : ℕ) where
  -- the next chunk is passed, and has its spot
  module _ (bytes : List ℕ) (t : ThreadsFreeChunks bytes gaps) (slots moved : List Slot) (next : ℕ) (o : AreGapsInOrder (gaps_of slots)) (p : HasPassed t (number_of list) slots front count)
      (m : MovesTo (Some next) (record { list = list; front = front }) slots moved) where
    apart : (f : Extent) → f.place ≡ next → (place : ℕ) → place ≢ next → WasRead t (number_of list) (p.before ++ f ∷ []) place → WasRead t (number_of list) p.before place
    apart f here place ne (inl q) = inl q
    apart f here place ne (inr q) = inr (q.0, subst (λ fs. IsBehind fs place q.0) (append-nil p.before) (behind_without f [] place (λ e. ne (sym e ∙ here)) (λ e. (let z = e in cc)) p.before q.0 q.1))

    next_passed : (after : List Extent) → after ≡ p.after → Some next ≡ first_place after → HasPassed t (number_of list) moved (Some next) (count + 1)
    next_passed [] e h = cc
    next_passed (f ∷ after) e h =
        let here : next ≡ f.place = some_same next f.place h in
        let split : list_of t (number_of list) ≡ p.before ++ f ∷ after = p.is ∙ ap (λ xs. p.before ++ xs) (sym e) in
        record {
          before = p.before ++ f ∷ [];
          after = after;
          is = split ∙ sym (append_assoc p.before (f ∷ []) after);
          follows = ap (λ q. Some q) here ∙ sym (last_added p.before f);
          long = (let n = p.long in let e = length-append p.before (f ∷ []) in omega (arith, n, e));
          read = λ s has was free. elim (got_set slots m.0 has.0 (record { gap = m.1.gap; spot = Some (record { list = list; front = front }) }) s (subst (λ ss. slice_get ss has.0 ≡ Some s) m.4 has.1)) [
            | inl q ↦ subst (λ (x : Slot). StandsOn (lists_of t) x.gap.place x.spot) (sym q.1) (record { before = p.before; chunk = f; after = after; is = split; here = sym here ∙ sym m.3; follows = p.follows })
            | inr q ↦ p.read s (has.0, q.1) (apart f (sym here) s.gap.place (λ z. different slots has.0 m.0 s m.1 o q.1 m.2 q.0 (z ∙ sym m.3)) was) free
          ];
        }

  pub walk_goes_on : (image : Option (List ℕ)) (slots moved : List Slot) (next : ℕ) → AreGapsInOrder (gaps_of slots) → IfSome image (HasWalked (number_of list) gaps slots front count) → Follows image (link_at (number_of list) front) (Some next)
      → MovesTo (Some next) (record { list = list; front = front }) slots moved → IfSome image (HasWalked (number_of list) gaps moved (Some next) (count + 1))
  walk_goes_on None slots moved next o walked follows m = tt
  walk_goes_on (Some bytes) slots moved next o walked follows m = λ t.
      let p = walked t in
      next_passed bytes t slots moved next o p m p.after refl (follows (first_place p.after) (link_says bytes gaps t (number_of list) p.before p.after front (number_few list) p.is p.follows))

  pub walk_step : (entry now : Option (List ℕ)) (slots moved : List Slot) (at : ℕ) (read : Option ℕ) (next : ℕ) → now ≡ entry → at ≡ link_at (number_of list) front → read ≡ Some next → gaps_of slots ≡ gaps → AreGaps gaps
      → IfSome entry (HasWalked (number_of list) gaps slots front count) → Follows now at read → MovesTo (Some next) (record { list = list; front = front }) slots moved → IfSome entry (HasWalked (number_of list) gaps moved (Some next) (count + 1))
  walk_step entry now slots moved at read next e here is same g walked follows m =
      walk_goes_on entry slots moved next (subst AreGapsInOrder (sym same) g.order) walked
      (subst (λ image. Follows image (link_at (number_of list) front) (Some next)) e (subst (λ a. Follows now a (Some next)) here (subst (Follows now at) is follows))) m

  -- the list ends
  pub walk_ends : (image : Option (List ℕ)) (slots : List Slot) → IfSome image (HasWalked (number_of list) gaps slots front count) → Follows image (link_at (number_of list) front) None → IfSome image (HasReadBelow (number_of list + 1) gaps slots count)
  walk_ends None slots walked follows = tt
  walk_ends (Some bytes) slots walked follows = λ t.
      let p = walked t in all_read t p p.after refl (follows (first_place p.after) (link_says bytes gaps t (number_of list) p.before p.after front (number_few list) p.is p.follows))
    where
      by_number : (t : ThreadsFreeChunks bytes gaps) (p : HasPassed t (number_of list) slots front count) → list_of t (number_of list) ≡ p.before → (place j : ℕ) → j < number_of list + 1 → HasPlace place (list_of t j)
          → (((j == number_of list) ≡ true) × (j ≡ number_of list)) ⊎ (((j == number_of list) ≡ false) × (j ≢ number_of list)) → WasRead t (number_of list) p.before place
      by_number t p whole place j lt h (inl e) = inr (subst (HasPlace place) (ap (list_of t) e.1 ∙ whole) h)
      by_number t p whole place j lt h (inr e) = let ne = e.1 in inl (j, omega (arith, lt, ne), h)

      was : (t : ThreadsFreeChunks bytes gaps) (p : HasPassed t (number_of list) slots front count) → list_of t (number_of list) ≡ p.before → (place : ℕ) → WasRead t (number_of list + 1) [] place → WasRead t (number_of list) p.before place
      was t p whole place (inl q) = by_number t p whole place q.0 q.1 q.2 (eqb_tells q.0 (number_of list))
      was t p whole place (inr q) = absurd (no_place place q)

      all_read : (t : ThreadsFreeChunks bytes gaps) (p : HasPassed t (number_of list) slots front count) (after : List Extent) → after ≡ p.after → None ≡ first_place after → AreRead t (number_of list + 1) [] slots × (chunks_below (lists_of t) (number_of list + 1) ≡ count)
      all_read t p [] e h =
          let whole : list_of t (number_of list) ≡ p.before = p.is ∙ ap (λ xs. p.before ++ xs) (sym e) ∙ append-nil p.before in
          let next : chunks_below (lists_of t) (number_of list + 1) ≡ chunks_below (lists_of t) (number_of list) + length (list_of t (number_of list)) = rw add-one (chunks_next (lists_of t) (number_of list)) in
          let l : length (list_of t (number_of list)) ≡ length p.before = ap length whole in
          (λ s has w free. p.read s has (was t p whole s.gap.place w) free, let n = p.long in omega (arith, next, l, n))
      all_read t p (f ∷ fs) e h = cc

  -- what is read is a pointer
  pub walk_reads : (image : Option (List ℕ)) (slots : List Slot) → IfSome image (λ bytes. ThreadsFreeChunks bytes gaps) → IfSome image (HasWalked (number_of list) gaps slots front count) → PointsNowhere image (link_at (number_of list) front) → IsUntold image
  walk_reads None slots threads walked nowhere = tt
  walk_reads (Some bytes) slots t walked nowhere = let p = walked t in nowhere (first_place p.after) (link_says bytes gaps t (number_of list) p.before p.after front (number_few list) p.is p.follows)

  -- no chunk stands too far, and each is among the gaps
  module _ (bytes : List ℕ) (t : ThreadsFreeChunks bytes gaps) (slots : List Slot) (next : ℕ) (p : HasPassed t (number_of list) slots front count) (follows : Follows (Some bytes) (link_at (number_of list) front) (Some next)) where
    next_is : Some next ≡ first_place p.after
    next_is = follows (first_place p.after) (link_says bytes gaps t (number_of list) p.before p.after front (number_few list) p.is p.follows)

    near : AreGaps gaps → next + 32 ≤ 2 ^ 44
    near g = by_after p.after p.is next_is
      where
        by_after : (after : List Extent) → list_of t (number_of list) ≡ p.before ++ after → Some next ≡ first_place after → next + 32 ≤ 2 ^ 44
        by_after [] is h = cc
        by_after (f ∷ fs) is h =
            let s = chunk_stands bytes gaps t (gaps_apart gaps g) (number_of list) p.before f fs (number_few list) is in
            let le : f.place + f.length ≤ 2 ^ 44 = s.1 in let long : 32 ≤ f.length = s.2 in let here : next ≡ f.place = some_same next f.place h in omega (arith, le, long, here)

    begins : BeginsSome gaps (Some next)
    begins = by_after p.after p.is next_is
      where
        by_after : (after : List Extent) → list_of t (number_of list) ≡ p.before ++ after → Some next ≡ first_place after → BeginsSome gaps (Some next)
        by_after [] is h = cc
        by_after (f ∷ fs) is h = λ none. listed_begins bytes gaps t (number_of list) p.before f fs (number_few list) is (subst (λ q. NoneBegins q gaps (length gaps)) (some_same next f.place h) none)

  pub walk_near : (image : Option (List ℕ)) (slots : List Slot) (next : ℕ) → AreGaps gaps → IfSome image (λ bytes. ThreadsFreeChunks bytes gaps) → IfSome image (HasWalked (number_of list) gaps slots front count) → Follows image (link_at (number_of list) front) (Some next)
      → 2 ^ 44 < next + 32 → IsUntold image
  walk_near None slots next g threads walked follows far = tt
  walk_near (Some bytes) slots next g t walked follows far = let le = near bytes t slots next (walked t) follows g in omega (arith, le, far)

  pub walk_finds : (image : Option (List ℕ)) (slots : List Slot) (next a b : ℕ) (e : AdfError) → IfSome image (λ bytes. ThreadsFreeChunks bytes gaps) → IfSome image (HasWalked (number_of list) gaps slots front count) → Follows image (link_at (number_of list) front) (Some next)
      → gaps_of slots ≡ gaps → IsMissing (BeginsSome (gaps_of slots) (Some next)) e → IsRefusal (IsUntold image) a b e
  walk_finds image slots next a b e threads walked follows same m = missing_refused e gaps (Some next) image a b (there image threads walked follows) (subst (λ gs. IsMissing (BeginsSome gs (Some next)) e) same m)
    where
      there : (image : Option (List ℕ)) → IfSome image (λ bytes. ThreadsFreeChunks bytes gaps) → IfSome image (HasWalked (number_of list) gaps slots front count) → Follows image (link_at (number_of list) front) (Some next) → IfSome image (λ bytes. BeginsSome gaps (Some next))
      there None threads walked follows = tt
      there (Some bytes) t walked follows = begins bytes t slots next (walked t) follows

  -- no list is longer than the gaps
  pub walk_is_short : (image : Option (List ℕ)) (slots : List Slot) → IfSome image (λ bytes. ThreadsFreeChunks bytes gaps) → IfSome image (HasWalked (number_of list) gaps slots front count) → length gaps < count → IsUntold image
  walk_is_short None slots threads walked far = tt
  walk_is_short (Some bytes) slots t walked far =
      let p = walked t in let n = p.long in let e = ap length p.is ∙ length-append p.before p.after in
      let next = chunks_next (lists_of t) (number_of list) in
      let le = chunks_few (lists_of t) (suc (number_of list)) in
      let same = same_length (flat (lists_of t)) (filter is_free gaps) (same_ranges bytes gaps t) in
      let few = length_kind is_free gaps in omega (arith, n, e, next, le, same, few, far)

-- ---- all lists are read

module _ (bytes : List ℕ) (gaps : List Extent) (t : ThreadsFreeChunks bytes gaps) where
  in_list : (place n j : ℕ) → j < 3 → 0 < count_of place n (list_of t j) → WasRead t 3 [] place
  in_list place n j lt some = let p = pick place n (list_of t j) some in inl (j, lt, (last_place p.before, record { before = p.before; chunk = p.chunk; after = p.after; is = p.is; here = p.here; follows = refl }))

  one_has : (place n : ℕ) → 0 < count_of place n (filter is_free gaps) → WasRead t 3 [] place
  one_has place n some = by_small (leb_tells 1 (count_of place n t.small)) (leb_tells 1 (count_of place n t.medium))
    where
      all : count_of place n (flat (lists_of t)) ≡ count_of place n t.small + (count_of place n t.medium + (count_of place n t.large + 0))
      all = count-append place n t.small (t.medium ++ (t.large ++ [])) ∙ ap (λ k. count_of place n t.small + k) (count-append place n t.medium (t.large ++ []) ∙ ap (λ k. count_of place n t.medium + k) (count-append place n t.large []))

      same : count_of place n (flat (lists_of t)) ≡ count_of place n (filter is_free gaps)
      same = same_ranges bytes gaps t place n

      by_small : {A B : Type 0} → (A × (1 ≤ count_of place n t.small)) ⊎ (B × (count_of place n t.small < 1)) → {C D : Type 0} → (C × (1 ≤ count_of place n t.medium)) ⊎ (D × (count_of place n t.medium < 1)) → WasRead t 3 [] place
      by_small (inl h) m = let le = h.1 in in_list place n 0 (omega arith) (omega (arith, le))
      by_small (inr h) (inl k) = let le = k.1 in in_list place n 1 (omega arith) (omega (arith, le))
      by_small (inr h) (inr k) = let a = h.1 in let b = k.1 in in_list place n 2 (omega arith) (omega (arith, a, b, all, same, some))

pub all_are_read : (image : Option (List ℕ)) (slots : List Slot) (count : ℕ) → IfSome image (λ bytes. ThreadsFreeChunks bytes (gaps_of slots)) → IfSome image (HasReadBelow 3 (gaps_of slots) slots count) → IfSome image (ThreadsSlots (gaps_of slots) slots)
all_are_read None slots count threads read = tt
all_are_read (Some bytes) slots count t read = record {
  threads = t;
  spots = λ s h f.
      (read t).0 s h
      (one_has bytes (gaps_of slots) t s.gap.place s.gap.length
      (subst (λ (x : Extent). 0 < count_of x.place x.length (filter is_free (gaps_of slots))) (sym (gap_got slots h.0 s h.1)) (counted (gaps_of slots) h.0 (within slots h.0 s h.1) (ap is_free (sym (gap_got slots h.0 s h.1)) ∙ f)))) f;
}
  where
    within : (ss : List Slot) (k : ℕ) (s : Slot) → slice_get ss k ≡ Some s → k < length (gaps_of ss)
    within [] k s e = cc
    within (x ∷ xs) zero s e = omega arith
    within (x ∷ xs) (suc k) s e = let w = within xs k s e in omega (arith, w)

-- the bytes thread the lists as they were read
pub new_threads : (entry before last : Option (List ℕ)) (gaps : List Extent) (medium kept : List Slot) (count : ℕ) → before ≡ entry → last ≡ before → gaps_of medium ≡ gaps → gaps_of kept ≡ gaps_of medium → IfSome entry (λ bytes. ThreadsFreeChunks bytes gaps)
    → IfSome before (HasReadBelow 3 (gaps_of medium) kept count) → IfSome last (ThreadsSlots (gaps_of kept) kept)
new_threads entry before last gaps medium kept count e f is same threads read =
    all_are_read last kept count (subst (λ image. IfSome image (λ bytes. ThreadsFreeChunks bytes (gaps_of kept))) (sym (f ∙ e)) (subst (λ gs. IfSome entry (λ bytes. ThreadsFreeChunks bytes gs)) (sym (same ∙ is)) threads))
    (subst (λ image. IfSome image (HasReadBelow 3 (gaps_of kept) kept count)) (sym f) (subst (λ gs. IfSome before (HasReadBelow 3 gs kept count)) (sym same) read))
