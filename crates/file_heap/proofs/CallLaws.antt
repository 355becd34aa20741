-- The calls of a heap, from what their parts answered.
use Rattle.std.proofs.Common.{◌≡◌, ℕ, refl, sym, ◌∙◌, ap, subst, arith, List, [], ◌∷◌, ◌++◌, filter, ◌+◌, ◌-◌, ◌*◌, ◌<◌, ◌≤◌, ◌^◌, true, false}
use Rattle.std.proofs.lemmas.Bool.Decides.{nat_tests}
use Rattle.std.specs.Prelude.{Option, Some, None, Result, Ok, Err, OnOk, OnErr, IfOk, IfErr, IfSome, find, nat_lt}
use Rattle.cg_io.specs.Blocks.{Both, ReadsFew}
use Rattle.cg_io.specs.Device.{DeviceState}
use Rattle.cg_io.specs.Answers.{IsRefusal, IsUntold}
use Rattle.adf_model.specs.declared.error.AdfError.{AdfError}
use Rattle.adf_model.specs.declared.error.AdfError.TheVariants as error
use Rattle.adf_format.specs.declared.fields.TheConstants.{HEADER_END}
use Rattle.adf_format.specs.declared.types.Extent.{Extent}
use Rattle.adf_format.specs.declared.types.ExtentKind.{ExtentKind}
use Rattle.adf_format.specs.Tiles.{cover, holds_byte, is_free, MeetsNone}
use Rattle.adf_format.specs.Placement.{Heap, extent}
use Rattle.gap_tree.specs.declared.slot.Slot.{Slot}
use Rattle.gap_tree.specs.Slots.{gaps_of}
use Rattle.adf_format.specs.Changes.{heap_fields}
use Rattle.adf_format.specs.HeapRule.{cut, is_fit, heap_take, give_joined, pairs}
use Rattle.adf_format.proofs.CountLaws.{none_holds}
use Rattle.adf_format.proofs.HeapLaws.{in_range, cover-give_joined}
use Rattle.adf_format.proofs.HeapSteps.{take_tiles, give_tiles, take_keeps_order, give_keeps_order}
use Rattle.field_access.specs.Fields.{WaitsWithin, WaitsWhereTold}
use Rattle.field_access.proofs.WaitLaws.{waits_wider, told_waits, told_wider}
use Rattle.file_heap.specs.Gaps.{IsFirstFit, gap_at}
use Rattle.file_heap.specs.Heap.{FreeSpace, HeapState, space_of, IsHeap, TakesBy, TakesOfTiles, TakesCover, IsTakenWithin, IsTakeRefusal, GivesToTiles, GivesCover, Grows, ChangesHeap, ChangesOnly, MovesEnd, KeepsThreads, KeepsFillers, IsThreaded}
use Rattle.file_heap.specs.Slots.{AreFirst, BecomeSlots, ThreadsSlots}
use Rattle.file_heap.specs.Links.{AreGaps, range, free_table, end_pointer}
use Rattle.file_heap.proofs.Ranges.{cover_kinds}
use Rattle.file_heap.proofs.ChangeLaws.{IsWithin, widened}
use Rattle.file_heap.proofs.Effects.{on_ok}
use Rattle.file_heap.proofs.HeapFacts.{heap_gaps, gaps_apart}
use Rattle.file_heap.proofs.OrderLaws.{given_is_heap, cut_is_heap, grown_is_heap}
use Rattle.file_heap.proofs.TakeLaws.{taken_within, taken_covers}
use Rattle.file_heap.proofs.SpaceLaws.{kept_threads, end_stays, fillers_stay}
use Rattle.cg_io.specs.Waits.{how_many}

abbrev pub heap_of : List Extent → ℕ → Heap
heap_of gaps end = record { gaps = gaps; end = end }

pub gaps_are : (gaps : List Extent) (end : ℕ) (slots : List Slot) → IsHeap (heap_of gaps end) → gaps_of slots ≡ gaps → AreGaps (gaps_of slots)
gaps_are gaps end slots h e = subst AreGaps (sym e) (heap_gaps (heap_of gaps end) h)

-- ---- behind the end

off_limit : (a b : ℕ) → b ≤ a → nat_lt a b ≡ false
off_limit a b le = grind (arith, nat_tests)

over_limit : (a b : ℕ) → a < b → nat_lt a b ≡ true
over_limit a b lt = grind (arith, nat_tests)

grows_ok : (limit n : ℕ) (gaps : List Extent) (end : ℕ) → find (is_fit n) gaps ≡ None → end + 1 + n ≤ limit * 4096 → heap_take limit n (heap_of gaps end) ≡ Ok (end + 1, heap_of gaps (end + n))
grows_ok limit n gaps end none le = let off : nat_lt (limit * 4096) (end + 1 + n) ≡ false = off_limit (limit * 4096) (end + 1 + n) le in rw (none, off)

pub grown_takes : (limit n : ℕ) (gaps : List Extent) (end new : ℕ) (r : Result ℕ AdfError) → find (is_fit n) gaps ≡ None → Grows limit n end r new → TakesBy limit n (heap_of gaps end) r (heap_of gaps new)
grown_takes limit n gaps end new (Ok place) none g =
    grows_ok limit n gaps end none g.0 ∙ ap (λ p. Ok (p, heap_of gaps (end + n))) (sym g.1) ∙ ap (λ e. Ok (place, heap_of gaps e)) (sym g.2)
grown_takes limit n gaps end new (Err (error.Full asked last)) none g =
    let on : nat_lt (limit * 4096) (end + 1 + n) ≡ true = over_limit (limit * 4096) (end + 1 + n) g.0 in
    let full : heap_take limit n (heap_of gaps end) ≡ Err (record { asked = n; end = end }) = rw (none, on) in
    (full ∙ ap (λ a. Err (record { asked = a; end = end })) (sym g.1) ∙ ap (λ e. Err (record { asked = asked; end = e })) (sym g.2), ap (heap_of gaps) g.3)
grown_takes limit n gaps end new (Err other) none g = ((end + 1, heap_of gaps (end + n), grows_ok limit n gaps end none g.0), ap (heap_of gaps) g.1)

pub grown_heap : (limit n : ℕ) (gaps : List Extent) (end new : ℕ) (r : Result ℕ AdfError) → limit ≤ 2 ^ 32 → Grows limit n end r new → IsHeap (heap_of gaps end) → IsHeap (heap_of gaps new)
grown_heap limit n gaps end new (Ok place) most g h = let le = g.0 in subst (λ e. IsHeap (heap_of gaps e)) (sym g.2) (grown_is_heap n (heap_of gaps end) (omega (arith, most, le)) h)
grown_heap limit n gaps end new (Err (error.Full asked last)) most g h = subst (λ e. IsHeap (heap_of gaps e)) (sym g.3) h
grown_heap limit n gaps end new (Err other) most g h = subst (λ e. IsHeap (heap_of gaps e)) (sym g.1) h

pub takes_of_tiles : (limit n : ℕ) (old new : Heap) (r : Result ℕ AdfError) → TakesBy limit n old r new → IfOk r (TakesOfTiles n old new)
takes_of_tiles limit n old new (Ok place) t = λ kind used tiles. take_tiles limit n old place new kind used t tiles
takes_of_tiles limit n old new (Err e) t = tt

end_range : (b : ℕ) → 266 ≤ b → cover (end_pointer ∷ []) b ≡ 0
end_range b le = grind (arith, nat_tests)

pub grown_fillers : {T : Type 0} (r : Result T AdfError) (heap : Heap) (old new : Option (List ℕ)) → IsHeap heap → Both (ChangesOnly (end_pointer ∷ [])) old new → OnOk r (Both (KeepsFillers heap.gaps heap.gaps) old new)
grown_fillers (Ok x) heap old new h c = fillers_stay (end_pointer ∷ []) heap.gaps old new (heap_gaps heap h) end_range c
grown_fillers (Err e) heap old new h c = tt

fields_within : (gaps : List Extent) → IsWithin (end_pointer ∷ []) (heap_fields ++ gaps)
fields_within gaps b none = let off : holds_byte end_pointer b ≡ false = (none_holds (extent ExtentKind.Header HEADER_END.offset HEADER_END.length) (free_table ∷ gaps) b none).0 in rw off

pub grown_changes : (gaps : List Extent) (old new : Option (List ℕ)) → Both (ChangesOnly (end_pointer ∷ [])) old new → Both (ChangesOnly (heap_fields ++ gaps)) old new
grown_changes gaps old new c = widened (end_pointer ∷ []) (heap_fields ++ gaps) old new (fields_within gaps) c

-- ---- from a free chunk

cut_ok : (limit n : ℕ) (gaps : List Extent) (end i : ℕ) → IsFirstFit n gaps i → heap_take limit n (heap_of gaps end) ≡ Ok ((gap_at gaps i).place, heap_of (cut n gaps) end)
cut_ok limit n gaps end i fit = rw fit.first

pub cut_takes : (limit n : ℕ) (gaps new : List Extent) (end i a b : ℕ) (P : Type 0) (r : Result ℕ AdfError) → IsFirstFit n gaps i → IfOk r (λ place. place ≡ (gap_at gaps i).place) → OnOk r (new ≡ cut n gaps) → OnErr r (new ≡ gaps) → IfErr r (IsRefusal P a b)
    → TakesBy limit n (heap_of gaps end) r (heap_of new end)
cut_takes limit n gaps new end i a b P (Ok place) fit at is stays cause = cut_ok limit n gaps end i fit ∙ ap (λ p. Ok (p, heap_of (cut n gaps) end)) (sym at) ∙ ap (λ xs. Ok (place, heap_of xs end)) (sym is)
cut_takes limit n gaps new end i a b P (Err (error.Full asked last)) fit at is stays cause = absurd cause
cut_takes limit n gaps new end i a b P (Err other) fit at is stays cause = (((gap_at gaps i).place, heap_of (cut n gaps) end, cut_ok limit n gaps end i fit), ap (λ xs. heap_of xs end) stays)

pub cut_heap : (n : ℕ) (gaps new : List Extent) (end i : ℕ) (r : Result ℕ AdfError) → 1 ≤ n → IsFirstFit n gaps i → OnOk r (new ≡ cut n gaps) → OnErr r (new ≡ gaps) → IsHeap (heap_of gaps end) → IsHeap (heap_of new end)
cut_heap n gaps new end i (Ok place) some fit is stays h = subst (λ xs. IsHeap (heap_of xs end)) (sym is) (cut_is_heap n (heap_of gaps end) (gap_at gaps i) some fit.first h)
cut_heap n gaps new end i (Err e) some fit is stays h = subst (λ xs. IsHeap (heap_of xs end)) (sym stays) h

frees_within : (gaps : List Extent) → IsWithin (free_table ∷ filter is_free gaps) (heap_fields ++ gaps)
frees_within gaps b none =
    let inner = none_holds (extent ExtentKind.Header HEADER_END.offset HEADER_END.length) (free_table ∷ gaps) b none in
    let next = none_holds free_table gaps b inner.1 in
    let off : holds_byte free_table b ≡ false = next.0 in
    let z : cover gaps b ≡ 0 = next.1 in
    let k = cover_kinds b gaps in
    rw off (omega (arith, z, k))

pub cut_changed : (gaps : List Extent) (old new : Option (List ℕ)) → Both (ChangesOnly (free_table ∷ filter is_free gaps)) old new → Both (ChangesOnly (heap_fields ++ gaps)) old new
cut_changed gaps old new c = widened (free_table ∷ filter is_free gaps) (heap_fields ++ gaps) old new (frees_within gaps) c

not_table : (b : ℕ) → b < 158 → holds_byte free_table b ≡ false
not_table b lt = grind (arith, nat_tests)

frees_behind : (gaps : List Extent) → AreGaps gaps → MeetsNone HEADER_END.offset HEADER_END.length (free_table ∷ filter is_free gaps)
frees_behind gaps g b low high =
    let off = not_table b high in let z = (gaps_apart gaps g).low b (omega (arith, high)) in let k = cover_kinds b gaps in rw off (omega (arith, z, k))

-- ---- a gift

pub given_heap : (place n : ℕ) (gaps new : List Extent) (end : ℕ) (r : Result (Unit {0}) AdfError) → 1 ≤ n → MeetsNone place n gaps → 266 ≤ place → place + n ≤ end + 1 → OnOk r (new ≡ give_joined place n gaps) → OnErr r (new ≡ gaps) → IsHeap (heap_of gaps end) → IsHeap (heap_of new end)
given_heap place n gaps new end (Ok x) some none low high is stays h = subst (λ xs. IsHeap (heap_of xs end)) (sym is) (given_is_heap place n (heap_of gaps end) some none low high h)
given_heap place n gaps new end (Err e) some none low high is stays h = subst (λ xs. IsHeap (heap_of xs end)) (sym stays) h

pub given_tiles : (place n : ℕ) (gaps new : List Extent) (end : ℕ) (r : Result (Unit {0}) AdfError) → OnOk r (new ≡ give_joined place n gaps) → OnOk r (GivesToTiles place n (heap_of gaps end) (heap_of new end))
given_tiles place n gaps new end (Ok x) is = subst (λ xs. GivesToTiles place n (heap_of gaps end) (heap_of xs end)) (sym is) (λ kind used t. give_tiles place n (heap_of gaps end) kind used t)
given_tiles place n gaps new end (Err e) is = tt

pub given_covers : (place n : ℕ) (gaps new : List Extent) (end : ℕ) (r : Result (Unit {0}) AdfError) → OnOk r (new ≡ give_joined place n gaps) → OnOk r (GivesCover place n (heap_of gaps end) (heap_of new end))
given_covers place n gaps new end (Ok x) is = subst (λ xs. GivesCover place n (heap_of gaps end) (heap_of xs end)) (sym is) (λ b. cover-give_joined place n gaps b)
given_covers place n gaps new end (Err e) is = tt

pub given_pairs : (place n : ℕ) (gaps new : List Extent) (end : ℕ) (r : Result (Unit {0}) AdfError) → 1 ≤ n → MeetsNone place n gaps → OnOk r (new ≡ give_joined place n gaps) → OnErr r (new ≡ gaps) → IsHeap (heap_of gaps end) → pairs new ≤ pairs gaps
given_pairs place n gaps new end (Ok x) some none is stays h = subst (λ xs. pairs xs ≤ pairs gaps) (sym is) (give_keeps_order place n (heap_of gaps end) some h.order none).1
given_pairs place n gaps new end (Err e) some none is stays h = subst (λ xs. pairs xs ≤ pairs gaps) (sym stays) (omega arith)

pub given_changes : (place n : ℕ) (gaps : List Extent) (old new : Option (List ℕ)) → Both (ChangesOnly (free_table ∷ range place n ∷ gaps)) old new → Both (ChangesOnly (heap_fields ++ range place n ∷ gaps)) old new
given_changes place n gaps old new c =
    widened (free_table ∷ range place n ∷ gaps) (heap_fields ++ range place n ∷ gaps) old new
    (λ b none. (none_holds (extent ExtentKind.Header HEADER_END.offset HEADER_END.length) (free_table ∷ range place n ∷ gaps) b none).1) c

-- ---- a take

pub taken_pairs : (limit n : ℕ) (old new : Heap) (r : Result ℕ AdfError) → 1 ≤ n → IsHeap old → TakesBy limit n old r new → pairs new.gaps ≤ pairs old.gaps
taken_pairs limit n old new (Ok place) some h t = (take_keeps_order limit n old place new some h.order t).1
taken_pairs limit n old new (Err (error.Full asked last)) some h t = subst (λ (x : Heap). pairs x.gaps ≤ pairs old.gaps) (sym t.1) (omega arith)
taken_pairs limit n old new (Err other) some h t = subst (λ (x : Heap). pairs x.gaps ≤ pairs old.gaps) (sym t.1) (omega arith)

pub is_taken_within : (limit n : ℕ) (old new : Heap) (r : Result ℕ AdfError) → IsHeap old → TakesBy limit n old r new → IfOk r (IsTakenWithin n new)
is_taken_within limit n old new (Ok place) h t = taken_within limit n old new place h t
is_taken_within limit n old new (Err e) h t = tt

pub takes_cover : (limit n : ℕ) (old new : Heap) (r : Result ℕ AdfError) → TakesBy limit n old r new → IfOk r (TakesCover n old new)
takes_cover limit n old new (Ok place) t = λ b. taken_covers limit n old new place b t ∙ plain (cover old.gaps b) (in_range (old.end + 1) (new.end - old.end) b)
  where
    plain : (x y : ℕ) → x + y ≡ y + x
    plain x y = omega arith
takes_cover limit n old new (Err e) t = tt

-- ---- what the calls leave

reads_more : (n m : ℕ) (a b : DeviceState) → n ≤ m → ReadsFew n a b → ReadsFew m a b
reads_more n m a b le r = record { held = r.held; lost = r.lost; writes = r.writes; reads = r.reads; few = (let f = r.few in omega (arith, le, f)); faults = r.faults }

take_refused : {T : Type 0} (P : Type 0) (a b : ℕ) (r : Result T AdfError) → IfErr r (IsRefusal P a b) → IfErr r (IsTakeRefusal P a b)
take_refused P a b (Ok x) h = h
take_refused P a b (Err (error.Full asked end)) h = absurd h
take_refused P a b (Err other) h = h

abbrev pub state_of : List Slot → ℕ → FreeSpace → ℕ → HeapState
state_of slots end kept limit = record { work = space_of slots end; kept = kept; limit = limit }

none_first : (gaps : List Extent) (image : Option (List ℕ)) → IfSome image (AreFirst gaps gaps)
none_first gaps None = tt
none_first gaps (Some bytes) = λ place n lt. absurd (omega (arith, lt))

module _ {S : Type 0} (is_sound : S → Type 0) (image : S → Option (List ℕ)) (state : S → DeviceState) (waiting : S → List ℕ) (slots : List Slot) (end : ℕ) (kept : FreeSpace) (limit : ℕ) (old new : S) (h : IsHeap (heap_of (gaps_of slots) end)) (sound : is_sound new)
    (th : IfSome (image old) (ThreadsSlots (gaps_of slots) slots)) where
  -- a take behind the end
  pub grown_leaves : (n last : ℕ) (r : Result ℕ AdfError) → limit ≤ 2 ^ 32 → Grows limit n end r last → OnOk r (Both KeepsThreads (image old) (image new)) → Both (ChangesOnly (end_pointer ∷ [])) (image old) (image new)
      → OnOk r (Both (MovesEnd end last) (image old) (image new)) → ReadsFew 2 (state old) (state new) → how_many (waiting new) ≤ how_many (waiting old) + 1 → WaitsWithin (end_pointer ∷ []) (waiting old) (waiting new) → IfErr r (IsTakeRefusal (IsUntold (image old)) (state old).faults (state new).faults)
      → ChangesHeap is_sound image state waiting [] 9 (IsTakeRefusal (IsUntold (image old))) (state_of slots end kept limit) (state_of slots last kept limit) old new r
  unfolding IsThreaded
  grown_leaves n last r most grows keeps c moves effect waits only cause = record {
    kept = refl;
    limit = refl;
    refused = refusal r grows;
    heap = grown_heap limit n (gaps_of slots) end last r most grows h;
    pairs = omega arith;
    threads = on_ok r (λ k. kept_threads (gaps_of slots) slots (image old) (image new) (gaps_apart (gaps_of slots) (heap_gaps (heap_of (gaps_of slots) end) h)) k th) keeps;
    first = on_ok r (λ k. none_first (gaps_of slots) (image new)) keeps;
    bytes = grown_changes (gaps_of slots) (image old) (image new) c;
    only = told_waits (image old) (heap_fields ++ gaps_of slots) (waiting old) (waiting new) (waits_wider (end_pointer ∷ []) (heap_fields ++ gaps_of slots) (waiting old) (waiting new) (fields_within (gaps_of slots)) only);
    end = moves;
    fillers = grown_fillers r (heap_of (gaps_of slots) end) (image old) (image new) h c;
    calls = record { sound = sound; waits = omega (arith, waits); effect = reads_more 2 64 (state old) (state new) (omega arith) effect; cause = cause };
  }
    where
      refusal : (r : Result ℕ AdfError) → Grows limit n end r last → OnErr r (space_of slots last ≡ space_of slots end)
      refusal (Ok place) g = tt
      refusal (Err (error.Full asked at)) g = ap (space_of slots) g.3
      refusal (Err other) g = ap (space_of slots) g.1

  -- other gaps in place of those that were there
  pub others_leave : {T : Type 0} (r : Result T AdfError) (becomes : List Extent) (after : List Slot) (given : List Extent) (n most : ℕ) (Cause : ℕ → ℕ → AdfError → Type 0) → OnOk r (BecomeSlots becomes slots after (image old) (image new)) → OnErr r (after ≡ slots)
      → IsHeap (heap_of (gaps_of after) end) → pairs (gaps_of after) ≤ pairs (gaps_of slots) → IsWithin (free_table ∷ given ++ gaps_of slots) (heap_fields ++ given ++ gaps_of slots) → MeetsNone HEADER_END.offset HEADER_END.length (free_table ∷ given ++ gaps_of slots)
      → Both (ChangesOnly (free_table ∷ given ++ gaps_of slots)) (image old) (image new) → n ≤ 64 → ReadsFew n (state old) (state new) → how_many (waiting new) ≤ how_many (waiting old) + most → WaitsWhereTold (image old) (free_table ∷ given ++ gaps_of slots) (waiting old) (waiting new) → IfErr r (Cause (state old).faults (state new).faults)
      → ChangesHeap is_sound image state waiting given most Cause (state_of slots end kept limit) (state_of after end kept limit) old new r
  unfolding IsThreaded
  others_leave r becomes after given n most Cause b stays heap fewer within apart c few effect waits only cause = record {
    kept = refl;
    limit = refl;
    refused = refusal r stays;
    heap = heap;
    pairs = fewer;
    threads = on_ok r (λ w. w.threads) b;
    first = on_ok r (λ w. subst (λ gs. IfSome (image new) (AreFirst (gaps_of slots) gs)) (sym w.are) w.first) b;
    bytes = widened (free_table ∷ given ++ gaps_of slots) (heap_fields ++ given ++ gaps_of slots) (image old) (image new) within c;
    only = told_wider (image old) (free_table ∷ given ++ gaps_of slots) (heap_fields ++ given ++ gaps_of slots) (waiting old) (waiting new) within only;
    end = on_ok r (λ w. end_stays (free_table ∷ given ++ gaps_of slots) (gaps_of slots) slots end (image old) (image new) apart th c) b;
    fillers = on_ok r (λ w. subst (λ gs. Both (KeepsFillers (gaps_of slots) gs) (image old) (image new)) (sym w.are) w.fillers) b;
    calls = record { sound = sound; waits = waits; effect = reads_more n 64 (state old) (state new) few effect; cause = cause };
  }
    where
      refusal : {T : Type 0} (r : Result T AdfError) → OnErr r (after ≡ slots) → OnErr r (space_of after end ≡ space_of slots end)
      refusal (Ok x) s = tt
      refusal (Err e) s = ap (λ ss. space_of ss end) s

-- gaps and what is given lie behind the end pointer
fields_hold : (given gaps : List Extent) → IsWithin (free_table ∷ given ++ gaps) (heap_fields ++ given ++ gaps)
fields_hold given gaps b none = (none_holds (extent ExtentKind.Header HEADER_END.offset HEADER_END.length) (free_table ∷ given ++ gaps) b none).1

not_range : (place n b : ℕ) → 266 ≤ place → b < 158 → holds_byte (range place n) b ≡ false
not_range place n b low lt = grind (arith, nat_tests)

gaps_behind : (gaps : List Extent) → AreGaps gaps → MeetsNone HEADER_END.offset HEADER_END.length (free_table ∷ gaps)
gaps_behind gaps g b low high = let off = not_table b high in let z = (gaps_apart gaps g).low b (omega (arith, high)) in rw off (omega (arith, z))

given_behind : (place n : ℕ) (gaps : List Extent) → 266 ≤ place → AreGaps gaps → MeetsNone HEADER_END.offset HEADER_END.length (free_table ∷ range place n ∷ gaps)
given_behind place n gaps from g b low high =
    let off = not_table b high in let out = not_range place n b from high in let z = (gaps_apart gaps g).low b (omega (arith, high)) in rw (off, out) (omega (arith, z))

chunks_of_gaps : (gaps : List Extent) → IsWithin (free_table ∷ filter is_free gaps) (free_table ∷ gaps)
chunks_of_gaps gaps b none =
    let n = none_holds free_table gaps b none in let off : holds_byte free_table b ≡ false = n.0 in let z : cover gaps b ≡ 0 = n.1 in let k = cover_kinds b gaps in rw off (omega (arith, z, k))

becomes_are : {T : Type 0} (r : Result T AdfError) (becomes : List Extent) (slots after : List Slot) (a b : Option (List ℕ)) → OnOk r (BecomeSlots becomes slots after a b) → OnOk r (gaps_of after ≡ becomes)
becomes_are r becomes slots after a b h = on_ok r (λ w. w.are) h

stays_gaps : {T : Type 0} (r : Result T AdfError) (slots after : List Slot) → OnErr r (after ≡ slots) → OnErr r (gaps_of after ≡ gaps_of slots)
stays_gaps (Ok x) slots after s = tt
stays_gaps (Err e) slots after s = ap gaps_of s

-- a take from a free chunk
module _ (n i limit end : ℕ) (slots after : List Slot) (a b : Option (List ℕ)) (r : Result ℕ AdfError) (fit : IsFirstFit n (gaps_of slots) i) (at : IfOk r (λ place. place ≡ (gap_at (gaps_of slots) i).place)) (w : OnOk r (BecomeSlots (cut n (gaps_of slots)) slots after a b))
    (stays : OnErr r (after ≡ slots)) where
  pub taken_takes : (before now : ℕ) (P : Type 0) → IfErr r (IsRefusal P before now) → TakesBy limit n (heap_of (gaps_of slots) end) r (heap_of (gaps_of after) end)
  taken_takes before now P cause =
      cut_takes limit n (gaps_of slots) (gaps_of after) end i before now P r fit at (becomes_are r (cut n (gaps_of slots)) slots after a b w) (stays_gaps r slots after stays) cause

  pub taken_heap : 1 ≤ n → IsHeap (heap_of (gaps_of slots) end) → IsHeap (heap_of (gaps_of after) end)
  taken_heap some h = cut_heap n (gaps_of slots) (gaps_of after) end i r some fit (becomes_are r (cut n (gaps_of slots)) slots after a b w) (stays_gaps r slots after stays) h

pub taken_leaves : {S : Type 0} (is_sound : S → Type 0) (image : S → Option (List ℕ)) (state : S → DeviceState) (waiting : S → List ℕ) (slots after : List Slot) (end : ℕ) (kept : FreeSpace) (limit n i : ℕ) (old new : S) (r : Result ℕ AdfError) → 1 ≤ n
    → IsHeap (heap_of (gaps_of slots) end) → is_sound new → IfSome (image old) (ThreadsSlots (gaps_of slots) slots) → IsFirstFit n (gaps_of slots) i → IfOk r (λ place. place ≡ (gap_at (gaps_of slots) i).place)
    → OnOk r (BecomeSlots (cut n (gaps_of slots)) slots after (image old) (image new)) → OnErr r (after ≡ slots) → Both (ChangesOnly (free_table ∷ filter is_free (gaps_of slots))) (image old) (image new) → ReadsFew 16 (state old) (state new)
    → how_many (waiting new) ≤ how_many (waiting old) + 9 → WaitsWhereTold (image old) (free_table ∷ filter is_free (gaps_of slots)) (waiting old) (waiting new) → IfErr r (IsRefusal (IsUntold (image old)) (state old).faults (state new).faults)
    → ChangesHeap is_sound image state waiting [] 9 (IsTakeRefusal (IsUntold (image old))) (state_of slots end kept limit) (state_of after end kept limit) old new r
taken_leaves is_sound image state waiting slots after end kept limit n i old new r some h sound th fit at w stays c effect waits only cause =
    others_leave is_sound image state waiting slots end kept limit old new h sound th r (cut n (gaps_of slots)) after [] 16 9 (IsTakeRefusal (IsUntold (image old))) w stays
    (taken_heap n i limit end slots after (image old) (image new) r fit at w stays some h)
    (taken_pairs limit n (heap_of (gaps_of slots) end) (heap_of (gaps_of after) end) r some h (taken_takes n i limit end slots after (image old) (image new) r fit at w stays (state old).faults (state new).faults (IsUntold (image old)) cause))
    (fields_hold [] (gaps_of slots)) (gaps_behind (gaps_of slots) (heap_gaps (heap_of (gaps_of slots) end) h))
    (widened (free_table ∷ filter is_free (gaps_of slots)) (free_table ∷ gaps_of slots) (image old) (image new) (chunks_of_gaps (gaps_of slots)) c) (omega arith) effect waits
    (told_wider (image old) (free_table ∷ filter is_free (gaps_of slots)) (free_table ∷ gaps_of slots) (waiting old) (waiting new) (chunks_of_gaps (gaps_of slots)) only)
    (take_refused (IsUntold (image old)) (state old).faults (state new).faults r cause)

-- a gift
module _ (place n end : ℕ) (slots after : List Slot) (a b : Option (List ℕ)) (r : Result (Unit {0}) AdfError) (w : OnOk r (BecomeSlots (give_joined place n (gaps_of slots)) slots after a b)) (stays : OnErr r (after ≡ slots)) where
  pub gift_is : OnOk r (gaps_of after ≡ give_joined place n (gaps_of slots))
  gift_is = becomes_are r (give_joined place n (gaps_of slots)) slots after a b w

  pub gift_heap : 1 ≤ n → MeetsNone place n (gaps_of slots) → 266 ≤ place → place + n ≤ end + 1 → IsHeap (heap_of (gaps_of slots) end) → IsHeap (heap_of (gaps_of after) end)
  gift_heap some none low high h = given_heap place n (gaps_of slots) (gaps_of after) end r some none low high gift_is (stays_gaps r slots after stays) h

pub given_leaves : {S : Type 0} (is_sound : S → Type 0) (image : S → Option (List ℕ)) (state : S → DeviceState) (waiting : S → List ℕ) (slots after : List Slot) (end : ℕ) (kept : FreeSpace) (limit place n : ℕ) (old new : S) (r : Result (Unit {0}) AdfError) → 1 ≤ n → MeetsNone place n (gaps_of slots)
    → 266 ≤ place → place + n ≤ end + 1 → IsHeap (heap_of (gaps_of slots) end) → is_sound new → IfSome (image old) (ThreadsSlots (gaps_of slots) slots) → OnOk r (BecomeSlots (give_joined place n (gaps_of slots)) slots after (image old) (image new)) → OnErr r (after ≡ slots)
    → Both (ChangesOnly (free_table ∷ range place n ∷ gaps_of slots)) (image old) (image new) → ReadsFew 22 (state old) (state new) → how_many (waiting new) ≤ how_many (waiting old) + 12 → WaitsWhereTold (image old) (free_table ∷ range place n ∷ gaps_of slots) (waiting old) (waiting new)
    → IfErr r (IsRefusal (IsUntold (image old)) (state old).faults (state new).faults)
    → ChangesHeap is_sound image state waiting (range place n ∷ []) 12 (IsRefusal (IsUntold (image old))) (state_of slots end kept limit) (state_of after end kept limit) old new r
given_leaves is_sound image state waiting slots after end kept limit place n old new r some none low high h sound th w stays c effect waits only cause =
    others_leave is_sound image state waiting slots end kept limit old new h sound th r (give_joined place n (gaps_of slots)) after (range place n ∷ []) 22 12 (IsRefusal (IsUntold (image old))) w stays
    (gift_heap place n end slots after (image old) (image new) r w stays some none low high h)
    (given_pairs place n (gaps_of slots) (gaps_of after) end r some none (gift_is place n end slots after (image old) (image new) r w stays) (stays_gaps r slots after stays) h)
    (fields_hold (range place n ∷ []) (gaps_of slots)) (given_behind place n (gaps_of slots) low (heap_gaps (heap_of (gaps_of slots) end) h)) c (omega arith) effect waits only cause
