-- Takes and gifts in a space: the lists, the fillers, the end pointer and what may change.
use Rattle.std.proofs.Common.{◌≡◌, ◌⊎◌, inl, inr, ℕ, refl, sym, ◌∙◌, ap, subst, arith, List, [], ◌∷◌, length, filter, ◌+◌, ◌-◌, ◌<◌, ◌≤◌, ◌^◌, Bool, true, false, cond}
use Rattle.std.proofs.lemmas.Bool.Decides.{nat_tests, leb_tells}
use Rattle.std.proofs.lemmas.Option.{slice_get-get_or}
use Rattle.std.specs.Prelude.{Option, Some, None, IfSome, slice_get, remove, ◌&&◌, nat_lt, nat_le}
use Rattle.cg_io.specs.Blocks.{Both}
use Rattle.adf_format.specs.declared.fields.TheConstants.{HEADER_END, FREE_TABLE_PLACE, FREE_TABLE_LENGTH}
use Rattle.adf_format.specs.RecordFields.{field_in}
use Rattle.adf_format.specs.declared.types.Extent.{Extent}
use Rattle.adf_format.specs.declared.types.ExtentKind.{ExtentKind}
use Rattle.adf_format.specs.Fields.{field}
use Rattle.adf_format.specs.Pointer.{To, pointer, pointer_text, PointsTo}
use Rattle.adf_format.specs.Tiles.{cover, end_of, holds_byte, is_free, is_filler, MeetsNone}
use Rattle.adf_format.specs.Placement.{extent}
use Rattle.adf_format.specs.LaysOut.{ThreadsFreeChunks}
use Rattle.adf_format.specs.Changes.{Writes}
use Rattle.adf_format.specs.HeapRule.{new_gap}
use Rattle.adf_format.proofs.HeapLaws.{in_range}
use Rattle.adf_format.proofs.HexLaws.{pointer-pointer_text}
use Rattle.adf_format.proofs.CountLaws.{none_holds}
use Rattle.adf_format.proofs.FrameLaws.{field_kept}
use Rattle.adf_format.proofs.SpelledParts.{length-pointer_text}
use Rattle.field_access.specs.Fields.{WaitsWithin, WaitsWhereTold}
use Rattle.field_access.proofs.WaitLaws.{within_none, within_cons, waits_wider, told_waits, told_wider, told_next}
use Rattle.file_heap.specs.Gaps.{IsFirstFit, gap_at, put_by_place}
use Rattle.file_heap.specs.Heap.{ChangesOnly, KeepsFillers, KeepsThreads, MovesEnd}
use Rattle.file_heap.specs.Links.{AreApart, AreGaps, IsBehind, ThreadsThese, WritesGap, lists_of, number_of, range, free_table}
use Rattle.file_heap.specs.Slots.{AreFirst, BecomeSlots, HasSlot, StandsIn, StandsOn, ThreadsSlots}
use Rattle.gap_tree.specs.declared.slot.Slot.{Slot}
use Rattle.gap_tree.specs.declared.slot.Spot.{Spot}
use Rattle.gap_tree.specs.Slots.{gaps_of}
use Rattle.file_heap.proofs.Ranges.{flat, cover_kinds, same_cover}
use Rattle.file_heap.proofs.Threads.{table_within, threading_beside}
use Rattle.file_heap.proofs.ListLaws.{all_ends, threading, same_ranges, lists_cover}
use Rattle.file_heap.proofs.TableLaws.{of_threading}
use Rattle.file_heap.proofs.UnlinkLaws.{count_removed}
use Rattle.file_heap.proofs.SpotLaws.{number_few}
use Rattle.file_heap.proofs.ChangeLaws.{IsWithin, widened, changes_then}
use Rattle.file_heap.proofs.HeapFacts.{gaps_apart, filler_removed, filler_put, free_removed}
use Rattle.file_heap.proofs.JoinLaws.{cover_removed_gap}

-- ---- the end pointer

-- the same lists in other bytes
pub these_slots : {old : List ℕ} (new : List ℕ) (gaps : List Extent) (slots : List Slot) (t : ThreadsFreeChunks old gaps) → ((s : Slot) → HasSlot slots s → StandsIn t s) → ThreadsThese new gaps (lists_of t) → ThreadsSlots gaps slots new
these_slots new gaps slots t spots th = record { threads = th.threads; spots = λ s h f. at s.gap.place s.spot (spots s h f) }
  where
    at : (place : ℕ) (spot : Option Spot) → StandsOn (lists_of t) place spot → StandsOn (lists_of th.threads) place spot
    at place None h = h
    at place (Some spot) h = subst (λ fs. IsBehind fs place spot.front) (sym (th.are (number_of spot.list) (number_few spot.list))) h

module _ (last : ℕ) (old new : List ℕ) (w : Writes HEADER_END.offset (pointer_text (To last)) old new) where
  twelve : length (pointer_text (To last)) ≡ 12
  twelve = length-pointer_text (To last)

  end_threads : KeepsThreads old new
  end_threads gaps slots apart th =
      let t = th.threads in
      let none : MeetsNone HEADER_END.offset HEADER_END.length (flat (lists_of t)) = λ b low high. (let l = lists_cover old gaps t b in let z = apart.low b (omega (arith, high)) in omega (arith, l, z)) in
      these_slots new gaps slots t th.spots (of_threading new gaps (lists_of t) refl
      (threading_beside HEADER_END.offset (pointer_text (To last)) old new (all_ends t) (lists_of t) w (omega (arith, twelve)) (inl (omega (arith, twelve))) (subst (λ n. MeetsNone HEADER_END.offset n (flat (lists_of t))) (sym twelve) none) (threading old gaps t))
      (same_ranges old gaps t))

  end_named : last < 2 ^ 44 → PointsTo (field_in new HEADER_END) last
  end_named near = ap pointer (ap (field new HEADER_END.offset) (sym twelve) ∙ w.stands) ∙ pointer-pointer_text last near

pub grown_threads : (last : ℕ) (old new : Option (List ℕ)) → Both (Writes HEADER_END.offset (pointer_text (To last))) old new → Both KeepsThreads old new
grown_threads last None None w = tt
grown_threads last None (Some new) w = w
grown_threads last (Some old) None w = w
grown_threads last (Some old) (Some new) w = end_threads last old new w

pub grown_end : (end last : ℕ) (old new : Option (List ℕ)) → last < 2 ^ 44 → Both (Writes HEADER_END.offset (pointer_text (To last))) old new → Both (MovesEnd end last) old new
grown_end end last None None near w = tt
grown_end end last None (Some new) near w = w
grown_end end last (Some old) None near w = w
grown_end end last (Some old) (Some new) near w = λ was. end_named last old new w near

pub kept_threads : (gaps : List Extent) (slots : List Slot) (old new : Option (List ℕ)) → AreApart gaps → Both KeepsThreads old new → IfSome old (ThreadsSlots gaps slots) → IfSome new (ThreadsSlots gaps slots)
kept_threads gaps slots None None apart k t = tt
kept_threads gaps slots None (Some new) apart k t = absurd k
kept_threads gaps slots (Some old) None apart k t = absurd k
kept_threads gaps slots (Some old) (Some new) apart k t = k gaps slots apart t

-- the end pointer stays where nothing else of the head changes
same_byte : (xs : List Extent) (old new : List ℕ) (b : ℕ) → ChangesOnly xs old new → b < length old → cover xs b ≡ 0 → slice_get new b ≡ slice_get old b
same_byte xs old new b c lt none =
    let long = c.longer in slice_get-get_or new b 0 (omega (arith, long, lt)) ∙ ap (λ x. Some x) (c.others b none) ∙ sym (slice_get-get_or old b 0 lt)

end_stays_told : (xs gaps : List Extent) (end : ℕ) (old new : List ℕ) → MeetsNone HEADER_END.offset HEADER_END.length xs → ThreadsFreeChunks old gaps → ChangesOnly xs old new → MovesEnd end end old new
end_stays_told xs gaps end old new apart t c was =
    let long = table_within old (all_ends t) t.table in
    ap pointer (field_kept HEADER_END.length HEADER_END.offset old new (λ b low high. same_byte xs old new b c (omega (arith, long, high)) (apart b low high))) ∙ was

pub end_stays : (xs gaps : List Extent) (slots : List Slot) (end : ℕ) (old new : Option (List ℕ)) → MeetsNone HEADER_END.offset HEADER_END.length xs → IfSome old (ThreadsSlots gaps slots) → Both (ChangesOnly xs) old new → Both (MovesEnd end end) old new
end_stays xs gaps slots end None None apart t c = tt
end_stays xs gaps slots end None (Some new) apart t c = c
end_stays xs gaps slots end (Some old) None apart t c = c
end_stays xs gaps slots end (Some old) (Some new) apart t c = end_stays_told xs gaps end old new apart t.threads c

-- ---- the free chunks among gaps

pub free_of_gaps : (gaps : List Extent) (place n : ℕ) → MeetsNone place n gaps → MeetsNone place n (filter is_free gaps)
free_of_gaps gaps place n none b low high = let k = cover_kinds b gaps in let z = none b low high in omega (arith, k, z)

pub low_apart : (gaps : List Extent) → AreGaps gaps → MeetsNone FREE_TABLE_PLACE FREE_TABLE_LENGTH gaps
low_apart gaps g b low high = (gaps_apart gaps g).low b (omega (arith, high))

-- the free chunks but one
cover_removed : (gaps : List Extent) (i b : ℕ) → i < length gaps → is_free (gap_at gaps i) ≡ true → cover (filter is_free gaps) b ≡ in_range (gap_at gaps i).place (gap_at gaps i).length b + cover (filter is_free (remove gaps i)) b
cover_removed gaps i b lt free = same_cover (filter is_free gaps) (gap_at gaps i ∷ filter is_free (remove gaps i)) (λ place n. count_removed place n gaps i lt free) b

inner_range : (p n l b : ℕ) → n ≤ l → p + n ≤ b → b < p + n + (l - n) → in_range p l b ≡ 1
inner_range p n l b le low high = grind (arith, nat_tests)

module _ (gaps : List Extent) (i n : ℕ) (g : AreGaps gaps) (fit : IsFirstFit n gaps i) where
  chunk : Extent
  chunk = gap_at gaps i

  once_free : (b : ℕ) → cover (filter is_free gaps) b ≤ 1
  once_free b = let k = cover_kinds b gaps in let o = (gaps_apart gaps g).once b in omega (arith, k, o)

  rest_apart : MeetsNone ((gap_at gaps i).place + n) ((gap_at gaps i).length - n) (filter is_free (remove gaps i))
  rest_apart b low high =
      let h : in_range (gap_at gaps i).place (gap_at gaps i).length b ≡ 1 = inner_range (gap_at gaps i).place n (gap_at gaps i).length b fit.fits low high in
      let s = cover_removed gaps i b fit.within fit.free in let o = once_free b in omega (arith, h, s, o)

  low_removed : MeetsNone FREE_TABLE_PLACE FREE_TABLE_LENGTH (filter is_free (remove gaps i))
  low_removed b low high =
      let z = (gaps_apart gaps g).low b (omega (arith, high)) in let k = cover_kinds b gaps in let s = cover_removed gaps i b fit.within fit.free in omega (arith, z, k, s)

  behind_table : 0 < (gap_at gaps i).length → 266 ≤ (gap_at gaps i).place
  behind_table long = by_test (leb_tells 266 (gap_at gaps i).place)
    where
      by_test : ((nat_le 266 (gap_at gaps i).place ≡ true) × (266 ≤ (gap_at gaps i).place)) ⊎ ((nat_le 266 (gap_at gaps i).place ≡ false) × ((gap_at gaps i).place < 266)) → 266 ≤ (gap_at gaps i).place
      by_test (inl h) = h.1
      by_test (inr h) =
          let z = (gaps_apart gaps g).low (gap_at gaps i).place h.1 in
          let k = cover_kinds (gap_at gaps i).place gaps in
          let s = cover_removed gaps i (gap_at gaps i).place fit.within fit.free in
          let one : in_range (gap_at gaps i).place (gap_at gaps i).length (gap_at gaps i).place ≡ 1 = first (gap_at gaps i).place (gap_at gaps i).length long in
          absurd (omega (arith, z, k, s, one))
        where
          first : (p l : ℕ) → 0 < l → in_range p l p ≡ 1
          first p l pos = grind (arith, nat_tests)

  rest_within : IsWithin (free_table ∷ range ((gap_at gaps i).place + n) ((gap_at gaps i).length - n) ∷ []) (free_table ∷ filter is_free gaps)
  rest_within b none = rw (table, out)
    where
      table : holds_byte free_table b ≡ false
      table = (none_holds free_table (filter is_free gaps) b none).0

      off : in_range (gap_at gaps i).place (gap_at gaps i).length b ≡ 0
      off = let z = (none_holds free_table (filter is_free gaps) b none).1 in let s = cover_removed gaps i b fit.within fit.free in omega (arith, z, s)

      inner : (p m l b : ℕ) → m ≤ l → in_range p l b ≡ 0 → holds_byte (range (p + m) (l - m)) b ≡ false
      inner p m l b le z = grind (arith, nat_tests)

      out : holds_byte (range ((gap_at gaps i).place + n) ((gap_at gaps i).length - n)) b ≡ false
      out = inner (gap_at gaps i).place n (gap_at gaps i).length b fit.fits off

pub cut_changes : (gaps : List Extent) (i n : ℕ) (gap : Extent) (a b c : Option (List ℕ)) → gap ≡ gap_at gaps i → AreGaps gaps → IsFirstFit n gaps i → Both (ChangesOnly (free_table ∷ filter is_free gaps)) a b
    → Both (ChangesOnly (free_table ∷ range (gap.place + n) (gap.length - n) ∷ [])) b c → Both (ChangesOnly (free_table ∷ filter is_free gaps)) a c
cut_changes gaps i n gap a b c is g fit v w =
    changes_then (free_table ∷ filter is_free gaps) a b c v
    (widened (free_table ∷ range ((gap_at gaps i).place + n) ((gap_at gaps i).length - n) ∷ []) (free_table ∷ filter is_free gaps) b c (rest_within gaps i n g fit) (subst (λ (x : Extent). Both (ChangesOnly (free_table ∷ range (x.place + n) (x.length - n) ∷ [])) b c) is w))

pub cut_waits : (held : Option (List ℕ)) (gaps : List Extent) (i n : ℕ) (gap : Extent) (u v w : List ℕ) → gap ≡ gap_at gaps i → AreGaps gaps → IsFirstFit n gaps i → WaitsWhereTold held (free_table ∷ filter is_free gaps) u v
    → WaitsWithin (free_table ∷ range (gap.place + n) (gap.length - n) ∷ []) v w → WaitsWhereTold held (free_table ∷ filter is_free gaps) u w
cut_waits held gaps i n gap u v w is g fit first then =
    told_next held (free_table ∷ filter is_free gaps) u v w first
    (told_waits held (free_table ∷ filter is_free gaps) v w
    (waits_wider (free_table ∷ range ((gap_at gaps i).place + n) ((gap_at gaps i).length - n) ∷ []) (free_table ∷ filter is_free gaps) v w (rest_within gaps i n g fit) (subst (λ (x : Extent). WaitsWithin (free_table ∷ range (x.place + n) (x.length - n) ∷ []) v w) is then)))

-- ---- fillers

filler_apart : (gaps : List Extent) (b : ℕ) → AreGaps gaps → 0 < cover (filter is_filler gaps) b → cover (free_table ∷ filter is_free gaps) b ≡ 0
filler_apart gaps b g some = rw table free
  where
    all : 0 < cover gaps b
    all = let k = cover_kinds b gaps in omega (arith, k, some)

    high : 266 ≤ b
    high = elim (leb_tells 266 b) [ inl h ↦ h.1 | inr h ↦ (let z = (gaps_apart gaps g).low b h.1 in absurd (omega (arith, z, all))) ]

    table : holds_byte free_table b ≡ false
    table = off b high
      where
        off : (b : ℕ) → 266 ≤ b → holds_byte free_table b ≡ false
        off b le = grind (arith, nat_tests)

    free : 0 + cover (filter is_free gaps) b ≡ 0
    free = let k = cover_kinds b gaps in let o = (gaps_apart gaps g).once b in omega (arith, k, o, some)

-- a filler's byte, of a gap that was made or of one that was there
gap_filler : (p n b : ℕ) (gs : List Extent) → 0 < cover (filter is_filler (new_gap p n ∷ gs)) b → ((n < 32) × (p ≤ b) × (b < p + n)) ⊎ (0 < cover (filter is_filler gs) b)
gap_filler p n b gs some = by_test (nat_lt n 32) refl some
  where
    short : nat_lt n 32 ≡ true → n < 32
    short e = grind (arith, nat_tests)

    inside : (t : Bool) → (nat_le p b && nat_lt b (p + n)) ≡ t → n < 32 → 0 < cond t 1 0 + cover (filter is_filler gs) b → ((n < 32) × (p ≤ b) × (b < p + n)) ⊎ (0 < cover (filter is_filler gs) b)
    inside true e lt h = let x = both_hold e in inl (lt, x.0, x.1)
      where
        first : (a b : Bool) → (a && b) ≡ true → (a ≡ true) × (b ≡ true)
        first true b e = (refl, e)
        first false b e = cc

        low : nat_le p b ≡ true → p ≤ b
        low e = grind (arith, nat_tests)

        high : nat_lt b (p + n) ≡ true → b < p + n
        high e = grind (arith, nat_tests)

        both_hold : (nat_le p b && nat_lt b (p + n)) ≡ true → (p ≤ b) × (b < p + n)
        both_hold e = let x = first (nat_le p b) (nat_lt b (p + n)) e in (low x.0, high x.1)
    inside false e lt h = inr (omega (arith, h))

    by_test : (t : Bool) → nat_lt n 32 ≡ t → 0 < cover (filter is_filler (cond t (extent ExtentKind.Filler p n) (extent ExtentKind.FreeChunk p n) ∷ gs)) b → ((n < 32) × (p ≤ b) × (b < p + n)) ⊎ (0 < cover (filter is_filler gs) b)
    by_test true e h = inside (nat_le p b && nat_lt b (p + n)) refl (short e) h
    by_test false e h = inr h

pub put_fillers : (gaps : List Extent) (place n : ℕ) (first : Option ℕ) (a c : Option (List ℕ)) → AreGaps gaps → MeetsNone place n gaps → Both (WritesGap place n first) a c → Both (ChangesOnly (free_table ∷ range place n ∷ [])) a c → Both (KeepsFillers gaps (put_by_place (new_gap place n) gaps)) a c
put_fillers gaps place n first None None g none w u = tt
put_fillers gaps place n first None (Some c) g none w u = u
put_fillers gaps place n first (Some a) None g none w u = u
put_fillers gaps place n first (Some a) (Some c) g none w u = λ held k some.
    elim (gap_filler place n k gaps (subst (λ m. 0 < m) (filler_put k (new_gap place n) gaps) some)) [
      | inl h ↦ w.fills h.0 k h.1 h.2
      | inr h ↦ u.others k (apart k h) ∙ held k h
    ]
  where
    apart : (k : ℕ) → 0 < cover (filter is_filler gaps) k → cover (free_table ∷ range place n ∷ []) k ≡ 0
    apart k some = rw (table, out)
      where
        table : holds_byte free_table k ≡ false
        table = (none_holds free_table (filter is_free gaps) k (filler_apart gaps k g some)).0

        outside : (place ≤ k → k < place + n → ⊥) → holds_byte (range place n) k ≡ false
        outside f = by_test (holds_byte (range place n) k) refl
          where
            low : holds_byte (range place n) k ≡ true → place ≤ k
            low e = grind (arith, nat_tests)

            high : holds_byte (range place n) k ≡ true → k < place + n
            high e = grind (arith, nat_tests)

            by_test : (t : Bool) → holds_byte (range place n) k ≡ t → t ≡ false
            by_test true e = absurd (f (low e) (high e))
            by_test false e = refl

        out : holds_byte (range place n) k ≡ false
        out = outside (λ low high. let z = none k low high in let c = cover_kinds k gaps in omega (arith, z, c, some))

-- ---- a gap that is joined with the range

-- the range q, m is the range place, n and the gap at i
abbrev pub IsJoined : ℕ → ℕ → Extent → ℕ → ℕ → Type 0
IsJoined place n g q m = (b : ℕ) → in_range q m b ≡ in_range place n b + in_range g.place g.length b

range_join : (p n m b : ℕ) → in_range p (n + m) b ≡ in_range p n b + in_range (p + n) m b
range_join p n m b = grind (arith, nat_tests)

pub joined_left : (place n : ℕ) (g : Extent) → end_of g ≡ place → IsJoined place n g g.place (g.length + n)
joined_left place n g e b = range_join g.place g.length n b ∙ ap (λ x. in_range g.place g.length b + in_range x n b) e ∙ plain (in_range g.place g.length b) (in_range place n b)
  where
    plain : (x y : ℕ) → x + y ≡ y + x
    plain x y = omega arith

pub joined_right : (place n : ℕ) (g : Extent) → g.place ≡ place + n → IsJoined place n g place (n + g.length)
joined_right place n g e b = range_join place n g.length b ∙ ap (λ x. in_range place n b + in_range x g.length b) (sym e)

joined_within : (place n q m i : ℕ) (gaps : List Extent) → i < length gaps → IsJoined place n (gap_at gaps i) q m → IsWithin (free_table ∷ range q m ∷ remove gaps i) (free_table ∷ range place n ∷ gaps)
joined_within place n q m i gaps lt sum b none =
    let one = none_holds free_table (range place n ∷ gaps) b none in
    let two = none_holds (range place n) gaps b one.1 in
    let table : holds_byte free_table b ≡ false = one.0 in
    let off : holds_byte (range place n) b ≡ false = two.0 in
    let here : in_range place n b ≡ 0 = rw off refl in
    let s = sum b in
    let c = cover_removed_gap gaps i b lt in
    let z : cover gaps b ≡ 0 = two.1 in
    rw table (omega (arith, here, s, c, z))

lists_within : (place n : ℕ) (gaps : List Extent) → IsWithin (free_table ∷ filter is_free gaps) (free_table ∷ range place n ∷ gaps)
lists_within place n gaps b none =
    let one = none_holds free_table (range place n ∷ gaps) b none in
    let table : holds_byte free_table b ≡ false = one.0 in
    let z : cover gaps b ≡ 0 = (none_holds (range place n) gaps b one.1).1 in
    let k = cover_kinds b gaps in rw table (omega (arith, z, k))

alone_within : (place n : ℕ) (gaps : List Extent) → IsWithin (free_table ∷ range place n ∷ []) (free_table ∷ range place n ∷ gaps)
alone_within place n gaps = within_cons free_table (range place n ∷ []) (range place n ∷ gaps) (within_cons (range place n) [] gaps (within_none gaps))

pub alone_changes : (place n : ℕ) (gaps : List Extent) (a c : Option (List ℕ)) → Both (ChangesOnly (free_table ∷ range place n ∷ [])) a c → Both (ChangesOnly (free_table ∷ range place n ∷ gaps)) a c
alone_changes place n gaps a c w =
    widened (free_table ∷ range place n ∷ []) (free_table ∷ range place n ∷ gaps) a c (alone_within place n gaps) w

pub alone_waits : (held : Option (List ℕ)) (place n : ℕ) (gaps : List Extent) (u w : List ℕ) → WaitsWithin (free_table ∷ range place n ∷ []) u w → WaitsWhereTold held (free_table ∷ range place n ∷ gaps) u w
alone_waits held place n gaps u w h = told_waits held (free_table ∷ range place n ∷ gaps) u w (waits_wider (free_table ∷ range place n ∷ []) (free_table ∷ range place n ∷ gaps) u w (alone_within place n gaps) h)

pub left_changes : (place n : ℕ) (gaps : List Extent) (a b : Option (List ℕ)) → Both (ChangesOnly (free_table ∷ filter is_free gaps)) a b → Both (ChangesOnly (free_table ∷ range place n ∷ gaps)) a b
left_changes place n gaps a b v = widened (free_table ∷ filter is_free gaps) (free_table ∷ range place n ∷ gaps) a b (lists_within place n gaps) v

pub joined_changes : (place n q m i : ℕ) (gaps : List Extent) (a b c : Option (List ℕ)) → i < length gaps → IsJoined place n (gap_at gaps i) q m → Both (ChangesOnly (free_table ∷ filter is_free gaps)) a b
    → Both (ChangesOnly (free_table ∷ range q m ∷ remove gaps i)) b c → Both (ChangesOnly (free_table ∷ range place n ∷ gaps)) a c
joined_changes place n q m i gaps a b c lt sum v w =
    changes_then (free_table ∷ range place n ∷ gaps) a b c (left_changes place n gaps a b v) (widened (free_table ∷ range q m ∷ remove gaps i) (free_table ∷ range place n ∷ gaps) b c (joined_within place n q m i gaps lt sum) w)

pub left_waits : (held : Option (List ℕ)) (place n : ℕ) (gaps : List Extent) (u v : List ℕ) → WaitsWhereTold held (free_table ∷ filter is_free gaps) u v → WaitsWhereTold held (free_table ∷ range place n ∷ gaps) u v
left_waits held place n gaps u v h = told_wider held (free_table ∷ filter is_free gaps) (free_table ∷ range place n ∷ gaps) u v (lists_within place n gaps) h

pub joined_waits : (held : Option (List ℕ)) (place n q m i : ℕ) (gaps : List Extent) (u v w : List ℕ) → i < length gaps → IsJoined place n (gap_at gaps i) q m → WaitsWhereTold held (free_table ∷ filter is_free gaps) u v
    → WaitsWhereTold held (free_table ∷ range q m ∷ remove gaps i) v w → WaitsWhereTold held (free_table ∷ range place n ∷ gaps) u w
joined_waits held place n q m i gaps u v w lt sum first then =
    told_next held (free_table ∷ range place n ∷ gaps) u v w (left_waits held place n gaps u v first)
    (told_wider held (free_table ∷ range q m ∷ remove gaps i) (free_table ∷ range place n ∷ gaps) v w (joined_within place n q m i gaps lt sum) then)

-- the fillers of the gaps that are left
pub rest_fillers : (gaps : List Extent) (i : ℕ) (a b : Option (List ℕ)) → AreGaps gaps → Both (ChangesOnly (free_table ∷ filter is_free gaps)) a b → Both (KeepsFillers gaps (remove gaps i)) a b
rest_fillers gaps i None None g v = tt
rest_fillers gaps i None (Some b) g v = v
rest_fillers gaps i (Some a) None g v = v
rest_fillers gaps i (Some a) (Some b) g v = λ held k some.
    let le = filler_removed i gaps k in
    let more : 0 < cover (filter is_filler gaps) k = omega (arith, some, le) in v.others k (filler_apart gaps k g more) ∙ held k more

pub fillers_then : (xs ys zs : List Extent) (a b c : Option (List ℕ)) → Both (KeepsFillers xs ys) a b → Both (KeepsFillers ys zs) b c → Both (KeepsFillers xs zs) a c
fillers_then xs ys zs None None None v w = tt
fillers_then xs ys zs None None (Some c) v w = w
fillers_then xs ys zs None (Some b) c v w = absurd v
fillers_then xs ys zs (Some a) None c v w = absurd v
fillers_then xs ys zs (Some a) (Some b) None v w = w
fillers_then xs ys zs (Some a) (Some b) (Some c) v w = λ held. w (v held)

-- a free chunk that is new to all gaps is new to those that are left
first_among : (i : ℕ) (gaps becomes : List Extent) (image : Option (List ℕ)) → IfSome image (AreFirst (remove gaps i) becomes) → IfSome image (AreFirst gaps becomes)
first_among i gaps becomes None f = tt
first_among i gaps becomes (Some bytes) f = λ place n more. f place n (let le = free_removed place n i gaps in omega (arith, le, more))

-- one gap is joined, and then the rest become others
pub joined_become : (i : ℕ) (becomes after : List Extent) (slots rest new : List Slot) (a b c : Option (List ℕ)) → AreGaps (gaps_of slots) → gaps_of rest ≡ remove (gaps_of slots) i → becomes ≡ after → Both (ChangesOnly (free_table ∷ filter is_free (gaps_of slots))) a b
    → BecomeSlots becomes rest new b c → BecomeSlots after slots new a c
joined_become i becomes after slots rest new a b c g left e v w = subst (λ xs. BecomeSlots xs slots new a c) e (record {
  are = w.are;
  threads = w.threads;
  first = first_among i (gaps_of slots) becomes c (subst (λ gs. IfSome c (AreFirst gs becomes)) left w.first);
  fillers = fillers_then (gaps_of slots) (remove (gaps_of slots) i) becomes a b c (rest_fillers (gaps_of slots) i a b g v) (subst (λ gs. Both (KeepsFillers gs becomes) b c) left w.fillers);
})

-- bytes beside the free table and the free chunks stay
pub fillers_stay : (xs gaps : List Extent) (a c : Option (List ℕ)) → AreGaps gaps → ((b : ℕ) → 266 ≤ b → cover xs b ≡ 0) → Both (ChangesOnly xs) a c → Both (KeepsFillers gaps gaps) a c
fillers_stay xs gaps None None g none u = tt
fillers_stay xs gaps None (Some c) g none u = u
fillers_stay xs gaps (Some a) None g none u = u
fillers_stay xs gaps (Some a) (Some c) g none u = λ held k some. u.others k (none k (high k some)) ∙ held k some
  where
    high : (k : ℕ) → 0 < cover (filter is_filler gaps) k → 266 ≤ k
    high k some = elim (leb_tells 266 k) [ inl h ↦ h.1 | inr h ↦ (let z = (gaps_apart gaps g).low k h.1 in let c = cover_kinds k gaps in absurd (omega (arith, z, c, some))) ]
