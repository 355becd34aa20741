-- A free chunk is taken out of its list.
use Rattle.std.proofs.Common.{◌≡◌, ℕ, zero, suc, refl, sym, ◌∙◌, ap, subst, arith, List, [], ◌∷◌, ◌++◌, length, append_assoc, filter, ◌+◌, ◌<◌, ◌≤◌, ◌^◌, Bool, true, false, cond}
use Rattle.std.specs.Prelude.{Option, Some, None, slice_get, slice_set, remove}
use Rattle.adf_format.specs.declared.fields.TheConstants.{FREE_TABLE_PLACE, FREE_TABLE_LENGTH}
use Rattle.adf_format.specs.RecordFields.{list_first}
use Rattle.adf_format.specs.declared.types.Extent.{Extent}
use Rattle.adf_format.specs.Pointer.{pointer_text}
use Rattle.adf_format.specs.Spelled.{pointer_to}
use Rattle.adf_format.specs.Tiles.{cover, is_free, MeetsNone}
use Rattle.adf_format.specs.LaysOut.{IsThreaded, ThreadsFreeChunks, first_place, last_place, count_of}
use Rattle.adf_format.specs.Changes.{Writes}
use Rattle.adf_format.proofs.HeapLaws.{in_range}
use Rattle.file_heap.specs.Gaps.{gap_at}
use Rattle.file_heap.specs.Links.{Points, Follows, AreApart, IsBehind, Relinks, EndsList, ThreadsThese, list_of, lists_of, link_at}
use Rattle.file_heap.proofs.Ranges.{flat, here, count_without, cover_without, count_set, cover_set, one_length, test_holds}
use Rattle.file_heap.proofs.Threads.{Threading, first_of, threads_behind, threading_set, threading_next}
use Rattle.file_heap.proofs.ListLaws.{ends_of, all_ends, threading, list_is, ends_are, same_ranges, lists_cover, list_threaded, chunk_stands, first_in_reach, EndsWith, ends_with, ends_nowhere, last_added, link_says}
use Rattle.file_heap.proofs.TableLaws.{set_twice, get_same, ends_set, length_lists, first_written, end_written, last_after, of_threading, last_of_rest, last_of_joined}

-- ---- the gaps without one of them

pub count_removed : (place n : ℕ) (gaps : List Extent) (i : ℕ) → i < length gaps → is_free (gap_at gaps i) ≡ true
    → count_of place n (filter is_free gaps) ≡ here place n (gap_at gaps i).place (gap_at gaps i).length + count_of place n (filter is_free (remove gaps i))
count_removed place n [] i lt free = absurd (omega (arith, lt))
count_removed place n (g ∷ gs) zero lt free = rw free
count_removed place n (g ∷ gs) (suc i) lt free = by_free (is_free g) (count_removed place n gs i (omega (arith, lt)) free)
  where
    plain : (a b c d : ℕ) → a ≡ b + c → d + a ≡ b + (d + c)
    plain a b c d e = omega (arith, e)

    by_free : (t : Bool) → count_of place n (filter is_free gs) ≡ here place n (gap_at gs i).place (gap_at gs i).length + count_of place n (filter is_free (remove gs i))
        → count_of place n (cond t (g ∷ filter is_free gs) (filter is_free gs)) ≡ here place n (gap_at gs i).place (gap_at gs i).length + count_of place n (cond t (g ∷ filter is_free (remove gs i)) (filter is_free (remove gs i)))
    by_free true e = plain (count_of place n (filter is_free gs)) (here place n (gap_at gs i).place (gap_at gs i).length) (count_of place n (filter is_free (remove gs i))) (here place n g.place g.length) e
    by_free false e = e

pub counted : (gaps : List Extent) (i : ℕ) → i < length gaps → is_free (gap_at gaps i) ≡ true → 0 < count_of (gap_at gaps i).place (gap_at gaps i).length (filter is_free gaps)
counted gaps i lt free =
    let g = gap_at gaps i in
    let e = count_removed g.place g.length gaps i lt free in
    let on = test_holds g.place g.place g.length g.length refl refl in
    let one : here g.place g.length g.place g.length ≡ 1 = rw on in
    omega (arith, e, one)

-- ---- the lists without one of the chunks

module _ (old : List ℕ) (gaps : List Extent) (i : ℕ) (t : ThreadsFreeChunks old gaps) (apart : AreApart gaps) (inside : i < length gaps) (free : is_free (gap_at gaps i) ≡ true) (long : 32 ≤ (gap_at gaps i).length)
    (k : ℕ) (few : k < 3) (before : List Extent) (c : Extent) (after : List Extent) (is : list_of t k ≡ before ++ c ∷ after) (at : c.place ≡ (gap_at gaps i).place) where
  once : (b : ℕ) → cover (flat (lists_of t)) b ≤ 1
  once b = let s = lists_cover old gaps t b in let o = apart.once b in omega (arith, s, o)

  table_apart : MeetsNone FREE_TABLE_PLACE FREE_TABLE_LENGTH (flat (slice_set (lists_of t) k (before ++ after)))
  table_apart b low high =
      let s = cover_set b (lists_of t) k (list_of t k) (before ++ after) (list_is old gaps t k few) in
      let w : cover (list_of t k) b ≡ in_range c.place c.length b + cover (before ++ after) b = ap (λ xs. cover xs b) is ∙ cover_without b before c after in
      let l = lists_cover old gaps t b in
      let z = apart.low b (omega (arith, high)) in omega (arith, s, w, l, z)

  stands : (266 ≤ c.place) × (c.place + c.length ≤ 2 ^ 44) × (32 ≤ c.length)
  stands = chunk_stands old gaps t apart k before c after few is

  -- what is counted of the list, and of all
  list_counts : (place n : ℕ) → count_of place n (flat (lists_of t)) ≡ here place n c.place c.length + count_of place n (flat (slice_set (lists_of t) k (before ++ after)))
  list_counts place n =
      let s = count_set place n (lists_of t) k (list_of t k) (before ++ after) (list_is old gaps t k few) in
      let w : count_of place n (list_of t k) ≡ here place n c.place c.length + count_of place n (before ++ after) = ap (count_of place n) is ∙ count_without place n before c after in
      plain (count_of place n (flat (slice_set (lists_of t) k (before ++ after)))) (count_of place n (list_of t k)) (count_of place n (flat (lists_of t))) (count_of place n (before ++ after)) (here place n c.place c.length) s w
    where
      plain : (a b c d h : ℕ) → a + b ≡ c + d → b ≡ h + d → c ≡ h + a
      plain a b c d h e f = omega (arith, e, f)

  same_length : c.length ≡ (gap_at gaps i).length
  same_length = one_length c.place c.length (gap_at gaps i).length (flat (lists_of t)) (once c.place) (let s = stands.2 in omega (arith, s)) (omega (arith, long)) counts_chunk counts_gap
    where
      counts_chunk : 0 < count_of c.place c.length (flat (lists_of t))
      counts_chunk =
          let e = list_counts c.place c.length in
          let on = test_holds c.place c.place c.length c.length refl refl in
          let one : here c.place c.length c.place c.length ≡ 1 = rw on in omega (arith, e, one)

      counts_gap : 0 < count_of c.place (gap_at gaps i).length (flat (lists_of t))
      counts_gap = subst (λ p. 0 < count_of p (gap_at gaps i).length (flat (lists_of t))) (sym at) (subst (λ m. 0 < m) (sym (same_ranges old gaps t (gap_at gaps i).place (gap_at gaps i).length)) (counted gaps i inside free))

  rest_counts : (place n : ℕ) → count_of place n (flat (slice_set (lists_of t) k (before ++ after))) ≡ count_of place n (filter is_free (remove gaps i))
  rest_counts place n =
      plain (here place n c.place c.length) (count_of place n (flat (slice_set (lists_of t) k (before ++ after)))) (count_of place n (filter is_free (remove gaps i)))
      (sym (list_counts place n) ∙ same_ranges old gaps t place n ∙ count_removed place n gaps i inside free
      ∙ ap (λ p. here place n p (gap_at gaps i).length + count_of place n (filter is_free (remove gaps i))) (sym at) ∙ ap (λ m. here place n c.place m + count_of place n (filter is_free (remove gaps i))) (sym same_length))
    where
      plain : (h a b : ℕ) → h + a ≡ h + b → a ≡ b
      plain h a b e = omega (arith, e)

  finish : (new : List ℕ) (ends : List (Option ℕ × Option ℕ)) → ends ≡ slice_set (all_ends t) k (ends_of (before ++ after)) → Threading new ends (slice_set (lists_of t) k (before ++ after)) → ThreadsThese new (remove gaps i) (slice_set (lists_of t) k (before ++ after))
  finish new ends e th =
      of_threading new (remove gaps i) (slice_set (lists_of t) k (before ++ after)) (length_lists (lists_of t) k (before ++ after))
      (subst (λ xs. Threading new xs (slice_set (lists_of t) k (before ++ after))) (e ∙ ends_set (lists_of t) k (before ++ after)) th) rest_counts

  ends_is : slice_get (all_ends t) k ≡ Some (first_place (before ++ c ∷ after), last_place (before ++ c ∷ after))
  ends_is = ends_are old gaps t k few ∙ ap (λ xs. Some (ends_of xs)) is

  -- the first of the list
  pub first_unlinked : (middle new : List ℕ) → before ≡ [] → Writes (list_first FREE_TABLE_PLACE k).offset (pointer_text (pointer_to (first_place after))) old middle → EndsList k (first_place after) None middle new → ThreadsThese new (remove gaps i) (slice_set (lists_of t) k (before ++ after))
  first_unlinked middle new none w e =
      let reach = first_in_reach old gaps t apart k (before ++ c ∷ []) after few (is ∙ sym (append_assoc before (c ∷ []) after)) in
      let rest : IsThreaded old (before ++ after) = subst (λ xs. IsThreaded old (xs ++ after)) (sym none) (threads_behind old (before ++ c ∷ []) after (subst (IsThreaded old) (is ∙ sym (append_assoc before (c ∷ []) after)) (list_threaded old gaps t k few))) in
      let one = threading_set old (all_ends t) (lists_of t) k (before ++ after) rest (threading old gaps t) in
      let two = first_written k few (first_place after) reach old middle (all_ends t) (slice_set (lists_of t) k (before ++ after)) (first_place (before ++ c ∷ after)) (last_place (before ++ c ∷ after)) ends_is table_apart w one in
      let three = end_written k (first_place after) None middle new (slice_set (all_ends t) k (first_place after, last_place (before ++ c ∷ after))) (slice_set (lists_of t) k (before ++ after)) (first_place after) (last_place (before ++ c ∷ after)) few tt
      (get_same (all_ends t) k (first_place (before ++ c ∷ after), last_place (before ++ c ∷ after)) (first_place after, last_place (before ++ c ∷ after)) ends_is) table_apart e two in
      finish new (slice_set (slice_set (all_ends t) k (first_place after, last_place (before ++ c ∷ after))) k (first_place after, last_after (first_place after) None (last_place (before ++ c ∷ after))))
      (set_twice (all_ends t) k (first_place after, last_place (before ++ c ∷ after)) (first_place after, last_after (first_place after) None (last_place (before ++ c ∷ after)))
      ∙ ap (λ x. slice_set (all_ends t) k (first_place after, last_after (first_place after) None (last_place (x ++ c ∷ after)))) none
      ∙ ap (λ z. slice_set (all_ends t) k (first_place after, z)) (last_of_rest c after) ∙ ap (λ xs. slice_set (all_ends t) k (ends_of (xs ++ after))) (sym none)) three

  -- a chunk behind another
  pub next_unlinked : (middle new : List ℕ) (bs : List Extent) (f : Extent) → before ≡ bs ++ f ∷ [] → Writes (f.place + 16) (pointer_text (pointer_to (first_place after))) old middle → EndsList k (first_place after) (Some f.place) middle new
      → ThreadsThese new (remove gaps i) (slice_set (lists_of t) k (before ++ after))
  next_unlinked middle new bs f split w e =
      let reach = first_in_reach old gaps t apart k (before ++ c ∷ []) after few (is ∙ sym (append_assoc before (c ∷ []) after)) in
      let whole : list_of t k ≡ bs ++ f ∷ c ∷ after = is ∙ ap (λ xs. xs ++ c ∷ after) split ∙ append_assoc bs (f ∷ []) (c ∷ after) in
      let joined : before ++ after ≡ bs ++ f ∷ after = ap (λ xs. xs ++ after) split ∙ append_assoc bs (f ∷ []) after in
      let front = chunk_stands old gaps t apart k bs f (c ∷ after) few whole in
      let one : Threading middle (all_ends t) (slice_set (lists_of t) k (bs ++ f ∷ after))
      = threading_next old middle (all_ends t) (lists_of t) k bs f c after once front.0 reach (list_is old gaps t k few ∙ ap (λ xs. Some xs) whole) w (threading old gaps t) in
      let two = end_written k (first_place after) (Some f.place) middle new (all_ends t) (slice_set (lists_of t) k (before ++ after)) (first_place (before ++ c ∷ after)) (last_place (before ++ c ∷ after)) few
      (let le = front.1 in let long = front.2 in near f.place f.length le long) ends_is table_apart e (subst (λ xs. Threading middle (all_ends t) (slice_set (lists_of t) k xs)) (sym joined) one) in
      finish new (slice_set (all_ends t) k (first_place (before ++ c ∷ after), last_after (first_place after) (Some f.place) (last_place (before ++ c ∷ after))))
      (ap (λ p. slice_set (all_ends t) k (p, last_after (first_place after) (Some f.place) (last_place (before ++ c ∷ after)))) (ap first_place (sym is ∙ whole) ∙ first_of bs f (c ∷ after) after ∙ ap first_place (sym joined))
      ∙ ap (λ z. slice_set (all_ends t) k (first_place (before ++ after), z)) (ap (λ xs. last_after (first_place after) (Some f.place) (last_place xs)) (sym is ∙ whole) ∙ last_of_joined bs f c after ∙ ap last_place (sym joined))) two
    where
      near : (p n : ℕ) → p + n ≤ 2 ^ 44 → 32 ≤ n → p < 2 ^ 44
      near p n le long = omega (arith, le, long)

-- ---- with the chunk at its spot

module _ (old new : List ℕ) (gaps : List Extent) (i k : ℕ) (front next : Option ℕ) (t : ThreadsFreeChunks old gaps) (few : k < 3) (b : IsBehind (list_of t k) (gap_at gaps i).place front) (follows : Follows (Some old) ((gap_at gaps i).place + 16) next) where
  whole : list_of t k ≡ (b.before ++ b.chunk ∷ []) ++ b.after
  whole = b.is ∙ sym (append_assoc b.before (b.chunk ∷ []) b.after)

  -- what was read is the chunk behind
  pub read_behind : next ≡ first_place b.after
  read_behind = follows (first_place b.after) (subst (λ p. Points old (p + 16) (first_place b.after)) b.here (link_says old gaps t k (b.before ++ b.chunk ∷ []) b.after (Some b.chunk.place) few whole (sym (last_added b.before b.chunk))))

  pub unlinked : AreApart gaps → i < length gaps → is_free (gap_at gaps i) ≡ true → 32 ≤ (gap_at gaps i).length → Relinks k front next old new → ThreadsThese new (remove gaps i) (slice_set (lists_of t) k (b.before ++ b.after))
  unlinked apart inside free long r = by_front front b.follows r.middle (subst (λ n. Writes (link_at k front) (pointer_text (pointer_to n)) old r.middle) read_behind r.link) (subst (λ n. EndsList k n front r.middle new) read_behind r.last)
    where
      by_front : (front : Option ℕ) → front ≡ last_place b.before → (middle : List ℕ) → Writes (link_at k front) (pointer_text (pointer_to (first_place b.after))) old middle → EndsList k (first_place b.after) front middle new
          → ThreadsThese new (remove gaps i) (slice_set (lists_of t) k (b.before ++ b.after))
      by_front None e middle w l = first_unlinked old gaps i t apart inside free long k few b.before b.chunk b.after b.is b.here middle new (ends_nowhere b.before e) w l
      by_front (Some f) e middle w l =
          let s : EndsWith b.before f = ends_with b.before f e in
          next_unlinked old gaps i t apart inside free long k few b.before b.chunk b.after b.is b.here middle new s.before s.chunk s.is
          (subst (λ p. Writes (p + 16) (pointer_text (pointer_to (first_place b.after))) old middle) (sym s.here) w) (subst (λ p. EndsList k (first_place b.after) (Some p) middle new) (sym s.here) l)
