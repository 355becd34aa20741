-- A free chunk is put in front of a list, and a filler is filled.
use Rattle.std.proofs.Common.{◌≡◌, inl, inr, ℕ, zero, suc, refl, sym, ◌∙◌, ap, subst, arith, List, [], ◌∷◌, ◌++◌, length, length-append, min, replicate, take, get_or, filter, ◌+◌, ◌-◌, ◌<◌, ◌≤◌, ◌^◌, true, false, cond}
use Rattle.std.proofs.lemmas.Bool.Decides.{nat_tests}
use Rattle.std.specs.Prelude.{Option, Some, None, codes, slice_get, slice_set, nat_lt}
use Rattle.cg_io.specs.Blocks.{Both}
use Rattle.adf_format.specs.declared.fields.TheConstants.{FREE_TABLE_PLACE, FREE_TABLE_LENGTH}
use Rattle.adf_format.specs.RecordFields.{list_first}
use Rattle.adf_format.specs.declared.types.Extent.{Extent}
use Rattle.adf_format.specs.declared.types.ExtentKind.{ExtentKind}
use Rattle.adf_format.specs.Fields.{field}
use Rattle.adf_format.specs.Pointer.{Pointer, To, pointer, pointer_text}
use Rattle.adf_format.specs.Records.{free_head_text}
use Rattle.adf_format.specs.Spelled.{pointer_to, IsInReach}
use Rattle.adf_format.specs.Tiles.{cover, is_free, MeetsNone}
use Rattle.adf_format.specs.Parts.{SpellsFree}
use Rattle.adf_format.specs.Placement.{extent}
use Rattle.adf_format.specs.LaysOut.{ThreadsFreeChunks, first_place, last_place, count_of}
use Rattle.adf_format.specs.Changes.{Writes}
use Rattle.adf_format.specs.HeapRule.{new_gap}
use Rattle.adf_format.proofs.HeapLaws.{in_range}
use Rattle.std.proofs.lemmas.List.{length-take, length-replicate}
use Rattle.std.proofs.lemmas.Option.{get_or_from_slice_get}
use Rattle.adf_format.proofs.CountLaws.{none_holds}
use Rattle.adf_format.proofs.HexLaws.{pointer-pointer_text}
use Rattle.adf_format.proofs.FieldLaws.{get_field, field_beside, field_written, field_left, field_right, field_whole, inner_field, length-field}
use Rattle.adf_format.proofs.SpelledParts.{says_pointer, length-pointer_text}
use Rattle.field_access.specs.Fields.{WaitsWithin}
use Rattle.field_access.proofs.WaitLaws.{waits_then, waits_wider}
use Rattle.file_heap.specs.Heap.{ChangesOnly}
use Rattle.file_heap.specs.Links.{PointsNowhere, ThreadsNone, ThreadsThese, Follows, EndsList, Relinks, WritesChunk, WritesGap, Pushes, list_of, lists_of, number_of, class_of, link_at, range, free_table}
use Rattle.file_heap.proofs.Ranges.{flat, here, cover_set, count_set, same_cover}
use Rattle.file_heap.proofs.Threads.{Threading, threading_beside, threading_set}
use Rattle.file_heap.proofs.ListLaws.{ends_of, all_ends, threading, list_is, ends_are, same_ranges, link_says}
use Rattle.file_heap.proofs.TableLaws.{set_twice, get_same, ends_set, length_lists, first_written, end_written, last_after, of_threading}
use Rattle.file_heap.proofs.ChangeLaws.{IsWithin, widened, changes_then, one_within}

pub relinked : (k : ℕ) (front next : Option ℕ) (old middle new : Option (List ℕ)) → Both (Writes (link_at k front) (pointer_text (pointer_to next))) old middle → Both (EndsList k next front) middle new → Both (Relinks k front next) old new
relinked k front next None None None w e = tt
relinked k front next None None (Some c) w e = absurd e
relinked k front next None (Some b) new w e = absurd w
relinked k front next (Some a) None new w e = absurd w
relinked k front next (Some a) (Some b) None w e = absurd e
relinked k front next (Some a) (Some b) (Some c) w e = record { middle = b; link = w; last = e }

pub chunk_is_written : (place n : ℕ) (next : Option ℕ) (old middle new : Option (List ℕ)) → Both (Writes place (free_head_text (To (place + n - 4)) (pointer_to next))) old middle → Both (Writes (place + n - 4) (codes "EndC")) middle new
    → Both (WritesChunk place n next) old new
chunk_is_written place n next None None None w e = tt
chunk_is_written place n next None None (Some c) w e = absurd e
chunk_is_written place n next None (Some b) new w e = absurd w
chunk_is_written place n next (Some a) None new w e = absurd w
chunk_is_written place n next (Some a) (Some b) None w e = absurd e
chunk_is_written place n next (Some a) (Some b) (Some c) w e = record { headed = b; head = w; tail = e }

-- ---- the chunk that is written

reached : (at : ℕ) (text old new : List ℕ) → Writes at text old new → 0 < length text → at + length text ≤ length new
reached at text old new w some = let long = ap length w.stands in let field_long = length-field new at (length text) in omega (arith, some, long, field_long)

module _ (place n : ℕ) (next : Option ℕ) (old new : List ℕ) (long : 32 ≤ n) (near : place + n ≤ 2 ^ 44) (reach : IsInReach next) (w : WritesChunk place n next old new) where
  head : List ℕ
  head = free_head_text (To (place + n - 4)) (pointer_to next)

  twelve : length (pointer_text (pointer_to next)) ≡ 12
  twelve = length-pointer_text (pointer_to next)

  sixteen : length (codes "FreE" ++ pointer_text (To (place + n - 4))) ≡ 16
  sixteen = length-append (codes "FreE") (pointer_text (To (place + n - 4))) ∙ ap (λ k. 4 + k) (length-pointer_text (To (place + n - 4)))

  pub head_long : length (free_head_text (To (place + n - 4)) (pointer_to next)) ≡ 28
  head_long = length-append (codes "FreE" ++ pointer_text (To (place + n - 4))) (pointer_text (pointer_to next)) ∙ ap (λ k. k + length (pointer_text (pointer_to next))) sixteen ∙ ap (λ k. 16 + k) twelve

  -- a part of the head stands there
  head_part : (k m : ℕ) → k + m ≤ 28 → field new (place + k) m ≡ field (free_head_text (To (place + n - 4)) (pointer_to next)) k m
  head_part k m le =
      let far = reached place (free_head_text (To (place + n - 4)) (pointer_to next)) old w.headed w.head (omega (arith, head_long)) in
      field_beside (place + n - 4) (codes "EndC") w.headed new w.tail (place + k) m (omega (arith, far, head_long, le)) (inl (omega (arith, le, long)))
      ∙ field_written place (free_head_text (To (place + n - 4)) (pointer_to next)) old w.headed w.head k m (omega (arith, head_long, le))

  part_is : (k m o : ℕ) (text : List ℕ) → k + m ≤ 28 → o ≡ place + k → field (free_head_text (To (place + n - 4)) (pointer_to next)) k m ≡ text → field (field new place n) k m ≡ text
  part_is k m o text le e f = inner_field new place n k m (omega (arith, le, long)) ∙ head_part k m le ∙ f

  pub chunk_spelled : SpellsFree (field new place n) place n next
  chunk_spelled = record {
    long = long;
    framed = record {
      start_tag = part_is 0 4 (place + 0) (codes "FreE") (omega arith) refl
          (field_left (codes "FreE" ++ pointer_text (To (place + n - 4))) (pointer_text (pointer_to next)) 0 4 (omega (arith, sixteen))
          ∙ field_left (codes "FreE") (pointer_text (To (place + n - 4))) 0 4 (omega arith) ∙ field_whole (codes "FreE") 4 refl);
      end_pointer = ap pointer (part_is 4 12 (place + 4) (pointer_text (To (place + n - 4))) (omega arith) refl
          (field_left (codes "FreE" ++ pointer_text (To (place + n - 4))) (pointer_text (pointer_to next)) 4 12 (omega (arith, sixteen))
          ∙ field_right (codes "FreE") (pointer_text (To (place + n - 4))) 4 0 12 refl ∙ field_whole (pointer_text (To (place + n - 4))) 12 (length-pointer_text (To (place + n - 4)))))
          ∙ pointer-pointer_text (place + n - 4) (omega (arith, near, long));
      end_tag = inner_field new place n (n - 4) 4 (omega (arith, long)) ∙ ap (λ o. field new o 4) (shift long) ∙ (w.tail).stands;
    };
    next_pointer = says_pointer next (field new place n) 16 reach (part_is 16 12 (place + 16) (pointer_text (pointer_to next)) (omega arith) refl
        (field_right (codes "FreE" ++ pointer_text (To (place + n - 4))) (pointer_text (pointer_to next)) 16 0 12 (omega (arith, sixteen)) ∙ field_whole (pointer_text (pointer_to next)) 12 twelve));
  }
    where
      shift : 32 ≤ n → place + (n - 4) ≡ place + n - 4
      shift le = omega (arith, le)

-- ---- the lists with the chunk

abbrev pub chunk_at : ℕ → ℕ → Extent
chunk_at place n = extent ExtentKind.FreeChunk place n

last_of_pushed : (place n : ℕ) (fs : List Extent) → last_after (first_place fs) (Some place) (last_place fs) ≡ last_place (chunk_at place n ∷ fs)
last_of_pushed place n [] = refl
last_of_pushed place n (f ∷ fs) = refl

part_meets : (place n at m : ℕ) (xs : List Extent) → place ≤ at → at + m ≤ place + n → MeetsNone place n xs → MeetsNone at m xs
part_meets place n at m xs low high none b from to = none b (omega (arith, low, from)) (omega (arith, high, to))

not_in : (place n b : ℕ) → b < place → in_range place n b ≡ 0
not_in place n b lt = grind (arith, nat_tests)

module _ (place n k : ℕ) (first : Option ℕ) (old new : List ℕ) (long : 32 ≤ n) (near : place + n ≤ 2 ^ 44) (few : k < 3) (p : Pushes place n k first old new) (gaps : List Extent) (apart : MeetsNone place n (filter is_free gaps))
    (low : MeetsNone FREE_TABLE_PLACE FREE_TABLE_LENGTH (filter is_free gaps)) (behind : 266 ≤ place) (t : ThreadsFreeChunks old gaps) where
  list_apart : MeetsNone place n (flat (lists_of t))
  list_apart b from to = same_cover (flat (lists_of t)) (filter is_free gaps) (same_ranges old gaps t) b ∙ apart b from to

  pub first_is : first ≡ first_place (list_of t k)
  first_is = (p.follows) (first_place (list_of t k)) (link_says old gaps t k [] (list_of t k) None few refl refl)

  reach : IsInReach (first_place (list_of t k)) → IsInReach first
  reach r = subst IsInReach (sym first_is) r

  table_apart : MeetsNone FREE_TABLE_PLACE FREE_TABLE_LENGTH (flat (slice_set (lists_of t) k (chunk_at place n ∷ list_of t k)))
  table_apart b from to =
      let s = cover_set b (lists_of t) k (list_of t k) (chunk_at place n ∷ list_of t k) (list_is old gaps t k few) in
      let z : cover (flat (lists_of t)) b ≡ 0 = same_cover (flat (lists_of t)) (filter is_free gaps) (same_ranges old gaps t) b ∙ low b from to in
      let o : in_range place n b ≡ 0 = not_in place n b (omega (arith, to, behind)) in
      omega (arith, s, z, o)

  counts : (q m : ℕ) → count_of q m (flat (slice_set (lists_of t) k (chunk_at place n ∷ list_of t k))) ≡ count_of q m (filter is_free (new_gap place n ∷ gaps))
  counts q m =
      let s = count_set q m (lists_of t) k (list_of t k) (chunk_at place n ∷ list_of t k) (list_is old gaps t k few) in
      let e = same_ranges old gaps t q m in
      let off : nat_lt n 32 ≡ false = grind (arith, nat_tests) in
      plain (count_of q m (flat (slice_set (lists_of t) k (chunk_at place n ∷ list_of t k)))) (count_of q m (list_of t k)) (count_of q m (flat (lists_of t))) (here q m place n) (count_of q m (filter is_free gaps)) s e ∙ rw off
    where
      plain : (a b c h d : ℕ) → a + b ≡ c + (h + b) → c ≡ d → a ≡ h + d
      plain a b c h d e f = omega (arith, e, f)

  pub pushed_threads : IsInReach first → ThreadsThese new (new_gap place n ∷ gaps) (slice_set (lists_of t) k (chunk_at place n ∷ list_of t k))
  pushed_threads r =
      let w = p.chunk in
      let head_is = head_long place n first old p.whole long near r w in
      let zero_th = threading old gaps t in
      let one = threading_beside place (free_head_text (To (place + n - 4)) (pointer_to first)) old w.headed (all_ends t) (lists_of t) w.head (omega (arith, head_is)) (inr behind)
      (part_meets place n place (length (free_head_text (To (place + n - 4)) (pointer_to first))) (flat (lists_of t)) (omega arith) (omega (arith, head_is, long)) list_apart) zero_th in
      let two = threading_beside (place + n - 4) (codes "EndC") w.headed p.whole (all_ends t) (lists_of t) w.tail (omega arith) (inr (omega (arith, behind, long)))
      (part_meets place n (place + n - 4) 4 (flat (lists_of t)) (omega (arith, long)) (omega (arith, long)) list_apart) one in
      let spelled = chunk_spelled place n first old p.whole long near r w in
      let three = threading_set p.whole (all_ends t) (lists_of t) k (chunk_at place n ∷ list_of t k)
      (subst (λ next. SpellsFree (field p.whole place n) place n next) first_is spelled, two.each k (list_of t k) (list_is old gaps t k few)) two in
      let four = first_written k few (Some place) (omega (arith, near, long)) p.whole p.linked (all_ends t) (slice_set (lists_of t) k (chunk_at place n ∷ list_of t k)) (first_place (list_of t k)) (last_place (list_of t k))
      (ends_are old gaps t k few) table_apart p.link three in
      let five = end_written k first (Some place) p.linked new (slice_set (all_ends t) k (Some place, last_place (list_of t k))) (slice_set (lists_of t) k (chunk_at place n ∷ list_of t k)) (Some place) (last_place (list_of t k)) few (omega (arith, near, long))
      (get_same (all_ends t) k (ends_of (list_of t k)) (Some place, last_place (list_of t k)) (ends_are old gaps t k few)) table_apart p.last four in
      of_threading new (new_gap place n ∷ gaps) (slice_set (lists_of t) k (chunk_at place n ∷ list_of t k)) (length_lists (lists_of t) k (chunk_at place n ∷ list_of t k))
      (subst (λ xs. Threading new xs (slice_set (lists_of t) k (chunk_at place n ∷ list_of t k)))
      (set_twice (all_ends t) k (Some place, last_place (list_of t k)) (Some place, last_after first (Some place) (last_place (list_of t k)))
      ∙ ap (λ o. slice_set (all_ends t) k (Some place, last_after o (Some place) (last_place (list_of t k)))) first_is
      ∙ ap (λ z. slice_set (all_ends t) k (Some place, z)) (last_of_pushed place n (list_of t k)) ∙ ends_set (lists_of t) k (chunk_at place n ∷ list_of t k)) five) counts

-- ---- told of the bytes

pub nowhere_threads : (image : Option (List ℕ)) (k : ℕ) → k < 3 → PointsNowhere image (list_first FREE_TABLE_PLACE k).offset → ThreadsNone image
nowhere_threads None k few nowhere = tt
nowhere_threads (Some bytes) k few nowhere = λ gaps t. nowhere (first_place (list_of t k)) (link_says bytes gaps t k [] (list_of t k) None few refl refl)

gap_of_pushed : (place n : ℕ) (first : Option ℕ) (old new : List ℕ) → 32 ≤ n → place + n ≤ 2 ^ 44 → number_of (class_of n) < 3 → IsInReach first → Pushes place n (number_of (class_of n)) first old new → WritesGap place n first old new
gap_of_pushed place n first old new long near few reach p = record {
  threads = λ gaps apart low behind t. record {
    these = subst (λ b. ThreadsThese new (new_gap place n ∷ gaps) (cond b (lists_of t) (slice_set (lists_of t) (number_of (class_of n)) (chunk_at place n ∷ list_of t (number_of (class_of n)))))) (sym off)
        (pushed_threads place n (number_of (class_of n)) first old new long near few p gaps apart low behind t reach);
    was_first = λ _. first_is place n (number_of (class_of n)) first old new long near few p gaps apart low behind t;
  };
  fills = λ short b low high. absurd (omega (arith, long, short));
  unlisted = λ short. absurd (omega (arith, long, short));
}
  where
    off : nat_lt n 32 ≡ false
    off = grind (arith, nat_tests)

pub pushed : (entry read whole linked new : Option (List ℕ)) (place n k at : ℕ) (first : Option ℕ) → k ≡ number_of (class_of n) → at ≡ (list_first FREE_TABLE_PLACE k).offset → read ≡ entry → 32 ≤ n → place + n ≤ 2 ^ 44 → k < 3 → IsInReach first
    → Follows entry (list_first FREE_TABLE_PLACE k).offset first → Both (WritesChunk place n first) read whole → Both (Writes at (pointer_text (To place))) whole linked → Both (EndsList k first (Some place)) linked new → Both (WritesGap place n first) entry new
pushed entry read whole linked new place n k at first class here e long near few reach follows chunk link last =
    go k class few entry whole linked new follows (subst (λ image. Both (WritesChunk place n first) image whole) e chunk) (subst (λ a. Both (Writes a (pointer_text (To place))) whole linked) here link) last
  where
    go : (k : ℕ) → k ≡ number_of (class_of n) → k < 3 → (entry whole linked new : Option (List ℕ)) → Follows entry (list_first FREE_TABLE_PLACE k).offset first → Both (WritesChunk place n first) entry whole
        → Both (Writes (list_first FREE_TABLE_PLACE k).offset (pointer_text (To place))) whole linked → Both (EndsList k first (Some place)) linked new → Both (WritesGap place n first) entry new
    go k class few None None None None f c l e = tt
    go k class few None None None (Some d) f c l e = absurd e
    go k class few None None (Some b) d f c l e = absurd l
    go k class few None (Some a) b d f c l e = absurd c
    go k class few (Some o) None b d f c l e = absurd c
    go k class few (Some o) (Some a) None d f c l e = absurd l
    go k class few (Some o) (Some a) (Some b) None f c l e = absurd e
    go k class few (Some o) (Some a) (Some b) (Some d) f c l e =
        gap_of_pushed place n first o d long near (subst (λ j. j < 3) class few) reach (subst (λ j. Pushes place n j first o d) class (record { whole = a; linked = b; follows = f; chunk = c; link = l; last = e }))

-- ---- what may change

part_within : (p n q m : ℕ) → q ≤ p → p + n ≤ q + m → IsWithin (range p n ∷ []) (range q m ∷ [])
part_within p n q m low high = one_within p n (range q m) [] low high

range_in : (p n q m : ℕ) → q ≤ p → p + n ≤ q + m → (old new : Option (List ℕ)) → Both (ChangesOnly (range p n ∷ [])) old new → Both (ChangesOnly (range q m ∷ [])) old new
range_in p n q m low high old new c = widened (range p n ∷ []) (range q m ∷ []) old new (part_within p n q m low high) c

pub head_changes : (place n : ℕ) (old new : Option (List ℕ)) → 32 ≤ n → Both (ChangesOnly (range place 28 ∷ [])) old new → Both (ChangesOnly (range place n ∷ [])) old new
head_changes place n old new long c = range_in place 28 place n (omega arith) (omega (arith, long)) old new c

pub tail_changes : (place n : ℕ) (old middle new : Option (List ℕ)) → 32 ≤ n → Both (ChangesOnly (range place 28 ∷ [])) old middle → Both (ChangesOnly (range (place + n - 4) 4 ∷ [])) middle new → Both (ChangesOnly (range place n ∷ [])) old new
tail_changes place n old middle new long v w =
    changes_then (range place n ∷ []) old middle new (head_changes place n old middle long v) (range_in (place + n - 4) 4 place n (omega (arith, long)) (omega (arith, long)) middle new w)

gap_within : (place n : ℕ) → IsWithin (range place n ∷ []) (free_table ∷ range place n ∷ [])
gap_within place n b none = (none_holds free_table (range place n ∷ []) b none).1

pub gap_changes : (place n : ℕ) (entry read new : Option (List ℕ)) → read ≡ entry → Both (ChangesOnly (range place n ∷ [])) read new → Both (ChangesOnly (free_table ∷ range place n ∷ [])) entry new
gap_changes place n entry read new e c = subst (λ image. Both (ChangesOnly (free_table ∷ range place n ∷ [])) image new) e (widened (range place n ∷ []) (free_table ∷ range place n ∷ []) read new (gap_within place n) c)

fill_length : (n : ℕ) (text : List ℕ) → n < 32 → text ≡ take {A = ℕ} n (replicate 32 122) → length text ≡ n
fill_length n text short is =
    let many : length {A = ℕ} (replicate 32 122) ≡ 32 = length-replicate {A = ℕ} 32 122 in
    let few : length {A = ℕ} (take n (replicate 32 122)) ≡ min n (length {A = ℕ} (replicate 32 122)) = length-take n (replicate 32 122) in
    ap length is ∙ omega (arith, short, few, many)

-- a filler of so many bytes
pub fill_changes : (place n : ℕ) (text : List ℕ) (old new : Option (List ℕ)) → n < 32 → text ≡ take {A = ℕ} n (replicate 32 122) → Both (ChangesOnly (range place (length text) ∷ [])) old new
    → Both (ChangesOnly (free_table ∷ range place n ∷ [])) old new
fill_changes place n text old new short is c = gap_changes place n old old new refl (subst (λ k. Both (ChangesOnly (range place k ∷ [])) old new) (fill_length n text short is) c)

first_within : (place n k : ℕ) → k < 3 → IsWithin (range (list_first FREE_TABLE_PLACE k).offset 12 ∷ []) (free_table ∷ range place n ∷ [])
first_within place n k few = one_within (list_first FREE_TABLE_PLACE k).offset 12 free_table (range place n ∷ []) (omega arith) (omega (arith, few))

pub link_then : (place n k : ℕ) (a b c : Option (List ℕ)) → k < 3 → Both (ChangesOnly (free_table ∷ range place n ∷ [])) a b → Both (ChangesOnly (range (list_first FREE_TABLE_PLACE k).offset 12 ∷ [])) b c → Both (ChangesOnly (free_table ∷ range place n ∷ [])) a c
link_then place n k a b c few v w = changes_then (free_table ∷ range place n ∷ []) a b c v (widened (range (list_first FREE_TABLE_PLACE k).offset 12 ∷ []) (free_table ∷ range place n ∷ []) b c (first_within place n k few) w)

-- a chunk, and the pointer to it as the first of its list
pub chunk_changes : (place n k at : ℕ) (entry read whole linked : Option (List ℕ)) → k < 3 → at ≡ (list_first FREE_TABLE_PLACE k).offset → read ≡ entry → Both (ChangesOnly (range place n ∷ [])) read whole
    → Both (ChangesOnly (range at 12 ∷ [])) whole linked → Both (ChangesOnly (free_table ∷ range place n ∷ [])) entry linked
chunk_changes place n k at entry read whole linked few e same v w =
    link_then place n k entry whole linked few (gap_changes place n entry read whole same v) (subst (λ a. Both (ChangesOnly (range a 12 ∷ [])) whole linked) e w)

-- ---- blocks that wait

pub head_waits : (place n : ℕ) (head old new : List ℕ) → length head ≡ 28 → 32 ≤ n → WaitsWithin (range place (length head) ∷ []) old new → WaitsWithin (range place n ∷ []) old new
head_waits place n head old new is long w = waits_wider (range place (length head) ∷ []) (range place n ∷ []) old new (part_within place (length head) place n (omega arith) (omega (arith, is, long))) w

pub tail_waits : (place n : ℕ) (head tail old middle new : List ℕ) → length head ≡ 28 → length tail ≡ 4 → 32 ≤ n → WaitsWithin (range place (length head) ∷ []) old middle → WaitsWithin (range (place + n - 4) (length tail) ∷ []) middle new
    → WaitsWithin (range place n ∷ []) old new
tail_waits place n head tail old middle new first last long v w =
    waits_then (range place n ∷ []) old middle new (head_waits place n head old middle first long v)
    (waits_wider (range (place + n - 4) (length tail) ∷ []) (range place n ∷ []) middle new (part_within (place + n - 4) (length tail) place n (omega (arith, long)) (omega (arith, last, long))) w)

pub gap_waits : (place n : ℕ) (entry read new : List ℕ) → read ≡ entry → WaitsWithin (range place n ∷ []) read new → WaitsWithin (free_table ∷ range place n ∷ []) entry new
gap_waits place n entry read new e w =
    subst (λ blocks. WaitsWithin (free_table ∷ range place n ∷ []) blocks new) e (waits_wider (range place n ∷ []) (free_table ∷ range place n ∷ []) read new (gap_within place n) w)

pub fill_waits : (place n : ℕ) (text old new : List ℕ) → n < 32 → text ≡ take {A = ℕ} n (replicate 32 122) → WaitsWithin (range place (length text) ∷ []) old new → WaitsWithin (free_table ∷ range place n ∷ []) old new
fill_waits place n text old new short is w = gap_waits place n old old new refl (subst (λ k. WaitsWithin (range place k ∷ []) old new) (fill_length n text short is) w)

pub chunk_waits : (place n k at : ℕ) (entry read whole linked : List ℕ) → k < 3 → at ≡ (list_first FREE_TABLE_PLACE k).offset → read ≡ entry → WaitsWithin (range place n ∷ []) read whole → WaitsWithin (range at 12 ∷ []) whole linked
    → WaitsWithin (free_table ∷ range place n ∷ []) entry linked
chunk_waits place n k at entry read whole linked few e same v w =
    waits_then (free_table ∷ range place n ∷ []) entry whole linked (gap_waits place n entry read whole same v)
    (waits_wider (range (list_first FREE_TABLE_PLACE k).offset 12 ∷ []) (free_table ∷ range place n ∷ []) whole linked (first_within place n k few) (subst (λ a. WaitsWithin (range a 12 ∷ []) whole linked) e w))

-- ---- a filler

take_replicate : (n m : ℕ) → n ≤ m → take {A = ℕ} n (replicate m 122) ≡ replicate n 122
take_replicate zero m le = refl
take_replicate (suc n) zero le = absurd (omega (arith, le))
take_replicate (suc n) (suc m) le = ap (λ xs. 122 ∷ xs) (take_replicate n m (omega (arith, le)))

get_replicate : (n j : ℕ) → j < n → slice_get {X = ℕ} (replicate n 122) j ≡ Some 122
get_replicate zero j lt = absurd (omega (arith, lt))
get_replicate (suc n) zero lt = refl
get_replicate (suc n) (suc j) lt = get_replicate n j (omega (arith, lt))

filled : (place n : ℕ) (text old new : List ℕ) → 0 < n → n < 32 → text ≡ replicate n 122 → Writes place text old new → WritesGap place n None old new
filled place n text old new some short e w = record {
  threads = λ gaps apart low behind t.
      let dropped : filter is_free (new_gap place n ∷ gaps) ≡ filter is_free gaps = rw on in
      let list_apart : MeetsNone place n (flat (lists_of t)) = λ b from to. same_cover (flat (lists_of t)) (filter is_free gaps) (same_ranges old gaps t) b ∙ apart b from to in
      let th = threading_beside place text old new (all_ends t) (lists_of t) w (omega (arith, some, size)) (inr behind) (subst (λ m. MeetsNone place m (flat (lists_of t))) (sym size) list_apart) (threading old gaps t) in
      let these = of_threading new (new_gap place n ∷ gaps) (lists_of t) refl th (λ q m. same_ranges old gaps t q m ∙ ap (count_of q m) (sym dropped)) in
      record {
        these = subst (λ b. ThreadsThese new (new_gap place n ∷ gaps) (cond b (lists_of t) (slice_set (lists_of t) (number_of (class_of n)) (chunk_at place n ∷ list_of t (number_of (class_of n)))))) (sym on) these;
        was_first = λ long. absurd (omega (arith, long, short));
      };
  unlisted = λ _. refl;
  fills = λ _ b low high. byte b (b - place) (omega (arith, low)) (omega (arith, low, high));
}
  where
    on : nat_lt n 32 ≡ true
    on = grind (arith, nat_tests)

    size : length text ≡ n
    size = ap length e ∙ length-replicate n 122

    byte : (b j : ℕ) → b ≡ place + j → j < n → get_or new b 0 ≡ 122
    byte b j at lt =
        get_or_from_slice_get new b 122 0
        (sym (get_field new place (length text) j b (omega (arith, lt, size)) at) ∙ ap (λ xs. slice_get xs j) (w.stands ∙ e) ∙ get_replicate n j lt)

pub is_filled : (place n : ℕ) (text : List ℕ) (old new : Option (List ℕ)) → 0 < n → n < 32 → text ≡ take {A = ℕ} n (replicate 32 122) → Both (Writes place text) old new → Both (WritesGap place n None) old new
is_filled place n text None None some short e w = tt
is_filled place n text None (Some new) some short e w = w
is_filled place n text (Some old) None some short e w = w
is_filled place n text (Some old) (Some new) some short e w = filled place n text old new some short (e ∙ take_replicate n 32 (omega (arith, short))) w

-- ---- with what the calls answered

pub chunk_done : (place n : ℕ) (next : Option ℕ) (text closing : List ℕ) (p q : Pointer) (old middle new : Option (List ℕ)) → text ≡ free_head_text p q → p ≡ To (place + n - 4) → q ≡ pointer_to next → Both (Writes place text) old middle
    → closing ≡ codes "EndC" → Both (Writes (place + n - 4) closing) middle new → Both (WritesChunk place n next) old new
chunk_done place n next text closing p q old middle new e f g w c v =
    chunk_is_written place n next old middle new (subst (λ xs. Both (Writes place xs) old middle) (e ∙ ap (λ x. free_head_text x q) f ∙ ap (free_head_text (To (place + n - 4))) g) w) (subst (λ xs. Both (Writes (place + n - 4) xs) middle new) c v)
