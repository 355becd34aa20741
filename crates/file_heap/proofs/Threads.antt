-- The lists of free chunks in the bytes after a write: beside them, in one of their pointers, in the free table.
use Rattle.std.proofs.Common.{◌≡◌, ◌≢◌, ◌⊎◌, inl, inr, ℕ, zero, suc, refl, sym, ◌∙◌, ap, subst, arith, List, [], ◌∷◌, ◌++◌, length, ◌+◌, ◌-◌, ◌*◌, ◌<◌, ◌≤◌, min, false}
use Rattle.std.proofs.lemmas.Bool.Decides.{nat_tests, leb_tells, eqb_tells}
use Rattle.std.specs.Prelude.{Option, Some, slice_get, slice_set}
use Rattle.adf_format.specs.declared.fields.TheConstants.{FREE_TABLE_PLACE, FREE_TABLE_LENGTH}
use Rattle.adf_format.specs.declared.types.Extent.{Extent}
use Rattle.adf_format.specs.Fields.{field}
use Rattle.adf_format.specs.Pointer.{pointer_text}
use Rattle.adf_format.specs.Spelled.{pointer_to, IsInReach}
use Rattle.adf_format.specs.Tiles.{cover, holds_byte, end_of, MeetsNone}
use Rattle.adf_format.specs.Parts.{SpellsFree, SpellsFreeTable, HasPointer}
use Rattle.adf_format.specs.LaysOut.{IsThreaded, first_place}
use Rattle.adf_format.specs.Changes.{Writes}
use Rattle.adf_format.proofs.HeapLaws.{in_range}
use Rattle.adf_format.proofs.CountLaws.{none_holds}
use Rattle.adf_format.proofs.FieldLaws.{field_beside, length-field}
use Rattle.adf_format.proofs.SpelledParts.{length-pointer_text}
use Rattle.adf_format.proofs.WrittenParts.{next_written, ends_written}
use Rattle.file_heap.proofs.Ranges.{flat, cover_in, cover_set, cover_without, holds_inner}

same_or : (a b : ℕ) → (a ≡ b) ⊎ (a ≢ b)
same_or a b = elim (eqb_tells a b) [ inl h ↦ inl h.1 | inr h ↦ inr h.1 ]

below_or : (a b : ℕ) → (a < b) ⊎ (b ≤ a)
below_or a b = elim (leb_tells (suc a) b) [ inl h ↦ inl h.1 | inr h ↦ inr (omega (arith, h.1)) ]

-- ---- where a free chunk lies

-- a free chunk lies within the bytes, since its last four are a tag
pub free_within : (bytes : List ℕ) (place size : ℕ) (next : Option ℕ) → SpellsFree (field bytes place size) place size next → place + size ≤ length bytes
free_within bytes place size next s =
    let long : 32 ≤ size = s.long in
    let four : length (field (field bytes place size) (size - 4) 4) ≡ 4 = ap length s.framed.end_tag in
    let inner : length (field (field bytes place size) (size - 4) 4) ≡ min 4 (length (field bytes place size) - (size - 4)) = length-field (field bytes place size) (size - 4) 4 in
    let outer : length (field bytes place size) ≡ min size (length bytes - place) = length-field bytes place size in
    omega (arith, long, four, inner, outer)

-- the free table too
pub table_within : (bytes : List ℕ) (ends : List (Option ℕ × Option ℕ)) → SpellsFreeTable (field bytes FREE_TABLE_PLACE FREE_TABLE_LENGTH) ends → 266 ≤ length bytes
table_within bytes ends t =
    let four : length (field (field bytes FREE_TABLE_PLACE FREE_TABLE_LENGTH) 76 4) ≡ 4 = ap length t.end_tag in
    let inner : length (field (field bytes FREE_TABLE_PLACE FREE_TABLE_LENGTH) 76 4) ≡ min 4 (length (field bytes FREE_TABLE_PLACE FREE_TABLE_LENGTH) - 76) = length-field (field bytes FREE_TABLE_PLACE FREE_TABLE_LENGTH) 76 4 in
    let outer : length (field bytes FREE_TABLE_PLACE FREE_TABLE_LENGTH) ≡ min 80 (length bytes - FREE_TABLE_PLACE) = length-field bytes FREE_TABLE_PLACE FREE_TABLE_LENGTH in
    omega (arith, four, inner, outer)

-- ---- a write beside a chunk or a list

range_apart : (f : Extent) (place n : ℕ) → 0 < n → 0 < f.length → MeetsNone place n (f ∷ []) → (end_of f ≤ place) ⊎ (place + n ≤ f.place)
range_apart f place n pos long none = by_left (below_or place (end_of f))
  where
    clash : (b : ℕ) → place ≤ b → b < place + n → f.place ≤ b → b < end_of f → ⊥
    clash b low high from to = let out : holds_byte f b ≡ false = (none_holds f [] b (none b low high)).0 in grind (arith, nat_tests)

    by_right : place < end_of f → (f.place < place + n) ⊎ (place + n ≤ f.place) → (end_of f ≤ place) ⊎ (place + n ≤ f.place)
    by_right lt (inr h) = inr h
    by_right lt (inl h) = absurd (by_start (below_or f.place place))
      where
        by_start : (f.place < place) ⊎ (place ≤ f.place) → ⊥
        by_start (inl k) = clash place (omega arith) (omega (arith, pos)) (omega (arith, k)) lt
        by_start (inr k) = clash f.place k h (omega arith) (omega (arith, long))

    by_left : (place < end_of f) ⊎ (end_of f ≤ place) → (end_of f ≤ place) ⊎ (place + n ≤ f.place)
    by_left (inr h) = inl h
    by_left (inl h) = by_right h (below_or f.place (place + n))

one_meets : (place n : ℕ) (f : Extent) (fs : List Extent) → MeetsNone place n (f ∷ fs) → MeetsNone place n (f ∷ [])
one_meets place n f fs none b low high = let out : holds_byte f b ≡ false = (none_holds f fs b (none b low high)).0 in rw out

rest_meets : (place n : ℕ) (f : Extent) (fs : List Extent) → MeetsNone place n (f ∷ fs) → MeetsNone place n fs
rest_meets place n f fs none b low high = (none_holds f fs b (none b low high)).1

module _ (at : ℕ) (text old new : List ℕ) (w : Writes at text old new) (some : 0 < length text) where
  chunk_beside : (f : Extent) (next : Option ℕ) → MeetsNone at (length text) (f ∷ []) → SpellsFree (field old f.place f.length) f.place f.length next → SpellsFree (field new f.place f.length) f.place f.length next
  chunk_beside f next none s =
      let long : 32 ≤ f.length = s.long in
      let within = free_within old f.place f.length next s in
      subst (λ bytes. SpellsFree bytes f.place f.length next) (sym (field_beside at text old new w f.place f.length within (range_apart f at (length text) some (omega (arith, long)) none))) s

  -- a list apart from a write stays
  pub threads_beside : (fs : List Extent) → MeetsNone at (length text) fs → IsThreaded old fs → IsThreaded new fs
  threads_beside [] none t = tt
  threads_beside (f ∷ fs) none t = (chunk_beside f (first_place fs) (one_meets at (length text) f fs none) t.0, threads_beside fs (rest_meets at (length text) f fs none) t.1)

-- the first chunk of a list with something behind it does not depend on what is behind that
pub first_of : (bs : List Extent) (f : Extent) (xs ys : List Extent) → first_place (bs ++ f ∷ xs) ≡ first_place (bs ++ f ∷ ys)
first_of [] f xs ys = refl
first_of (b ∷ bs) f xs ys = refl

-- f, in front of g, points to what g pointed to: g is out of the list
pub threads_unlinked : (before : List Extent) (f g : Extent) (after : List Extent) (old new : List ℕ) → IsInReach (first_place after) → Writes (f.place + 16) (pointer_text (pointer_to (first_place after))) old new
    → MeetsNone (f.place + 16) 12 before → MeetsNone (f.place + 16) 12 after → IsThreaded old (before ++ f ∷ g ∷ after) → IsThreaded new (before ++ f ∷ after)
threads_unlinked [] f g after old new reach w apart_before apart_after t =
    let twelve : length (pointer_text (pointer_to (first_place after))) ≡ 12 = length-pointer_text (pointer_to (first_place after)) in (
      next_written f.place f.length (Some g.place) (first_place after) old new reach (free_within old f.place f.length (Some g.place) t.0) w t.0,
      threads_beside (f.place + 16) (pointer_text (pointer_to (first_place after))) old new w (omega (arith, twelve)) after (subst (λ n. MeetsNone (f.place + 16) n after) (sym twelve) apart_after) t.1.1,
    )
threads_unlinked (b ∷ bs) f g after old new reach w apart_before apart_after t =
    let twelve : length (pointer_text (pointer_to (first_place after))) ≡ 12 = length-pointer_text (pointer_to (first_place after)) in
    let kept = chunk_beside (f.place + 16) (pointer_text (pointer_to (first_place after))) old new w (omega (arith, twelve)) b (first_place (bs ++ f ∷ g ∷ after))
    (subst (λ n. MeetsNone (f.place + 16) n (b ∷ [])) (sym twelve) (one_meets (f.place + 16) 12 b bs apart_before)) t.0 in (
      subst (λ next. SpellsFree (field new b.place b.length) b.place b.length next) (first_of bs f (g ∷ after) after) kept,
      threads_unlinked bs f g after old new reach w (rest_meets (f.place + 16) 12 b bs apart_before) apart_after t.1,
    )

-- a chunk of a list is spelled, and points to the one behind it
pub threaded_at : (bytes : List ℕ) (before : List Extent) (f : Extent) (after : List Extent) → IsThreaded bytes (before ++ f ∷ after) → SpellsFree (field bytes f.place f.length) f.place f.length (first_place after)
threaded_at bytes [] f after t = t.0
threaded_at bytes (b ∷ bs) f after t = threaded_at bytes bs f after t.1

pub threads_behind : (bytes : List ℕ) (before after : List Extent) → IsThreaded bytes (before ++ after) → IsThreaded bytes after
threads_behind bytes [] after t = t
threads_behind bytes (b ∷ bs) after t = threads_behind bytes bs after t.1

-- ---- all lists

-- the free table says the ends, and each list is threaded
pub record Threading (bytes : List ℕ) (ends : List (Option ℕ × Option ℕ)) (lists : List (List Extent)) : Type 0 where
  pub table : SpellsFreeTable (field bytes FREE_TABLE_PLACE FREE_TABLE_LENGTH) ends
  pub each : (k : ℕ) (fs : List Extent) → slice_get lists k ≡ Some fs → IsThreaded bytes fs

list_meets : (place n : ℕ) (lists : List (List Extent)) (k : ℕ) (fs : List Extent) → slice_get lists k ≡ Some fs → MeetsNone place n (flat lists) → MeetsNone place n fs
list_meets place n lists k fs at none b low high = let le = cover_in b lists k fs at in let z = none b low high in omega (arith, le, z)

pub get_set : (lists : List (List Extent)) (k j : ℕ) (xs ys : List Extent) → slice_get (slice_set lists k xs) j ≡ Some ys → ((j ≡ k) × (xs ≡ ys)) ⊎ ((j ≢ k) × (slice_get lists j ≡ Some ys))
get_set [] k j xs ys h = cc
get_set (l ∷ ls) zero zero xs ys h = inl (refl, cc)
get_set (l ∷ ls) zero (suc j) xs ys h = inr (λ q. omega (arith, q), h)
get_set (l ∷ ls) (suc k) zero xs ys h = inr (λ q. omega (arith, q), h)
get_set (l ∷ ls) (suc k) (suc j) xs ys h = elim (get_set ls k j xs ys h) [ inl r ↦ inl (ap suc r.0, r.1) | inr r ↦ inr (λ q. r.0 (omega (arith, q)), r.1) ]

pub get_other : (lists : List (List Extent)) (k j : ℕ) (xs : List Extent) → j ≢ k → slice_get (slice_set lists k xs) j ≡ slice_get lists j
get_other [] k j xs ne = refl
get_other (l ∷ ls) zero zero xs ne = absurd (ne refl)
get_other (l ∷ ls) zero (suc j) xs ne = refl
get_other (l ∷ ls) (suc k) zero xs ne = refl
get_other (l ∷ ls) (suc k) (suc j) xs ne = get_other ls k j xs (λ h. ne (ap suc h))

-- a write apart from the chunks and the free table leaves all lists
pub threading_beside : (at : ℕ) (text old new : List ℕ) (ends : List (Option ℕ × Option ℕ)) (lists : List (List Extent)) → Writes at text old new → 0 < length text → (at + length text ≤ FREE_TABLE_PLACE) ⊎ (266 ≤ at)
    → MeetsNone at (length text) (flat lists) → Threading old ends lists → Threading new ends lists
threading_beside at text old new ends lists w some apart none t = record {
  table = subst (λ bytes. SpellsFreeTable bytes ends) (sym (field_beside at text old new w FREE_TABLE_PLACE FREE_TABLE_LENGTH (let le = table_within old ends t.table in omega (arith, le)) (side apart))) t.table;
  each = λ k fs e. threads_beside at text old new w some fs (list_meets at (length text) lists k fs e none) (t.each k fs e);
}
  where
    side : (at + length text ≤ FREE_TABLE_PLACE) ⊎ (266 ≤ at) → (FREE_TABLE_PLACE + 80 ≤ at) ⊎ (at + length text ≤ FREE_TABLE_PLACE)
    side (inl h) = inr h
    side (inr h) = inl (omega (arith, h))

-- a list that is part of the one that stood there
pub threading_set : (bytes : List ℕ) (ends : List (Option ℕ × Option ℕ)) (lists : List (List Extent)) (k : ℕ) (xs : List Extent) → IsThreaded bytes xs → Threading bytes ends lists → Threading bytes ends (slice_set lists k xs)
threading_set bytes ends lists k xs x t = record {
  table = t.table;
  each = λ j fs e. elim (get_set lists k j xs fs e) [ inl r ↦ subst (IsThreaded bytes) r.1 x | inr r ↦ t.each j fs r.1 ];
}

-- the two ends of a list in the free table
pub threading_ends : (at : ℕ) (text old new : List ℕ) (ends : List (Option ℕ × Option ℕ)) (lists : List (List Extent)) (k : ℕ) (e : Option ℕ × Option ℕ) → Writes at text old new → length text ≡ 12 → k < 3
    → 190 + 24 * k ≤ at → at + length text ≤ 214 + 24 * k → MeetsNone FREE_TABLE_PLACE FREE_TABLE_LENGTH (flat lists)
    → HasPointer (field new FREE_TABLE_PLACE FREE_TABLE_LENGTH) (4 + 24 * k) e.0 → HasPointer (field new FREE_TABLE_PLACE FREE_TABLE_LENGTH) (16 + 24 * k) e.1 → Threading old ends lists → Threading new (slice_set ends k e) lists
threading_ends at text old new ends lists k e w twelve few low high none first last t = record {
  table = ends_written ends k at e text old new few low high (table_within old ends t.table) w first last t.table;
  each = λ j fs i. threads_beside at text old new w (omega (arith, twelve)) fs (λ b from to. list_meets FREE_TABLE_PLACE FREE_TABLE_LENGTH lists j fs i none b (omega (arith, low, from)) (omega (arith, high, few, to))) (t.each j fs i);
}

-- the pointer to the chunk behind f
pub threading_next : (old new : List ℕ) (ends : List (Option ℕ × Option ℕ)) (lists : List (List Extent)) (k : ℕ) (before : List Extent) (f g : Extent) (after : List Extent)
    → ((b : ℕ) → cover (flat lists) b ≤ 1) → 266 ≤ f.place → IsInReach (first_place after) → slice_get lists k ≡ Some (before ++ f ∷ g ∷ after)
    → Writes (f.place + 16) (pointer_text (pointer_to (first_place after))) old new → Threading old ends lists → Threading new ends (slice_set lists k (before ++ f ∷ after))
threading_next old new ends lists k before f g after once behind reach at w t = record {
  table = subst (λ bytes. SpellsFreeTable bytes ends) (sym (field_beside (f.place + 16) (pointer_text (pointer_to (first_place after))) old new w FREE_TABLE_PLACE FREE_TABLE_LENGTH (let le = table_within old ends t.table in omega (arith, le)) (inl (omega (arith, behind))))) t.table;
  each = λ j fs i. elim (get_set lists k j (before ++ f ∷ after) fs i) [
    | inl r ↦ subst (IsThreaded new) r.1 here
    | inr r ↦ threads_beside (f.place + 16) (pointer_text (pointer_to (first_place after))) old new w (omega (arith, twelve)) fs (subst (λ n. MeetsNone (f.place + 16) n fs) (sym twelve) (others j fs r.0 r.1)) (t.each j fs r.1)
  ];
}
  where
    twelve : length (pointer_text (pointer_to (first_place after))) ≡ 12
    twelve = length-pointer_text (pointer_to (first_place after))

    long : 32 ≤ f.length
    long = (threaded_at old before f (g ∷ after) (t.each k (before ++ f ∷ g ∷ after) at)).long

    held : (b : ℕ) → f.place + 16 ≤ b → b < f.place + 16 + 12 → in_range f.place f.length b ≡ 1
    held b low high = holds_inner f.place f.length b (omega (arith, low)) (omega (arith, high, long))

    inner : (b : ℕ) → f.place + 16 ≤ b → b < f.place + 16 + 12 → cover (before ++ g ∷ after) b ≡ 0
    inner b low high =
        let h = held b low high in
        let s = cover_without b before f (g ∷ after) in
        let o = once b in
        let l = cover_in b lists k (before ++ f ∷ g ∷ after) at in
        omega (arith, h, s, o, l)

    split : (b : ℕ) (xs ys : List Extent) → cover (xs ++ ys) b ≡ 0 → (cover xs b ≡ 0) × (cover ys b ≡ 0)
    split b [] ys z = (refl, z)
    split b (x ∷ xs) ys z = let n = none_holds x (xs ++ ys) b z in let r = split b xs ys n.1 in let r0 : cover xs b ≡ 0 = r.0 in (rw n.0 (omega (arith, r0)), r.1)

    here : IsThreaded new (before ++ f ∷ after)
    here = threads_unlinked before f g after old new reach w (λ b low high. (split b before (g ∷ after) (inner b low high)).0)
        (λ b low high. (none_holds g after b (split b before (g ∷ after) (inner b low high)).1).1) (t.each k (before ++ f ∷ g ∷ after) at)

    others : (j : ℕ) (fs : List Extent) → j ≢ k → slice_get lists j ≡ Some fs → MeetsNone (f.place + 16) 12 fs
    others j fs ne i b low high =
        let h = held b low high in
        let s = cover_without b before f (g ∷ after) in
        let o = once b in
        let all = cover_set b lists k (before ++ f ∷ g ∷ after) [] at in
        let le = cover_in b (slice_set lists k []) j fs (get_other lists k j [] ne ∙ i) in
        omega (arith, h, s, o, all, le)
