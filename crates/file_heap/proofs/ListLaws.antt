-- The lists of free chunks that the bytes thread.
use Rattle.std.proofs.Common.{◌≡◌, ◌⊎◌, inl, inr, ℕ, zero, suc, refl, sym, ◌∙◌, ap, subst, arith, List, [], ◌∷◌, ◌++◌, length, append_assoc, filter, ◌+◌, ◌-◌, ◌*◌, ◌<◌, ◌≤◌, ◌^◌, true, false}
use Rattle.std.proofs.lemmas.Bool.Decides.{leb_tells}
use Rattle.std.specs.Prelude.{nat_le, Option, Some, None, slice_get}
use Rattle.adf_format.specs.declared.fields.TheConstants.{FREE_TABLE_PLACE, FREE_TABLE_LENGTH}
use Rattle.adf_format.specs.RecordFields.{list_first}
use Rattle.adf_format.specs.declared.types.Extent.{Extent}
use Rattle.adf_format.specs.Fields.{field}
use Rattle.adf_format.specs.Pointer.{pointer}
use Rattle.adf_format.specs.Spelled.{IsInReach}
use Rattle.adf_format.specs.Tiles.{cover, is_free}
use Rattle.adf_format.specs.Parts.{HasPointer}
use Rattle.adf_format.specs.LaysOut.{IsThreaded, ThreadsFreeChunks, first_place, last_place, count_of}
use Rattle.adf_format.proofs.HeapLaws.{in_range}
use Rattle.adf_format.proofs.FieldLaws.{inner_field}
use Rattle.file_heap.specs.Links.{Points, AreApart, list_of, lists_of, link_at}
use Rattle.file_heap.proofs.Ranges.{flat, cover_in, cover_without, cover_kinds, count-append, holds_inner, same_cover}
use Rattle.file_heap.proofs.Threads.{Threading, free_within, table_within, threaded_at}

-- ---- the three lists as one

abbrev pub ends_of : List Extent → Option ℕ × Option ℕ
ends_of fs = (first_place fs, last_place fs)

abbrev pub all_ends : {bytes : List ℕ} {gaps : List Extent} → ThreadsFreeChunks bytes gaps → List (Option ℕ × Option ℕ)
all_ends t = ends_of t.small ∷ ends_of t.medium ∷ ends_of t.large ∷ []

module _ (bytes : List ℕ) (gaps : List Extent) (t : ThreadsFreeChunks bytes gaps) where
  pub threading : Threading bytes (all_ends t) (lists_of t)
  threading = record { table = t.table; each = λ k fs e. each k fs e }
    where
      same : (a b : List Extent) → ◌≡◌ {A = Option (List Extent)} (Some a) (Some b) → a ≡ b
      same a b e = cc

      each : (k : ℕ) (fs : List Extent) → slice_get (lists_of t) k ≡ Some fs → IsThreaded bytes fs
      each zero fs e = subst (IsThreaded bytes) (same t.small fs e) t.each.0
      each (suc zero) fs e = subst (IsThreaded bytes) (same t.medium fs e) t.each.1
      each (suc (suc zero)) fs e = subst (IsThreaded bytes) (same t.large fs e) t.each.2
      each (suc (suc (suc k))) fs e = cc

  pub list_is : (k : ℕ) → k < 3 → slice_get (lists_of t) k ≡ Some (list_of t k)
  list_is zero lt = refl
  list_is (suc zero) lt = refl
  list_is (suc (suc zero)) lt = refl
  list_is (suc (suc (suc k))) lt = absurd (omega (arith, lt))

  pub ends_are : (k : ℕ) → k < 3 → slice_get (all_ends t) k ≡ Some (ends_of (list_of t k))
  ends_are zero lt = refl
  ends_are (suc zero) lt = refl
  ends_are (suc (suc zero)) lt = refl
  ends_are (suc (suc (suc k))) lt = absurd (omega (arith, lt))

  -- together the lists have the ranges of the free chunks
  pub same_ranges : (place n : ℕ) → count_of place n (flat (lists_of t)) ≡ count_of place n (filter is_free gaps)
  same_ranges place n =
      count-append place n t.small (t.medium ++ (t.large ++ [])) ∙ ap (λ k. count_of place n t.small + k) (count-append place n t.medium (t.large ++ []) ∙ ap (λ k. count_of place n t.medium + k) (count-append place n t.large []))
      ∙ plain (count_of place n t.small) (count_of place n t.medium) (count_of place n t.large)
      ∙ sym (count-append place n (t.small ++ t.medium) t.large ∙ ap (λ k. k + count_of place n t.large) (count-append place n t.small t.medium)) ∙ t.all place n
    where
      plain : (a b c : ℕ) → a + (b + (c + 0)) ≡ a + b + c
      plain a b c = omega arith

  pub lists_cover : (b : ℕ) → cover (flat (lists_of t)) b ≤ cover gaps b
  lists_cover b = let s = same_cover (flat (lists_of t)) (filter is_free gaps) same_ranges b in let k = cover_kinds b gaps in omega (arith, s, k)

  pub list_threaded : (k : ℕ) → k < 3 → IsThreaded bytes (list_of t k)
  list_threaded k lt = threading.each k (list_of t k) (list_is k lt)

  module _ (apart : AreApart gaps) where
    -- a chunk of a list stands behind the free table and below the greatest place
    pub chunk_stands : (k : ℕ) (before : List Extent) (f : Extent) (after : List Extent) → k < 3 → list_of t k ≡ before ++ f ∷ after → (266 ≤ f.place) × (f.place + f.length ≤ 2 ^ 44) × (32 ≤ f.length)
    chunk_stands k before f after lt is = (behind (leb_tells 266 f.place), below (leb_tells (f.place + f.length) (2 ^ 44)), long)
      where
        long : 32 ≤ f.length
        long = (threaded_at bytes before f after (subst (IsThreaded bytes) is (list_threaded k lt))).long

        covered : (b : ℕ) → f.place ≤ b → b < f.place + f.length → 0 < cover gaps b
        covered b low high =
            let h : in_range f.place f.length b ≡ 1 = holds_inner f.place f.length b low high in
            let s : cover (list_of t k) b ≡ in_range f.place f.length b + cover (before ++ after) b = ap (λ xs. cover xs b) is ∙ cover_without b before f after in
            let l = cover_in b (lists_of t) k (list_of t k) (list_is k lt) in
            let m = lists_cover b in omega (arith, h, s, l, m)

        behind : ((nat_le 266 f.place ≡ true) × (266 ≤ f.place)) ⊎ ((nat_le 266 f.place ≡ false) × (f.place < 266)) → 266 ≤ f.place
        behind (inl h) = h.1
        behind (inr h) = let c = covered f.place (omega arith) (omega (arith, long)) in let z = apart.low f.place h.1 in absurd (omega (arith, c, z))

        below : ((nat_le (f.place + f.length) (2 ^ 44) ≡ true) × (f.place + f.length ≤ 2 ^ 44)) ⊎ ((nat_le (f.place + f.length) (2 ^ 44) ≡ false) × (2 ^ 44 < f.place + f.length)) → f.place + f.length ≤ 2 ^ 44
        below (inl h) = h.1
        below (inr h) = by_last (f.place + f.length - 1) (omega (arith, long)) h.1
          where
            by_last : (b : ℕ) → b + 1 ≡ f.place + f.length → 2 ^ 44 < f.place + f.length → f.place + f.length ≤ 2 ^ 44
            by_last b e gt = let c = covered b (omega (arith, e, long)) (omega (arith, e)) in let z = apart.high b (omega (arith, e, gt)) in absurd (omega (arith, c, z))

    pub first_in_reach : (k : ℕ) (before after : List Extent) → k < 3 → list_of t k ≡ before ++ after → IsInReach (first_place after)
    first_in_reach k before [] lt is = tt
    first_in_reach k before (f ∷ after) lt is = let s = chunk_stands k before f after lt is in let le : f.place + f.length ≤ 2 ^ 44 = s.1 in let long : 32 ≤ f.length = s.2 in omega (arith, le, long)

-- ---- the pointers of a list

has_pointer : (xs ys : List ℕ) (o p : ℕ) (next : Option ℕ) → field xs o 12 ≡ field ys p 12 → HasPointer ys p next → HasPointer xs o next
has_pointer xs ys o p None e h = ap pointer e ∙ h
has_pointer xs ys o p (Some place) e h = ap pointer e ∙ h

-- the last of some chunks
pub record EndsWith (fs : List Extent) (place : ℕ) : Type 0 where
  pub before : List Extent
  pub chunk : Extent
  pub is : fs ≡ before ++ chunk ∷ []
  pub here : chunk.place ≡ place

pub some_same : (a b : ℕ) → ◌≡◌ {A = Option ℕ} (Some a) (Some b) → a ≡ b
some_same a b e = cc

pub ends_with : (fs : List Extent) (place : ℕ) → Some place ≡ last_place fs → EndsWith fs place
ends_with [] place e = cc
ends_with (f ∷ []) place e = record { before = []; chunk = f; is = refl; here = sym (some_same place f.place e) }
ends_with (f ∷ g ∷ gs) place e = let r = ends_with (g ∷ gs) place e in record { before = f ∷ r.before; chunk = r.chunk; is = ap (λ xs. f ∷ xs) r.is; here = r.here }

pub ends_nowhere : (fs : List Extent) → None ≡ last_place fs → fs ≡ []
ends_nowhere [] e = refl
ends_nowhere (f ∷ []) e = cc
ends_nowhere (f ∷ g ∷ gs) e = absurd (none (f ∷ g ∷ gs) f (g ∷ gs) refl e)
  where
    none : (fs : List Extent) (f : Extent) (gs : List Extent) → fs ≡ f ∷ gs → None ≡ last_place fs → ⊥
    none [] f gs e h = cc
    none (x ∷ []) f gs e h = cc
    none (x ∷ y ∷ ys) f gs e h = none (y ∷ ys) y ys refl h

module _ (bytes : List ℕ) (gaps : List Extent) (t : ThreadsFreeChunks bytes gaps) where
  -- the pointer in the free table, or behind the chunk in front, names what comes next
  pub link_says : (k : ℕ) (before after : List Extent) (front : Option ℕ) → k < 3 → list_of t k ≡ before ++ after → front ≡ last_place before → Points bytes (link_at k front) (first_place after)
  link_says k before after None lt is e =
      let none : before ≡ [] = ends_nowhere before e in
      let first : list_of t k ≡ after = is ∙ ap (λ xs. xs ++ after) none in
      let said : HasPointer (field bytes FREE_TABLE_PLACE FREE_TABLE_LENGTH) (4 + 24 * k) (first_place (list_of t k)) = (t.table.lists k (ends_of (list_of t k)) (ends_are bytes gaps t k lt)).0 in
      let within = table_within bytes (all_ends t) t.table in
      record {
        within = omega (arith, within, lt);
        says = subst (λ xs. HasPointer bytes (list_first FREE_TABLE_PLACE k).offset (first_place xs)) first
            (has_pointer bytes (field bytes FREE_TABLE_PLACE FREE_TABLE_LENGTH) (list_first FREE_TABLE_PLACE k).offset (4 + 24 * k) (first_place (list_of t k)) (ap (λ o. field bytes o 12) (shift k) ∙ sym (inner_field bytes FREE_TABLE_PLACE FREE_TABLE_LENGTH (4 + 24 * k) 12 (omega (arith, lt)))) said);
      }
    where
      shift : (k : ℕ) → 190 + 24 * k ≡ FREE_TABLE_PLACE + (4 + 24 * k)
      shift k = omega arith
  link_says k before after (Some front) lt is e =
      let w : EndsWith before front = ends_with before front e in
      let whole : list_of t k ≡ w.before ++ w.chunk ∷ after = is ∙ ap (λ xs. xs ++ after) w.is ∙ append_assoc w.before (w.chunk ∷ []) after in
      let spelled = threaded_at bytes w.before w.chunk after (subst (IsThreaded bytes) whole (list_threaded bytes gaps t k lt)) in
      let within = free_within bytes w.chunk.place w.chunk.length (first_place after) spelled in
      let long : 32 ≤ w.chunk.length = spelled.long in
      let at : w.chunk.place ≡ front = w.here in
      record {
        within = omega (arith, within, long, at);
        says = has_pointer bytes (field bytes w.chunk.place w.chunk.length) (front + 16) 16 (first_place after)
            (ap (λ p. field bytes (p + 16) 12) (sym at) ∙ sym (inner_field bytes w.chunk.place w.chunk.length 16 12 (omega (arith, long)))) spelled.next_pointer;
      }

pub last_added : (fs : List Extent) (f : Extent) → last_place (fs ++ f ∷ []) ≡ Some f.place
last_added [] f = refl
last_added (g ∷ []) f = refl
last_added (g ∷ h ∷ hs) f = last_added (h ∷ hs) f
