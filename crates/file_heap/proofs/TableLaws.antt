-- The ends of the lists in the free table, and the lists after a write of one of them.
use Rattle.std.proofs.Common.{◌≡◌, ◌⊎◌, inl, inr, ℕ, zero, suc, refl, sym, ◌∙◌, ap, subst, arith, List, [], ◌∷◌, ◌++◌, length, map, filter, ◌+◌, ◌*◌, ◌<◌, ◌≤◌}
use Rattle.std.specs.Prelude.{Option, Some, None, slice_get, slice_set}
use Rattle.adf_format.specs.declared.fields.TheConstants.{FREE_TABLE_PLACE, FREE_TABLE_LENGTH}
use Rattle.adf_format.specs.RecordFields.{list_first, list_last}
use Rattle.adf_format.specs.declared.types.Extent.{Extent}
use Rattle.adf_format.specs.Fields.{field}
use Rattle.adf_format.specs.Pointer.{pointer, pointer_text}
use Rattle.adf_format.specs.Spelled.{pointer_to, IsInReach}
use Rattle.adf_format.specs.Tiles.{MeetsNone, is_free}
use Rattle.adf_format.specs.Parts.{HasPointer}
use Rattle.adf_format.specs.LaysOut.{first_place, last_place, count_of}
use Rattle.adf_format.specs.Changes.{Writes}
use Rattle.adf_format.proofs.FieldLaws.{field_beside, inner_field}
use Rattle.adf_format.proofs.SpelledParts.{says_pointer, length-pointer_text}
use Rattle.file_heap.specs.Links.{EndsList, ThreadsThese}
use Rattle.file_heap.proofs.Ranges.{flat, count-append}
use Rattle.file_heap.proofs.Threads.{Threading, table_within, threading_ends}
use Rattle.file_heap.proofs.ListLaws.{ends_of}

-- ---- lists of pairs

abbrev Ends : Type 0
Ends = Option ℕ × Option ℕ

pub set_same : (xs : List Ends) (k : ℕ) (x : Ends) → slice_get xs k ≡ Some x → slice_set xs k x ≡ xs
set_same [] k x e = cc
set_same (y ∷ ys) zero x e = cc
set_same (y ∷ ys) (suc k) x e = ap (λ zs. y ∷ zs) (set_same ys k x e)

pub set_twice : (xs : List Ends) (k : ℕ) (x y : Ends) → slice_set (slice_set xs k x) k y ≡ slice_set xs k y
set_twice [] k x y = refl
set_twice (z ∷ zs) zero x y = refl
set_twice (z ∷ zs) (suc k) x y = ap (λ ws. z ∷ ws) (set_twice zs k x y)

pub get_same : (xs : List Ends) (k : ℕ) (x y : Ends) → slice_get xs k ≡ Some x → slice_get (slice_set xs k y) k ≡ Some y
get_same [] k x y e = cc
get_same (z ∷ zs) zero x y e = refl
get_same (z ∷ zs) (suc k) x y e = get_same zs k x y e

pub ends_set : (lists : List (List Extent)) (k : ℕ) (fs : List Extent) → slice_set (map ends_of lists) k (ends_of fs) ≡ map ends_of (slice_set lists k fs)
ends_set [] k fs = refl
ends_set (l ∷ ls) zero fs = refl
ends_set (l ∷ ls) (suc k) fs = ap (λ xs. ends_of l ∷ xs) (ends_set ls k fs)

pub length_lists : (lists : List (List Extent)) (k : ℕ) (fs : List Extent) → length (slice_set lists k fs) ≡ length lists
length_lists [] k fs = refl
length_lists (l ∷ ls) zero fs = refl
length_lists (l ∷ ls) (suc k) fs = ap suc (length_lists ls k fs)

-- ---- one pointer of the table

module _ (k : ℕ) (few : k < 3) (p : Option ℕ) (reach : IsInReach p) (old new : List ℕ) (ends : List Ends) (lists : List (List Extent)) (a z : Option ℕ) (here : slice_get ends k ≡ Some (a, z)) (none : MeetsNone FREE_TABLE_PLACE FREE_TABLE_LENGTH (flat lists)) where
  twelve : length (pointer_text (pointer_to p)) ≡ 12
  twelve = length-pointer_text (pointer_to p)

  written : (at o : ℕ) → at ≡ FREE_TABLE_PLACE + o → o + 12 ≤ 80 → Writes at (pointer_text (pointer_to p)) old new → HasPointer (field new FREE_TABLE_PLACE FREE_TABLE_LENGTH) o p
  written at o e le w = says_pointer p (field new FREE_TABLE_PLACE FREE_TABLE_LENGTH) o reach
      (inner_field new FREE_TABLE_PLACE FREE_TABLE_LENGTH o 12 le ∙ ap (λ b. field new b 12) (sym e) ∙ ap (field new at) (sym twelve) ∙ w.stands)

  kept : (at o : ℕ) (q : Option ℕ) → Writes at (pointer_text (pointer_to p)) old new → 266 ≤ length old → o + 12 ≤ 80 → (FREE_TABLE_PLACE + o + 12 ≤ at) ⊎ (at + 12 ≤ FREE_TABLE_PLACE + o) → HasPointer (field old FREE_TABLE_PLACE FREE_TABLE_LENGTH) o q → HasPointer (field new FREE_TABLE_PLACE FREE_TABLE_LENGTH) o q
  kept at o q w long le apart h = by_place q h
    where
      same : field (field new FREE_TABLE_PLACE FREE_TABLE_LENGTH) o 12 ≡ field (field old FREE_TABLE_PLACE FREE_TABLE_LENGTH) o 12
      same = inner_field new FREE_TABLE_PLACE FREE_TABLE_LENGTH o 12 le ∙ field_beside at (pointer_text (pointer_to p)) old new w (FREE_TABLE_PLACE + o) 12 (omega (arith, long, le)) (side apart) ∙ sym (inner_field old FREE_TABLE_PLACE FREE_TABLE_LENGTH o 12 le)
        where
          side : (FREE_TABLE_PLACE + o + 12 ≤ at) ⊎ (at + 12 ≤ FREE_TABLE_PLACE + o) → (FREE_TABLE_PLACE + o + 12 ≤ at) ⊎ (at + length (pointer_text (pointer_to p)) ≤ FREE_TABLE_PLACE + o)
          side (inl h) = inl h
          side (inr h) = inr (omega (arith, h, twelve))

      by_place : (q : Option ℕ) → HasPointer (field old FREE_TABLE_PLACE FREE_TABLE_LENGTH) o q → HasPointer (field new FREE_TABLE_PLACE FREE_TABLE_LENGTH) o q
      by_place None h = ap pointer same ∙ h
      by_place (Some place) h = ap pointer same ∙ h

  pub first_written : Writes (list_first FREE_TABLE_PLACE k).offset (pointer_text (pointer_to p)) old new → Threading old ends lists → Threading new (slice_set ends k (p, z)) lists
  first_written w t =
      let said = t.table.lists k (a, z) here in
      threading_ends (list_first FREE_TABLE_PLACE k).offset (pointer_text (pointer_to p)) old new ends lists k (p, z) w twelve few (omega arith) (omega (arith, twelve)) none
      (written (list_first FREE_TABLE_PLACE k).offset (4 + 24 * k) (omega arith) (omega (arith, few)) w)
      (kept (list_first FREE_TABLE_PLACE k).offset (16 + 24 * k) z w (table_within old ends t.table) (omega (arith, few)) (inr (omega arith)) said.1) t

  pub last_written : Writes (list_last FREE_TABLE_PLACE k).offset (pointer_text (pointer_to p)) old new → Threading old ends lists → Threading new (slice_set ends k (a, p)) lists
  last_written w t =
      let said = t.table.lists k (a, z) here in
      threading_ends (list_last FREE_TABLE_PLACE k).offset (pointer_text (pointer_to p)) old new ends lists k (a, p) w twelve few (omega arith) (omega (arith, twelve)) none
      (kept (list_last FREE_TABLE_PLACE k).offset (4 + 24 * k) a w (table_within old ends t.table) (omega (arith, few)) (inl (omega arith)) said.0)
      (written (list_last FREE_TABLE_PLACE k).offset (16 + 24 * k) (omega arith) (omega (arith, few)) w) t

-- the last of a list, where it is written over if nothing is behind
abbrev pub last_after : Option ℕ → Option ℕ → Option ℕ → Option ℕ
last_after None last was = last
last_after (Some next) last was = was

pub end_written : (k : ℕ) (behind last : Option ℕ) (old new : List ℕ) (ends : List Ends) (lists : List (List Extent)) (a z : Option ℕ) → k < 3 → IsInReach last → slice_get ends k ≡ Some (a, z) → MeetsNone FREE_TABLE_PLACE FREE_TABLE_LENGTH (flat lists)
    → EndsList k behind last old new → Threading old ends lists → Threading new (slice_set ends k (a, last_after behind last z)) lists
end_written k None last old new ends lists a z few reach here none w t = last_written k few last reach old new ends lists a z here none w t
end_written k (Some next) last old new ends lists a z few reach here none e t =
    subst (λ bytes. Threading bytes (slice_set ends k (a, z)) lists) (sym e) (subst (λ xs. Threading old xs lists) (sym (set_same ends k (a, z) here)) t)

-- ---- back to the three lists

pub of_threading : (bytes : List ℕ) (gaps : List Extent) (lists : List (List Extent)) → length lists ≡ 3 → Threading bytes (map ends_of lists) lists → ((place n : ℕ) → count_of place n (flat lists) ≡ count_of place n (filter is_free gaps)) → ThreadsThese bytes gaps lists
of_threading bytes gaps [] three t same = absurd (omega (arith, three))
of_threading bytes gaps (a ∷ []) three t same = absurd (omega (arith, three))
of_threading bytes gaps (a ∷ b ∷ []) three t same = absurd (omega (arith, three))
of_threading bytes gaps (a ∷ b ∷ c ∷ []) three t same = record {
  threads = record {
    small = a;
    medium = b;
    large = c;
    table = t.table;
    each = (t.each 0 a refl, t.each 1 b refl, t.each 2 c refl);
    all = λ place n.
        count-append place n (a ++ b) c ∙ ap (λ k. k + count_of place n c) (count-append place n a b) ∙ plain (count_of place n a) (count_of place n b) (count_of place n c)
        ∙ sym (count-append place n a (b ++ (c ++ [])) ∙ ap (λ k. count_of place n a + k) (count-append place n b (c ++ []) ∙ ap (λ k. count_of place n b + k) (count-append place n c []))) ∙ same place n;
  };
  are = λ k lt. refl;
}
  where
    plain : (a b c : ℕ) → a + b + c ≡ a + (b + (c + 0))
    plain a b c = omega arith
of_threading bytes gaps (a ∷ b ∷ c ∷ d ∷ ds) three t same = absurd (omega (arith, three))

-- ---- the ends of a list without one of its chunks

pub last_of_rest : (c : Extent) (after : List Extent) → last_after (first_place after) None (last_place (c ∷ after)) ≡ last_place after
last_of_rest c [] = refl
last_of_rest c (a ∷ rest) = refl

last_skip : (b : Extent) (bs : List Extent) (f : Extent) (xs : List Extent) → last_place (b ∷ (bs ++ f ∷ xs)) ≡ last_place (bs ++ f ∷ xs)
last_skip b [] f xs = refl
last_skip b (c ∷ cs) f xs = refl

last_here : (before : List Extent) (f : Extent) → last_place (before ++ f ∷ []) ≡ Some f.place
last_here [] f = refl
last_here (b ∷ bs) f = last_skip b bs f [] ∙ last_here bs f

last_without : (before : List Extent) (f g h : Extent) (hs : List Extent) → last_place (before ++ f ∷ g ∷ h ∷ hs) ≡ last_place (before ++ f ∷ h ∷ hs)
last_without [] f g h hs = refl
last_without (b ∷ bs) f g h hs = last_skip b bs f (g ∷ h ∷ hs) ∙ last_without bs f g h hs ∙ sym (last_skip b bs f (h ∷ hs))

pub last_of_joined : (before : List Extent) (f c : Extent) (after : List Extent) → last_after (first_place after) (Some f.place) (last_place (before ++ f ∷ c ∷ after)) ≡ last_place (before ++ f ∷ after)
last_of_joined before f c [] = sym (last_here before f)
last_of_joined before f c (a ∷ rest) = last_without before f c a rest
