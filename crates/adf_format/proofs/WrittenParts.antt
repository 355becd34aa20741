-- A part that is written whole is held there, and a part in which a field is written holds the rest as before.
use Rattle.std.proofs.Common.{◌≡◌, ◌≢◌, ◌⊎◌, inl, inr, ℕ, zero, suc, refl, sym, ◌∙◌, ap, subst, arith, List, [], ◌∷◌, ◌++◌, length, replicate, length-append, ◌+◌, ◌-◌, ◌*◌, ◌^◌, ◌<◌, ◌≤◌, Bool, true, false}
use Rattle.std.proofs.lemmas.Bool.Decides.{nat_tests, leb_tells, eqb_tells}
use Rattle.std.proofs.lemmas.List.{length-replicate}
use Rattle.std.proofs.lemmas.Option.{slice_get_within}
use Rattle.std.specs.Prelude.{Option, Some, None, slice_get, slice_set, slice_index_or, IsTrue, codes}
use Rattle.std.specs.List.{Contains}
use Rattle.adf_format.specs.declared.types.Extent.{Extent}
use Rattle.adf_format.specs.declared.types.Format.{Format}
use Rattle.adf_format.specs.Hex.{is_hex}
use Rattle.adf_format.specs.Pointer.{To, pointer, pointer_text}
use Rattle.adf_format.specs.Fields.{field, text_field}
use Rattle.adf_format.specs.Tiles.{cover, holds_byte, end_of}
use Rattle.adf_format.specs.Parts.{NodeFields, SpellsHeader, SpellsFreeTable, SpellsNode, IsFramed, SpellsTable, SpellsEntry, SpellsChunk, SpellsChunkTable, SpellsChunkEntry, SpellsFree, IsFiller, HasPointer, node_length, table_length, chunk_table_length, payload}
use Rattle.adf_format.specs.Records.{HeaderRecord, NodeRecord, SubNodes, Data, Chunks, Free, entry_text, chunk_entry_text, header_text, free_table_text, node_text}
use Rattle.adf_format.specs.Spelled.{pointer_to, IsInReach, AllWide, SaysHeader, SaysNode, AreInReach, list_pointers, in_row, framed_text}
use Rattle.adf_format.specs.Changes.{KeepsBut, Writes}
use Rattle.adf_format.proofs.HexLaws.{pointer-pointer_text}
use Rattle.adf_format.proofs.CountLaws.{none_holds}
use Rattle.adf_format.proofs.FieldLaws.{length-field, field_left, field_right, field_whole, field_written, field_beside, field_around, length-in_row}
use Rattle.adf_format.proofs.SpelledParts.{header_says, header_long, free_table_says, node_says, node_long, framed_long, framed_body, table_says_entries, chunk_table_says, entry_says, chunk_entry_says, chunk_says, free_says, spells_filler, says_pointer, length-pointer_text}

below_or : (a b : ℕ) → (a < b) ⊎ (b ≤ a)
below_or a b = elim (leb_tells (suc a) b) [ inl h ↦ inl h.1 | inr h ↦ inr (omega (arith, h.1)) ]

same_or : (a b : ℕ) → (a ≡ b) ⊎ (a ≢ b)
same_or a b = elim (eqb_tells a b) [ inl h ↦ inl h.1 | inr h ↦ inr h.1 ]

-- ---- what a write keeps

holds_none : (xs : List Extent) (k : ℕ) (e : Extent) (b : ℕ) → k < length xs → slice_index_or xs k e ≡ e → cover xs b ≡ 0 → holds_byte e b ≡ false
holds_none [] k e b lt at none = absurd (omega (arith, lt))
holds_none (x ∷ xs) zero e b lt at none = ap (λ (y : Extent). holds_byte y b) (sym at) ∙ (none_holds x xs b none).0
holds_none (x ∷ xs) (suc k) e b lt at none = holds_none xs k e b (omega (arith, lt)) at (none_holds x xs b none).1

-- a write within one of the ranges keeps all but these
pub writes_keep : (place : ℕ) (text old new : List ℕ) (ranges : List Extent) (e : Extent) (end : ℕ) → Writes place text old new → Contains ranges e → e.place ≤ place → place + length text ≤ end_of e → end < length old → KeepsBut ranges end old new
writes_keep place text old new ranges e end w c low high within b le none =
    w.others b (omega (arith, le, within)) (apart (below_or b place))
  where
    out : holds_byte e b ≡ false
    out = holds_none ranges c.0 e b c.1 c.2 none

    apart : (b < place) ⊎ (place ≤ b) → (b < place) ⊎ (place + length text ≤ b)
    apart (inl h) = inl h
    apart (inr h) = behind (below_or b (place + length text))
      where
        held : b < place + length text → holds_byte e b ≡ true
        held lt = grind (arith, nat_tests)

        behind : (b < place + length text) ⊎ (place + length text ≤ b) → (b < place) ⊎ (place + length text ≤ b)
        behind (inl lt) = clash (holds_byte e b) (held lt) out
          where
            clash : {P : Type 0} (t : Bool) → t ≡ true → t ≡ false → P
            clash t p q = cc
        behind (inr ge) = inr ge

-- ---- a part that is written whole

stands_at : (place n : ℕ) (text old new : List ℕ) → Writes place text old new → length text ≡ n → field new place n ≡ text
stands_at place n text old new w e = ap (field new place) (sym e) ∙ w.stands

pub header_written : (h : HeaderRecord) (wide : Bool) (format : Format) (root end : ℕ) (old new : List ℕ) → SaysHeader h wide format root end → Writes 0 (header_text h) old new → SpellsHeader (field new 0 186) wide format root end
header_written h wide format root end old new s w = subst (λ bytes. SpellsHeader bytes wide format root end) (sym (stands_at 0 186 (header_text h) old new w (header_long h wide format root end s))) (header_says h wide format root end s)

pub free_table_written : (ends : List (Option ℕ × Option ℕ)) (old new : List ℕ) → length ends ≡ 3 → AreInReach ends → Writes 186 (free_table_text (list_pointers ends)) old new → SpellsFreeTable (field new 186 80) ends
free_table_written ends old new three near w =
    let says = free_table_says ends three near in
    subst (λ bytes. SpellsFreeTable bytes ends) (sym (stands_at 186 80 (free_table_text (list_pointers ends)) old new w says.1)) says.0

pub node_written : (wide : Bool) (r : NodeRecord) (node : NodeFields) (place : ℕ) (old new : List ℕ) → SaysNode wide r node → Writes place (node_text r) old new → SpellsNode wide (field new place (node_length wide)) node
node_written wide r node place old new s w = subst (λ bytes. SpellsNode wide bytes node) (sym (stands_at place (node_length wide) (node_text r) old new w (node_long wide r node s))) (node_says wide r node s)

pub table_written : (place : ℕ) (entries : List (List ℕ)) (old new : List ℕ) → AllWide 44 entries → place + table_length (length entries) ≤ 2 ^ 44 → Writes place (framed_text SubNodes place (in_row entries)) old new
    → SpellsTable (field new place (table_length (length entries))) place (length entries)
    × ((i child : ℕ) (name : List ℕ) → child < 2 ^ 44 → length name ≤ 32 → slice_get entries i ≡ Some (entry_text (text_field 32 name) (To child)) → SpellsEntry (field new place (table_length (length entries))) i name child)
table_written place entries old new all near w =
    let rows : length (in_row entries) ≡ 44 * length entries = length-in_row 44 entries all in
    let long : length (framed_text SubNodes place (in_row entries)) ≡ table_length (length entries) = framed_long SubNodes place (in_row entries) ∙ ap (λ n. 20 + n) rows in
    let there : field new place (table_length (length entries)) ≡ framed_text SubNodes place (in_row entries) = stands_at place (table_length (length entries)) (framed_text SubNodes place (in_row entries)) old new w long in (
      subst (λ bytes. SpellsTable bytes place (length entries)) (sym there) (table_says_entries place entries (omega (arith, near, rows)) all),
      λ i child name reach short at. subst (λ bytes. SpellsEntry bytes i name child) (sym there) (entry_says place entries i child name all reach short at),
    )

pub chunk_table_written : (place : ℕ) (entries : List (List ℕ)) (old new : List ℕ) → AllWide 24 entries → place + chunk_table_length (length entries) ≤ 2 ^ 44 → Writes place (framed_text Chunks place (in_row entries)) old new
    → SpellsChunkTable (field new place (chunk_table_length (length entries))) place (length entries)
    × ((i start size : ℕ) → start + size ≤ 2 ^ 44 → 4 ≤ size → slice_get entries i ≡ Some (chunk_entry_text (To start) (To (start + size - 4))) → SpellsChunkEntry (field new place (chunk_table_length (length entries))) i start size)
chunk_table_written place entries old new all near w =
    let rows : length (in_row entries) ≡ 24 * length entries = length-in_row 24 entries all in
    let long : length (framed_text Chunks place (in_row entries)) ≡ chunk_table_length (length entries) = framed_long Chunks place (in_row entries) ∙ ap (λ n. 20 + n) rows in
    let there : field new place (chunk_table_length (length entries)) ≡ framed_text Chunks place (in_row entries) = stands_at place (chunk_table_length (length entries)) (framed_text Chunks place (in_row entries)) old new w long in (
      subst (λ bytes. SpellsChunkTable bytes place (length entries)) (sym there) (chunk_table_says place entries (omega (arith, near, rows)) all),
      λ i start size reach long at. subst (λ bytes. SpellsChunkEntry bytes i start size) (sym there) (chunk_entry_says place entries i start size all reach long at),
    )

pub chunk_written : (place : ℕ) (body old new : List ℕ) → 1 ≤ length body → place + 20 + length body ≤ 2 ^ 44 → Writes place (framed_text Data place body) old new
    → SpellsChunk (field new place (20 + length body)) place (20 + length body) × (payload new place (20 + length body) ≡ body)
chunk_written place body old new some near w =
    let long : length (framed_text Data place body) ≡ 20 + length body = framed_long Data place body in
    let there : field new place (20 + length body) ≡ framed_text Data place body = stands_at place (20 + length body) (framed_text Data place body) old new w long in
    let back : 20 + length body - 20 ≡ length body = omega arith in (
      subst (λ bytes. SpellsChunk bytes place (20 + length body)) (sym there) (chunk_says place body some near),
      ap (field new (place + 16)) back ∙ field_written place (framed_text Data place body) old new w 16 (length body) (omega (arith, long)) ∙ framed_body Data place body 16 0 (length body) refl (omega arith) ∙ field_whole body (length body) refl,
    )

pub free_written : (place : ℕ) (next : Option ℕ) (rest old new : List ℕ) → IsInReach next → place + 32 + length rest ≤ 2 ^ 44 → Writes place (framed_text Free place (pointer_text (pointer_to next) ++ rest)) old new
    → SpellsFree (field new place (32 + length rest)) place (32 + length rest) next
free_written place next rest old new reach near w =
    subst (λ bytes. SpellsFree bytes place (32 + length rest) next) (sym (stands_at place (32 + length rest) (framed_text Free place (pointer_text (pointer_to next) ++ rest)) old new w long)) (free_says place next rest reach near)
  where
    long : length (framed_text Free place (pointer_text (pointer_to next) ++ rest)) ≡ 32 + length rest
    long = framed_long Free place (pointer_text (pointer_to next) ++ rest) ∙ ap (λ n. 20 + n) (length-append (pointer_text (pointer_to next)) rest ∙ ap (λ n. n + length rest) (length-pointer_text (pointer_to next))) ∙ omega arith

pub filler_written : (place n : ℕ) (old new : List ℕ) → Writes place (replicate n 122) old new → IsFiller (field new place n)
filler_written place n old new w = subst IsFiller (sym (stands_at place n (replicate n 122) old new w (length-replicate n 122))) (spells_filler n)

-- ---- a part in which a field is written

-- the bytes of a part after a write in it
abbrev PartWrite : ℕ → ℕ → ℕ → List ℕ → List ℕ → List ℕ → Type 0
PartWrite at k n text old new = Writes k text (field old at n) (field new at n) × (length (field old at n) ≡ n)

part_write : (place at k n : ℕ) (text old new : List ℕ) → Writes place text old new → place ≡ at + k → k + length text ≤ n → at + n ≤ length old → PartWrite at k n text old new
part_write place at k n text old new w e fits within =
    (field_around place text old new w at k n e fits within, (let long = length-field old at n in omega (arith, long, within)))

module _ (at k n : ℕ) (text old new : List ℕ) (w : PartWrite at k n text old new) where
  -- a field of the part beside what was written
  stays : (o m : ℕ) → o + m ≤ n → (o + m ≤ k) ⊎ (k + length text ≤ o) → field (field new at n) o m ≡ field (field old at n) o m
  stays o m inside apart = field_beside k text (field old at n) (field new at n) w.0 o m (let long = w.1 in omega (arith, long, inside)) apart

  framed_stays : (place : ℕ) (opening closing : List ℕ) → 16 ≤ k → k + length text + 4 ≤ n → IsFramed (field old at n) place n opening closing → IsFramed (field new at n) place n opening closing
  framed_stays place opening closing low high f = record {
    start_tag = stays 0 4 (omega (arith, low, high)) (inl (omega (arith, low))) ∙ f.start_tag;
    end_pointer = ap pointer (stays 4 12 (omega (arith, low, high)) (inl (omega (arith, low)))) ∙ f.end_pointer;
    end_tag = stays (n - 4) 4 (omega (arith, high)) (inr (omega (arith, high))) ∙ f.end_tag;
  }

  pointer_stays : (o : ℕ) (e : Option ℕ) → o + 12 ≤ n → (o + 12 ≤ k) ⊎ (k + length text ≤ o) → HasPointer (field old at n) o e → HasPointer (field new at n) o e
  pointer_stays o None inside apart h = ap pointer (stays o 12 inside apart) ∙ h
  pointer_stays o (Some place) inside apart h = ap pointer (stays o 12 inside apart) ∙ h

-- the recorded end
pub end_written : (wide : Bool) (format : Format) (root end last : ℕ) (old new : List ℕ) → last < 2 ^ 44 → 186 ≤ length old → Writes 146 (pointer_text (To last)) old new
    → SpellsHeader (field old 0 186) wide format root end → SpellsHeader (field new 0 186) wide format root last
end_written wide format root end last old new near within w s =
    record {
      what = keep 0 25 (omega arith) (inl (omega arith)) ∙ s.what;
      letter = keep 25 1 (omega arith) (inl (omega arith)) ∙ s.letter;
      what_end = keep 31 1 (omega arith) (inl (omega arith)) ∙ s.what_end;
      tag_0 = keep 32 4 (omega arith) (inl (omega arith)) ∙ s.tag_0;
      tag_1 = keep 64 4 (omega arith) (inl (omega arith)) ∙ s.tag_1;
      tag_2 = keep 96 4 (omega arith) (inl (omega arith)) ∙ s.tag_2;
      numbers = keep 100 1 (omega arith) (inl (omega arith)) ∙ s.numbers;
      tag_3 = keep 102 4 (omega arith) (inl (omega arith)) ∙ s.tag_3;
      sizes = λ k lt. subst (λ bytes. IsTrue (is_hex bytes)) (sym (keep (106 + 2 * k) 2 (omega (arith, lt)) (inl (omega (arith, lt))))) (s.sizes k lt);
      tag_4 = keep 130 4 (omega arith) (inl (omega arith)) ∙ s.tag_4;
      root_pointer = ap pointer (keep 134 12 (omega arith) (inl (omega arith))) ∙ s.root_pointer;
      end_pointer = ap pointer (ap (field (field new 0 186) 146) (sym twelve) ∙ (part.0).stands) ∙ pointer-pointer_text last near;
      free_table = ap pointer (keep 158 12 (omega arith) (inr (omega (arith, twelve)))) ∙ s.free_table;
      tag_5 = keep 182 4 (omega arith) (inr (omega (arith, twelve))) ∙ s.tag_5;
    }
  where
    twelve : length (pointer_text (To last)) ≡ 12
    twelve = length-pointer_text (To last)

    part : PartWrite 0 146 186 (pointer_text (To last)) old new
    part = part_write 146 0 146 186 (pointer_text (To last)) old new w refl (omega (arith, twelve)) within

    keep : (o m : ℕ) → o + m ≤ 186 → (o + m ≤ 146) ⊎ (146 + length (pointer_text (To last)) ≤ o) → field (field new 0 186) o m ≡ field (field old 0 186) o m
    keep = stays 0 146 186 (pointer_text (To last)) old new part

set_here : (xs : List (Option ℕ × Option ℕ)) (k : ℕ) (e d : Option ℕ × Option ℕ) → slice_get (slice_set xs k e) k ≡ Some d → e ≡ d
set_here [] k e d h = cc
set_here (x ∷ xs) zero e d h = same e d h
  where
    same : (p q : Option ℕ × Option ℕ) → ◌≡◌ {A = Option (Option ℕ × Option ℕ)} (Some p) (Some q) → p ≡ q
    same p q e = cc
set_here (x ∷ xs) (suc k) e d h = set_here xs k e d h

set_other : (xs : List (Option ℕ × Option ℕ)) (k j : ℕ) (e : Option ℕ × Option ℕ) → j ≢ k → slice_get (slice_set xs k e) j ≡ slice_get xs j
set_other [] k j e differ = refl
set_other (x ∷ xs) zero zero e differ = absurd (differ refl)
set_other (x ∷ xs) zero (suc j) e differ = refl
set_other (x ∷ xs) (suc k) zero e differ = refl
set_other (x ∷ xs) (suc k) (suc j) e differ = set_other xs k j e (λ h. differ (ap suc h))

length-set : (xs : List (Option ℕ × Option ℕ)) (k : ℕ) (e : Option ℕ × Option ℕ) → length (slice_set xs k e) ≡ length xs
length-set [] k e = refl
length-set (x ∷ xs) zero e = refl
length-set (x ∷ xs) (suc k) e = ap suc (length-set xs k e)

-- the ends of one of the lists
pub ends_written : (ends : List (Option ℕ × Option ℕ)) (k at : ℕ) (e : Option ℕ × Option ℕ) (text old new : List ℕ) → k < 3 → 190 + 24 * k ≤ at → at + length text ≤ 214 + 24 * k → 266 ≤ length old → Writes at text old new
    → HasPointer (field new 186 80) (4 + 24 * k) e.0 → HasPointer (field new 186 80) (16 + 24 * k) e.1
    → SpellsFreeTable (field old 186 80) ends → SpellsFreeTable (field new 186 80) (slice_set ends k e)
ends_written ends k at e text old new few low high within w first last s = record {
  start_tag = keep 0 4 (omega arith) (inl (omega (arith, low))) ∙ s.start_tag;
  three = length-set ends k e ∙ s.three;
  lists = λ j d h. lists j d h (same_or j k);
  end_tag = keep 76 4 (omega arith) (inr (omega (arith, high, few, low))) ∙ s.end_tag;
}
  where
    part : PartWrite 186 (at - 186) 80 text old new
    part = part_write at 186 (at - 186) 80 text old new w (omega (arith, low)) (omega (arith, low, high, few)) (omega (arith, within))

    keep : (o m : ℕ) → o + m ≤ 80 → (o + m ≤ at - 186) ⊎ (at - 186 + length text ≤ o) → field (field new 186 80) o m ≡ field (field old 186 80) o m
    keep = stays 186 (at - 186) 80 text old new part

    below : (j : ℕ) (d : Option ℕ × Option ℕ) → slice_get ends j ≡ Some d → j < 3
    below j d h = let inside = slice_get_within ends j d h in let three = s.three in omega (arith, inside, three)

    beside : (j o : ℕ) → j ≢ k → j < 3 → (o ≡ 4 + 24 * j) ⊎ (o ≡ 16 + 24 * j) → (o + 12 ≤ at - 186) ⊎ (at - 186 + length text ≤ o)
    beside j o differ lt where_at = elim (below_or j k) [
      | inl h ↦ inl (before h where_at)
      | inr h ↦ inr (behind h where_at)
    ]
      where
        before : j < k → (o ≡ 4 + 24 * j) ⊎ (o ≡ 16 + 24 * j) → o + 12 ≤ at - 186
        before h (inl e) = omega (arith, h, e, low)
        before h (inr e) = omega (arith, h, e, low)

        behind : k ≤ j → (o ≡ 4 + 24 * j) ⊎ (o ≡ 16 + 24 * j) → at - 186 + length text ≤ o
        behind h (inl e) = omega (arith, h, e, low, high, differ)
        behind h (inr e) = omega (arith, h, e, low, high, differ)

    lists : (j : ℕ) (d : Option ℕ × Option ℕ) → slice_get (slice_set ends k e) j ≡ Some d → (j ≡ k) ⊎ (j ≢ k) → HasPointer (field new 186 80) (4 + 24 * j) d.0 × HasPointer (field new 186 80) (16 + 24 * j) d.1
    lists j d h (inl is) =
        let same : e ≡ d = set_here ends k e d (ap (slice_get (slice_set ends k e)) (sym is) ∙ h) in
        subst (λ (c : Option ℕ × Option ℕ). HasPointer (field new 186 80) (4 + 24 * j) c.0 × HasPointer (field new 186 80) (16 + 24 * j) c.1) same
        (subst (λ i. HasPointer (field new 186 80) (4 + 24 * i) e.0 × HasPointer (field new 186 80) (16 + 24 * i) e.1) (sym is) (first, last))
    lists j d h (inr not) =
        let old_is : slice_get ends j ≡ Some d = sym (set_other ends k j e not) ∙ h in
        let lt = below j d old_is in
        let was = s.lists j d old_is in (
          pointer_stays 186 (at - 186) 80 text old new part (4 + 24 * j) d.0 (omega (arith, lt)) (beside j (4 + 24 * j) not lt (inl refl)) was.0,
          pointer_stays 186 (at - 186) 80 text old new part (16 + 24 * j) d.1 (omega (arith, lt)) (beside j (16 + 24 * j) not lt (inr refl)) was.1,
        )

-- an entry of a sub-node table
pub entry_written : (place n i child : ℕ) (name old new : List ℕ) → i < n → child < 2 ^ 44 → length name ≤ 32 → place + table_length n ≤ length old → Writes (place + 16 + 44 * i) (entry_text (text_field 32 name) (To child)) old new
    → SpellsTable (field old place (table_length n)) place n
    → SpellsTable (field new place (table_length n)) place n × SpellsEntry (field new place (table_length n)) i name child
    × ((j other : ℕ) (text : List ℕ) → j < n → j ≢ i → SpellsEntry (field old place (table_length n)) j text other → SpellsEntry (field new place (table_length n)) j text other)
entry_written place n i child name old new lt near short within w s = (
  framed_stays place (16 + 44 * i) (table_length n) (entry_text (text_field 32 name) (To child)) old new part place (codes "SNTb") (codes "snTE") (omega arith) (omega (arith, lt, long)) s,
  record { named = here 0 32 (omega arith) ∙ first; points = ap pointer (here 32 12 (omega arith) ∙ second) ∙ pointer-pointer_text child near },
  λ j other text less differ h. record {
    named = beside j 16 32 less differ (omega arith) (omega arith) ∙ h.named;
    points = ap pointer (beside j 48 12 less differ (omega arith) (omega arith)) ∙ h.points;
  },
)
  where
    padded : length (text_field 32 name) ≡ 32
    padded = length-append name (replicate (32 - length name) 32) ∙ ap (λ n. length name + n) (length-replicate (32 - length name) 32) ∙ omega (arith, short)

    long : length (entry_text (text_field 32 name) (To child)) ≡ 44
    long = length-append (text_field 32 name) (pointer_text (To child)) ∙ ap (λ n. n + length (pointer_text (To child))) padded ∙ ap (λ n. 32 + n) (length-pointer_text (To child))

    part : PartWrite place (16 + 44 * i) (table_length n) (entry_text (text_field 32 name) (To child)) old new
    part = part_write (place + 16 + 44 * i) place (16 + 44 * i) (table_length n) (entry_text (text_field 32 name) (To child)) old new w (omega arith) (omega (arith, lt, long)) within

    first : field (entry_text (text_field 32 name) (To child)) 0 32 ≡ text_field 32 name
    first = field_left (text_field 32 name) (pointer_text (To child)) 0 32 (omega (arith, padded)) ∙ field_whole (text_field 32 name) 32 padded

    second : field (entry_text (text_field 32 name) (To child)) 32 12 ≡ pointer_text (To child)
    second = field_right (text_field 32 name) (pointer_text (To child)) 32 0 12 (omega (arith, padded)) ∙ field_whole (pointer_text (To child)) 12 (length-pointer_text (To child))

    here : (k m : ℕ) → k + m ≤ 44 → field (field new place (table_length n)) (16 + k + 44 * i) m ≡ field (entry_text (text_field 32 name) (To child)) k m
    here k m le =
        ap (λ o. field (field new place (table_length n)) o m) (moved k i)
        ∙ field_written (16 + 44 * i) (entry_text (text_field 32 name) (To child)) (field old place (table_length n)) (field new place (table_length n)) part.0 k m (omega (arith, le, long))
      where
        moved : (k i : ℕ) → 16 + k + 44 * i ≡ 16 + 44 * i + k
        moved k i = omega arith

    beside : (j o m : ℕ) → j < n → j ≢ i → 16 ≤ o → o + m ≤ 60 → field (field new place (table_length n)) (o + 44 * j) m ≡ field (field old place (table_length n)) (o + 44 * j) m
    beside j o m less differ low high =
        stays place (16 + 44 * i) (table_length n) (entry_text (text_field 32 name) (To child)) old new part (o + 44 * j) m (omega (arith, less, high)) (elim (below_or j i) [
          | inl h ↦ inl (omega (arith, h, high))
          | inr h ↦ inr (omega (arith, h, differ, low, long))
        ])

-- some of the payload of a data chunk
pub payload_written : (place n at : ℕ) (text old new : List ℕ) → place + 16 ≤ at → at + length text + 4 ≤ place + n → place + n ≤ length old → Writes at text old new
    → SpellsChunk (field old place n) place n → SpellsChunk (field new place n) place n
payload_written place n at text old new low high within w s = record {
  long = s.long;
  framed = framed_stays place (at - place) n text old new (part_write at place (at - place) n text old new w (omega (arith, low)) (omega (arith, low, high)) within) place (codes "DaTa") (codes "dEnD") (omega (arith, low)) (omega (arith, low, high)) s.framed;
}

-- the pointer to the next free chunk
pub next_written : (place n : ℕ) (was next : Option ℕ) (old new : List ℕ) → IsInReach next → place + n ≤ length old → Writes (place + 16) (pointer_text (pointer_to next)) old new
    → SpellsFree (field old place n) place n was → SpellsFree (field new place n) place n next
next_written place n was next old new reach within w s = record {
  long = s.long;
  framed = framed_stays place 16 n (pointer_text (pointer_to next)) old new part place (codes "FreE") (codes "EndC") (omega arith) (omega (arith, size, twelve)) s.framed;
  next_pointer = says_pointer next (field new place n) 16 reach (ap (field (field new place n) 16) (sym twelve) ∙ (part.0).stands);
}
  where
    twelve : length (pointer_text (pointer_to next)) ≡ 12
    twelve = length-pointer_text (pointer_to next)

    size : 32 ≤ n
    size = s.long

    part : PartWrite place 16 n (pointer_text (pointer_to next)) old new
    part = part_write (place + 16) place 16 n (pointer_text (pointer_to next)) old new w refl (omega (arith, size, twelve)) within
