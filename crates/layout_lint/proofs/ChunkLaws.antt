-- The rules of chunks and of tables of them, group by group.
use Rattle.std.proofs.Common.{◌≡◌, ℕ, zero, suc, ◌+◌, ◌*◌, List, ◌++◌, [], ◌∷◌, map, refl, ◌∙◌, ap, arith, true, false, cond}
use Rattle.std.specs.Prelude.{Some, None, ◌&&◌, codes}
use Rattle.std.specs.List.{range_with_len}
use Rattle.adf_format.specs.Pointer.{is_place, place_of}
use Rattle.adf_format.specs.Fields.{field, holds}
use Rattle.adf_format.specs.Parts.{chunk_table_length}
use Rattle.adf_format.specs.Checks.{Row, row, first_broken}
use Rattle.adf_format.specs.FirstFault.{ChunkVisit, fits, has_room, is_pointer_to, chunk_table_rows, chunk_length, count_up, one_chunk_rows}
use Rattle.adf_format.proofs.FieldLaws.{inner_field}
use Rattle.layout_lint.specs.declared.verdict.Halt.{Halt}
use Rattle.layout_lint.specs.declared.verdict.Halt.TheVariants as halt
use Rattle.layout_lint.specs.Halts.{Breaks}
use Rattle.layout_lint.specs.Chunks.{chunk_said, listed_chunk, chunk_entry_row, has_tail, tail_said}
use Rattle.layout_lint.proofs.RowSteps.{breaks_first, breaks_then, breaks_2, breaks_3, breaks_4, kept_2, row_kept, row_breaks}

-- what is read of an entry
pub chunk_entry_said : (image : List ℕ) (at : ℕ) (bytes : List ℕ) → bytes ≡ field image at 24
    → chunk_said bytes ≡ cond (is_place (field image at 12) && is_place (field image (at + 12) 12)) (Some (listed_chunk image at)) None
chunk_entry_said image at bytes is = ap chunk_said is ∙ ap (λ s. cond (is_place s && is_place (field (field image at 24) 12 12)) (Some (record { place = place_of s; listed = Some (place_of (field (field image at 24) 12 12)) })) None) start
    ∙ ap (λ t. cond (is_place (field image at 12) && is_place t) (Some (record { place = place_of (field image at 12); listed = Some (place_of t) })) None) (inner_field image at 24 12 12 (omega arith))
  where
    start : field (field image at 24) 0 12 ≡ field image at 12
    start = inner_field image at 24 0 12 (omega arith) ∙ ap (λ o. field image o 12) (omega arith)

-- the rules of the entries, as the definitions write them
entry_at : (image : List ℕ) (c i : ℕ) → row 25 (c + 16 + 24 * i) (is_place (field image (c + 16 + 24 * i) 12) && is_place (field image (c + 28 + 24 * i) 12)) ≡ chunk_entry_row image (c + 16 + 24 * i)
entry_at image c i = ap (λ o. row 25 (c + 16 + 24 * i) (is_place (field image (c + 16 + 24 * i) 12) && is_place (field image o 12))) (omega arith)

entries_at : (image : List ℕ) (c a n : ℕ) → map (λ i. row 25 (c + 16 + 24 * i) (is_place (field image (c + 16 + 24 * i) 12) && is_place (field image (c + 28 + 24 * i) 12))) (range_with_len a n)
    ≡ map (λ i. chunk_entry_row image (c + 16 + 24 * i)) (range_with_len a n)
entries_at image c a zero = refl
entries_at image c a (suc n) = ap (λ r. r ∷ map (λ i. row 25 (c + 16 + 24 * i) (is_place (field image (c + 16 + 24 * i) 12) && is_place (field image (c + 28 + 24 * i) 12))) (range_with_len (a + 1) n)) (entry_at image c a)
    ∙ ap (λ rows. chunk_entry_row image (c + 16 + 24 * a) ∷ rows) (entries_at image c (a + 1) n)

-- ---- a table of chunks

module _ (image : List ℕ) (end used c count : ℕ) where
  abbrev pub list_start : List Row
  list_start = row 25 c (fits end c (chunk_table_length count) && holds image c (codes "DCtb")) ∷ []

  abbrev pub list_pointer : List Row
  list_pointer = row 25 (c + 4) (is_pointer_to (field image (c + 4) 12) (c + 16 + 24 * count)) ∷ []

  abbrev pub list_entries : List Row
  list_entries = map (λ i. chunk_entry_row image (c + 16 + 24 * i)) (count_up count)

  abbrev pub list_tail : List Row
  list_tail = row 25 (c + 16 + 24 * count) (holds image (c + 16 + 24 * count) (codes "dcTE")) ∷ []

  abbrev pub list_room : List Row
  list_room = row 14 c (has_room end used (chunk_table_length count)) ∷ []

  list_in_groups : chunk_table_rows image end used c count ≡ list_start ++ (list_pointer ++ (list_entries ++ (list_tail ++ list_room)))
  unfolding chunk_table_rows
  list_in_groups = ap (λ entries. list_start ++ (list_pointer ++ (entries ++ (list_tail ++ list_room)))) (entries_at image c 0 count)

  pub breaks_list_start : (h : Halt) → Breaks list_start h → Breaks (chunk_table_rows image end used c count) h
  breaks_list_start h b = rw list_in_groups (breaks_first list_start (list_pointer ++ (list_entries ++ (list_tail ++ list_room))) h b)

  pub breaks_list_pointer : first_broken list_start ≡ None → is_pointer_to (field image (c + 4) 12) (c + 16 + 24 * count) ≡ false
      → Breaks (chunk_table_rows image end used c count) (halt.Broken (record { rule = 25; place = c + 4 }))
  breaks_list_pointer start e = rw list_in_groups (breaks_2 list_start list_pointer (list_entries ++ (list_tail ++ list_room)) (halt.Broken (record { rule = 25; place = c + 4 })) start (row_breaks 25 (c + 4) _ e))

  module _ (start : first_broken list_start ≡ None) (points : is_pointer_to (field image (c + 4) 12) (c + 16 + 24 * count) ≡ true) where
    pub breaks_list_entries : (h : Halt) → Breaks list_entries h → Breaks (chunk_table_rows image end used c count) h
    breaks_list_entries h b = rw list_in_groups (breaks_3 list_start list_pointer list_entries (list_tail ++ list_room) h start (row_kept 25 (c + 4) _ points) b)

    pub breaks_list_tail : (h : Halt) → first_broken list_entries ≡ None → Breaks list_tail h → Breaks (chunk_table_rows image end used c count) h
    breaks_list_tail h entries b = rw list_in_groups (breaks_4 list_start list_pointer list_entries list_tail list_room h start (row_kept 25 (c + 4) _ points) entries b)

    pub breaks_list_room : first_broken list_entries ≡ None → first_broken list_tail ≡ None → has_room end used (chunk_table_length count) ≡ false
        → Breaks (chunk_table_rows image end used c count) (halt.Broken (record { rule = 14; place = c }))
    breaks_list_room entries tail r = let h = halt.Broken (record { rule = 14; place = c }) in
        rw list_in_groups (breaks_then list_start (list_pointer ++ (list_entries ++ (list_tail ++ list_room))) h start
        (breaks_4 list_pointer list_entries list_tail list_room [] h (row_kept 25 (c + 4) _ points) entries tail (row_breaks 14 c _ r)))

    pub keeps_list : first_broken list_entries ≡ None → first_broken list_tail ≡ None → has_room end used (chunk_table_length count) ≡ true → first_broken (chunk_table_rows image end used c count) ≡ None
    keeps_list entries tail r = rw list_in_groups (kept_2 list_start (list_pointer ++ (list_entries ++ (list_tail ++ list_room))) start
        (kept_2 list_pointer (list_entries ++ (list_tail ++ list_room)) (row_kept 25 (c + 4) _ points) (kept_2 list_entries (list_tail ++ list_room) entries (kept_2 list_tail list_room tail (row_kept 14 c _ r)))))

-- ---- one chunk

-- its end tag, by what is read of its head
pub chunk_tail_said : (image : List ℕ) (end : ℕ) (v : ChunkVisit) (head : List ℕ) → head ≡ field image v.place 16
    → tail_said end v (field head 4 12) ≡ cond (has_tail image end v) (Some (place_of (field image (v.place + 4) 12))) None
chunk_tail_said image end v head is = ap (tail_said end v) (ap (λ h. field h 4 12) is ∙ inner_field image v.place 16 4 12 (omega arith))

module _ (image : List ℕ) (end used : ℕ) (v : ChunkVisit) where
  abbrev pub chunk_start : List Row
  chunk_start = row 26 v.place (fits end v.place 21 && holds image v.place (codes "DaTa")) ∷ []

  abbrev pub chunk_pointer : List Row
  chunk_pointer = row 26 (v.place + 4) (has_tail image end v) ∷ []

  abbrev pub chunk_tail : List Row
  chunk_tail = row 26 (place_of (field image (v.place + 4) 12)) (holds image (place_of (field image (v.place + 4) 12)) (codes "dEnD")) ∷ []

  abbrev pub chunk_room : List Row
  chunk_room = row 14 v.place (has_room end used (chunk_length image v.place)) ∷ []

  chunk_in_groups : one_chunk_rows image end used v ≡ chunk_start ++ (chunk_pointer ++ (chunk_tail ++ chunk_room))
  unfolding one_chunk_rows
  chunk_in_groups = refl

  pub breaks_chunk_start : (h : Halt) → Breaks chunk_start h → Breaks (one_chunk_rows image end used v) h
  breaks_chunk_start h b = rw chunk_in_groups (breaks_first chunk_start (chunk_pointer ++ (chunk_tail ++ chunk_room)) h b)

  module _ (start : first_broken chunk_start ≡ None) where
    pub breaks_chunk_pointer : has_tail image end v ≡ false → Breaks (one_chunk_rows image end used v) (halt.Broken (record { rule = 26; place = v.place + 4 }))
    breaks_chunk_pointer e = rw chunk_in_groups (breaks_2 chunk_start chunk_pointer (chunk_tail ++ chunk_room) (halt.Broken (record { rule = 26; place = v.place + 4 })) start (row_breaks 26 (v.place + 4) _ e))

    pub breaks_chunk_tail : (h : Halt) → has_tail image end v ≡ true → Breaks chunk_tail h → Breaks (one_chunk_rows image end used v) h
    breaks_chunk_tail h e b = rw chunk_in_groups (breaks_3 chunk_start chunk_pointer chunk_tail chunk_room h start (row_kept 26 (v.place + 4) _ e) b)

    pub breaks_chunk_room : has_tail image end v ≡ true → first_broken chunk_tail ≡ None → has_room end used (chunk_length image v.place) ≡ false
        → Breaks (one_chunk_rows image end used v) (halt.Broken (record { rule = 14; place = v.place }))
    breaks_chunk_room e tail r = rw chunk_in_groups (breaks_4 chunk_start chunk_pointer chunk_tail chunk_room [] (halt.Broken (record { rule = 14; place = v.place })) start (row_kept 26 (v.place + 4) _ e) tail (row_breaks 14 v.place _ r))

    pub keeps_chunk : has_tail image end v ≡ true → first_broken chunk_tail ≡ None → has_room end used (chunk_length image v.place) ≡ true → first_broken (one_chunk_rows image end used v) ≡ None
    keeps_chunk e tail r = rw chunk_in_groups (kept_2 chunk_start (chunk_pointer ++ (chunk_tail ++ chunk_room)) start (kept_2 chunk_pointer (chunk_tail ++ chunk_room) (row_kept 26 (v.place + 4) _ e) (kept_2 chunk_tail chunk_room tail (row_kept 14 v.place _ r))))
