-- What the writer spells is spelled as the parts of a file want it.
use Rattle.std.proofs.Common.{◌≡◌, ℕ, zero, suc, refl, sym, ◌∙◌, ap, subst, arith, List, [], ◌∷◌, ◌++◌, length, replicate, get_or, append_assoc, length-append, ◌+◌, ◌-◌, ◌*◌, ◌^◌, ◌<◌, ◌≤◌, Bool, true, false}
use Rattle.std.proofs.lemmas.List.{length-replicate, append-nil}
use Rattle.std.proofs.lemmas.Option.{slice_get_within, slice_get-get_or}
use Rattle.std.specs.Prelude.{Option, Some, None, slice_get, IsTrue, codes, ⊤}
use Rattle.std.specs.List.{flat_map}
use Rattle.adf_format.specs.Hex.{hex_value, hex_text, is_hex}
use Rattle.adf_format.specs.Pointer.{Pointer, Blank, To, pointer, pointer_text}
use Rattle.adf_format.specs.Fields.{field, text_field}
use Rattle.adf_format.specs.declared.types.DataType.{DataType}
use Rattle.adf_format.specs.declared.types.DataType.TheVariants.{Mt, I4, I8, U4, U8, R4, R8, X4, X8, B1, C1, Lk}
use Rattle.adf_format.specs.declared.types.Format.{Format}
use Rattle.adf_format.specs.Parts.{NodeFields, SpellsHeader, SpellsFreeTable, SpellsNode, IsFramed, SpellsTable, SpellsEntry, SpellsChunk, SpellsChunkTable, SpellsChunkEntry, SpellsFree, IsFiller, HasPointer, type_word, format_letter, dimension_digits, chunk_count_at, node_length}
use Rattle.adf_format.specs.Records.{HeaderRecord, NodeRecord, Part, SubNodes, Data, Chunks, Free, start_tag, end_tag, entry_text, chunk_entry_text, header_text, free_table_text, node_text}
use Rattle.adf_format.specs.Spelled.{pointer_to, IsInReach, AllWide, SaysHeader, SaysNode, AreInReach, list_pointers, in_row, framed_text}
use Rattle.adf_format.proofs.HexLaws.{hex_value-hex_text, length-hex_text, pointer-pointer_text}
use Rattle.adf_format.proofs.FieldLaws.{field_whole, field_left, field_right, start_of, within_row, start_wide, length-in_row, flat_row}

-- ---- texts of known lengths in a row

abbrev left_row : List ℕ → List (List ℕ) → List ℕ
left_row first [] = first
left_row first (p ∷ ps) = left_row (first ++ p) ps

left_is_row : (first : List ℕ) (ps : List (List ℕ)) → left_row first ps ≡ in_row (first ∷ ps)
left_is_row first [] = sym (append-nil first)
left_is_row first (p ∷ ps) = left_is_row (first ++ p) ps ∙ append_assoc first p (in_row ps)

abbrev Widths : List (List ℕ) → List ℕ → Type 0
Widths [] [] = ⊤
Widths (p ∷ ps) (w ∷ ws) = (length p ≡ w) × Widths ps ws
Widths [] (w ∷ ws) = ⊥
Widths (p ∷ ps) [] = ⊥

abbrev sum_before : List ℕ → ℕ → ℕ
sum_before [] i = 0
sum_before (w ∷ ws) zero = 0
sum_before (w ∷ ws) (suc i) = w + sum_before ws i

abbrev sum_all : List ℕ → ℕ
sum_all [] = 0
sum_all (w ∷ ws) = w + sum_all ws

starts_at : (ps : List (List ℕ)) (ws : List ℕ) (i : ℕ) → Widths ps ws → start_of ps i ≡ sum_before ws i
starts_at [] [] i h = refl
starts_at [] (w ∷ ws) i h = absurd h
starts_at (p ∷ ps) [] i h = absurd h
starts_at (p ∷ ps) (w ∷ ws) zero h = refl
starts_at (p ∷ ps) (w ∷ ws) (suc i) h = ap (λ n. n + start_of ps i) h.0 ∙ ap (λ n. w + n) (starts_at ps ws i h.1)

pub row_length : (ps : List (List ℕ)) (ws : List ℕ) → Widths ps ws → length (in_row ps) ≡ sum_all ws
row_length [] [] h = refl
row_length [] (w ∷ ws) h = absurd h
row_length (p ∷ ps) [] h = absurd h
row_length (p ∷ ps) (w ∷ ws) h = length-append p (in_row ps) ∙ ap (λ n. n + length (in_row ps)) h.0 ∙ ap (λ n. w + n) (row_length ps ws h.1)

piece_width : (ps : List (List ℕ)) (ws : List ℕ) (i : ℕ) (p : List ℕ) (w : ℕ) → Widths ps ws → slice_get ps i ≡ Some p → slice_get ws i ≡ Some w → length p ≡ w
piece_width [] ws i p w h at is = cc
piece_width (q ∷ ps) [] i p w h at is = absurd h
piece_width (q ∷ ps) (v ∷ ws) zero p w h at is = ap length (sym (same_text q p at)) ∙ h.0 ∙ same_number v w is
  where
    same_text : (p q : List ℕ) → ◌≡◌ {A = Option (List ℕ)} (Some p) (Some q) → p ≡ q
    same_text p q e = cc

    same_number : (p q : ℕ) → ◌≡◌ {A = Option ℕ} (Some p) (Some q) → p ≡ q
    same_number p q e = cc
piece_width (q ∷ ps) (v ∷ ws) (suc i) p w h at is = piece_width ps ws i p w h.1 at is

module _ (ps : List (List ℕ)) (ws : List ℕ) (h : Widths ps ws) where
  -- a field within the i-th text
  pub in_piece : (i : ℕ) (p : List ℕ) (w o k n : ℕ) → slice_get ps i ≡ Some p → slice_get ws i ≡ Some w → o ≡ sum_before ws i + k → k + n ≤ w → field (in_row ps) o n ≡ field p k n
  in_piece i p w o k n at is e le =
      let wide : length p ≡ w = piece_width ps ws i p w h at is in
      within_row ps i p o k n at (e ∙ ap (λ s. s + k) (sym (starts_at ps ws i h))) (subst (λ l. k + n ≤ l) (sym wide) le)

  -- the i-th text itself
  pub piece : (i : ℕ) (p : List ℕ) (w o : ℕ) → slice_get ps i ≡ Some p → slice_get ws i ≡ Some w → o ≡ sum_before ws i → field (in_row ps) o w ≡ p
  piece i p w o at is e = in_piece i p w o 0 w at is (e ∙ plain (sum_before ws i)) (omega arith) ∙ field_whole p w (piece_width ps ws i p w h at is)
    where
      plain : (s : ℕ) → s ≡ s + 0
      plain s = omega arith

-- ---- lengths of fields

pub length-pointer_text : (p : Pointer) → length (pointer_text p) ≡ 12
length-pointer_text Blank = refl
length-pointer_text (To place) = refl

length-type : (kind : DataType) → length (text_field 32 (type_word kind)) ≡ 32
length-type Mt = refl
length-type I4 = refl
length-type I8 = refl
length-type U4 = refl
length-type U8 = refl
length-type R4 = refl
length-type R8 = refl
length-type X4 = refl
length-type X8 = refl
length-type B1 = refl
length-type C1 = refl
length-type Lk = refl

length-format : (format : Format) → length (format_letter format) ≡ 1
length-format Format.Little = refl
length-format Format.Big = refl

length-start_tag : (part : Part) → length (start_tag part) ≡ 4
length-start_tag SubNodes = refl
length-start_tag Data = refl
length-start_tag Chunks = refl
length-start_tag Free = refl

length-end_tag : (part : Part) → length (end_tag part) ≡ 4
length-end_tag SubNodes = refl
length-end_tag Data = refl
length-end_tag Chunks = refl
length-end_tag Free = refl

-- ---- fields

-- a pointer that is spelled is one
pub says_pointer : (o : Option ℕ) (bytes : List ℕ) (offset : ℕ) → IsInReach o → field bytes offset 12 ≡ pointer_text (pointer_to o) → HasPointer bytes offset o
says_pointer None bytes offset h e = ap pointer e
says_pointer (Some place) bytes offset h e = ap pointer e ∙ pointer-pointer_text place h

says_number : (width n m : ℕ) (bytes : List ℕ) → n < 16 ^ width → bytes ≡ hex_text width n → n ≡ m → hex_value bytes ≡ Some m
says_number width n m bytes lt e f = ap hex_value e ∙ hex_value-hex_text width n lt ∙ ap Some f

-- the i-th of texts of one width
pub at_wide : (w : ℕ) (ps : List (List ℕ)) (i : ℕ) (p : List ℕ) → AllWide w ps → slice_get ps i ≡ Some p → field (in_row ps) (w * i) w ≡ p
at_wide w ps i p all at =
    within_row ps i p (w * i) 0 w at (sym (start_wide w ps i p all at) ∙ plain (start_of ps i)) (let long = all i p at in omega (arith, long)) ∙ field_whole p w (all i p at)
  where
    plain : (n : ℕ) → n ≡ n + 0
    plain n = omega arith

-- ---- a node header

abbrev node_pieces : NodeRecord → List (List ℕ)
node_pieces r =
    r.name ∷ r.label ∷ hex_text 8 r.children ∷ hex_text 8 r.entries ∷ pointer_text r.table ∷ text_field 32 (type_word r.kind) ∷ hex_text 2 r.rank
    ∷ flat_map (λ (d : List ℕ). d) r.dims ∷ hex_text 4 r.chunks ∷ pointer_text r.chunk ∷ codes "TaiL" ∷ []

node_row : (r : NodeRecord) → node_text r ≡ in_row (codes "NoDe" ∷ node_pieces r)
unfolding node_text
node_row r = left_is_row (codes "NoDe") (node_pieces r)

abbrev node_widths : ℕ → List ℕ
node_widths dims = 4 ∷ 32 ∷ 32 ∷ 8 ∷ 8 ∷ 12 ∷ 32 ∷ 2 ∷ dims ∷ 4 ∷ 12 ∷ 4 ∷ []

module _ (wide : Bool) (r : NodeRecord) (node : NodeFields) (s : SaysNode wide r node) where
  all_dims : length (flat_map (λ (d : List ℕ). d) r.dims) ≡ dimension_digits wide * 12
  all_dims = ap length (flat_row r.dims) ∙ length-in_row (dimension_digits wide) r.dims s.long_dims ∙ ap (λ n. dimension_digits wide * n) s.twelve

  widths : Widths (codes "NoDe" ∷ node_pieces r) (node_widths (dimension_digits wide * 12))
  widths = (refl, (s.long_name, (s.long_label, (length-hex_text 8 r.children, (length-hex_text 8 r.entries, (length-pointer_text r.table, (length-type r.kind, (length-hex_text 2 r.rank, (all_dims, (length-hex_text 4 r.chunks, (length-pointer_text r.chunk, (refl, tt))))))))))))

  abbrev row : List ℕ
  row = in_row (codes "NoDe" ∷ node_pieces r)

  at_piece : (i : ℕ) (p : List ℕ) (w o : ℕ) → slice_get (codes "NoDe" ∷ node_pieces r) i ≡ Some p → slice_get (node_widths (dimension_digits wide * 12)) i ≡ Some w → o ≡ sum_before (node_widths (dimension_digits wide * 12)) i → field row o w ≡ p
  at_piece = piece (codes "NoDe" ∷ node_pieces r) (node_widths (dimension_digits wide * 12)) widths

  counts_at : chunk_count_at wide ≡ 130 + dimension_digits wide * 12
  counts_at = by_width wide
    where
      by_width : (w : Bool) → chunk_count_at w ≡ 130 + dimension_digits w * 12
      by_width false = refl
      by_width true = refl

  fits : (w : Bool) (i : ℕ) → i < 12 → dimension_digits w * i + dimension_digits w ≤ dimension_digits w * 12
  fits false i lt = omega (arith, lt)
  fits true i lt = omega (arith, lt)

  one_dim : (i d : ℕ) → slice_get node.dims i ≡ Some d → hex_value (field row (130 + dimension_digits wide * i) (dimension_digits wide)) ≡ Some d
  one_dim i d at =
      let few : i < 12 = (let inside = slice_get_within node.dims i d at in let most = s.few_dims in omega (arith, inside, most)) in
      let there : slice_get r.dims i ≡ Some (get_or r.dims i []) = slice_get-get_or r.dims i [] (let twelve = s.twelve in omega (arith, few, twelve)) in
      ap hex_value (
      in_piece (codes "NoDe" ∷ node_pieces r) (node_widths (dimension_digits wide * 12)) widths 8 (flat_map (λ (d : List ℕ). d) r.dims) (dimension_digits wide * 12)
      (130 + dimension_digits wide * i) (dimension_digits wide * i) (dimension_digits wide) refl refl refl (fits wide i few)
      ∙ ap (λ (xs : List ℕ). field xs (dimension_digits wide * i) (dimension_digits wide)) (flat_row r.dims)
      ∙ at_wide (dimension_digits wide) r.dims i (get_or r.dims i []) s.long_dims there
      )
      ∙ s.dims i d (get_or r.dims i []) at there

  pub node_says : SpellsNode wide (node_text r) node
  node_says = subst (λ bytes. SpellsNode wide bytes node) (sym (node_row r)) (record {
    start_tag = at_piece 0 (codes "NoDe") 4 0 refl refl refl;
    name = at_piece 1 r.name 32 4 refl refl refl ∙ s.name;
    label = at_piece 2 r.label 32 36 refl refl refl ∙ s.label;
    children = says_number 8 r.children node.children (field row 68 8) s.few_children (at_piece 3 (hex_text 8 r.children) 8 68 refl refl refl) s.children;
    entries = says_number 8 r.entries node.entries (field row 76 8) s.few_entries (at_piece 4 (hex_text 8 r.entries) 8 76 refl refl refl) s.entries;
    table = says_pointer node.table row 84 s.table_in_reach (at_piece 5 (pointer_text r.table) 12 84 refl refl refl ∙ ap pointer_text s.table);
    kind = at_piece 6 (text_field 32 (type_word r.kind)) 32 96 refl refl refl ∙ ap (λ k. text_field 32 (type_word k)) s.kind;
    rank = says_number 2 r.rank (length node.dims) (field row 128 2) few_ranks (at_piece 7 (hex_text 2 r.rank) 2 128 refl refl refl) s.rank;
    dims = one_dim;
    chunks = says_number 4 r.chunks node.chunks (field row (chunk_count_at wide) 4) s.few_chunks (at_piece 9 (hex_text 4 r.chunks) 4 (chunk_count_at wide) refl refl behind_9) s.chunks;
    chunk = says_pointer node.chunk row (chunk_count_at wide + 4) s.chunk_in_reach (at_piece 10 (pointer_text r.chunk) 12 (chunk_count_at wide + 4) refl refl behind_10 ∙ ap pointer_text s.chunk);
    end_tag = at_piece 11 (codes "TaiL") 4 (chunk_count_at wide + 16) refl refl behind_11;
  })
    where
      few_ranks : r.rank < 16 ^ 2
      few_ranks = let e = s.rank in let most = s.few_dims in omega (arith, e, most)

      behind_9 : chunk_count_at wide ≡ sum_before (node_widths (dimension_digits wide * 12)) 9
      behind_9 = let e = counts_at in omega (arith, e)

      behind_10 : chunk_count_at wide + 4 ≡ sum_before (node_widths (dimension_digits wide * 12)) 10
      behind_10 = let e = counts_at in omega (arith, e)

      behind_11 : chunk_count_at wide + 16 ≡ sum_before (node_widths (dimension_digits wide * 12)) 11
      behind_11 = let e = counts_at in omega (arith, e)

  pub node_long : length (node_text r) ≡ node_length wide
  node_long = ap length (node_row r) ∙ row_length (codes "NoDe" ∷ node_pieces r) (node_widths (dimension_digits wide * 12)) widths ∙ (let e = counts_at in omega (arith, e))

-- ---- the file header

abbrev header_pieces : HeaderRecord → List (List ℕ)
header_pieces h =
    codes "AdF0" ∷ h.created ∷ codes "AdF1" ∷ h.modified ∷ codes "AdF2" ∷ format_letter h.format ∷ h.size_letter ∷ codes "AdF3" ∷ h.sizes
    ∷ codes "AdF4" ∷ pointer_text h.root ∷ pointer_text h.end ∷ pointer_text h.free_table ∷ h.extra ∷ codes "AdF5" ∷ []

header_row : (h : HeaderRecord) → header_text h ≡ in_row (h.what ∷ header_pieces h)
unfolding header_text
header_row h = left_is_row h.what (header_pieces h)

abbrev header_widths : List ℕ
header_widths = 32 ∷ 4 ∷ 28 ∷ 4 ∷ 28 ∷ 4 ∷ 1 ∷ 1 ∷ 4 ∷ 24 ∷ 4 ∷ 12 ∷ 12 ∷ 12 ∷ 12 ∷ 4 ∷ []

module _ (h : HeaderRecord) (wide : Bool) (format : Format) (root end : ℕ) (s : SaysHeader h wide format root end) where
  all_widths : Widths (h.what ∷ header_pieces h) header_widths
  all_widths = (s.long, (refl, (s.created, (refl, (s.modified, (refl, (length-format h.format, (s.size_letter, (refl, (s.twelve, (refl, (length-pointer_text h.root, (length-pointer_text h.end, (length-pointer_text h.free_table, (s.extra, (refl, tt))))))))))))))))

  abbrev whole : List ℕ
  whole = in_row (h.what ∷ header_pieces h)

  at : (i : ℕ) (p : List ℕ) (w o : ℕ) → slice_get (h.what ∷ header_pieces h) i ≡ Some p → slice_get header_widths i ≡ Some w → o ≡ sum_before header_widths i → field whole o w ≡ p
  at = piece (h.what ∷ header_pieces h) header_widths all_widths

  inside : (i : ℕ) (p : List ℕ) (w o k n : ℕ) → slice_get (h.what ∷ header_pieces h) i ≡ Some p → slice_get header_widths i ≡ Some w → o ≡ sum_before header_widths i + k → k + n ≤ w → field whole o n ≡ field p k n
  inside = in_piece (h.what ∷ header_pieces h) header_widths all_widths

  pub header_says : SpellsHeader (header_text h) wide format root end
  header_says = subst (λ bytes. SpellsHeader bytes wide format root end) (sym (header_row h)) (record {
    what = inside 0 h.what 32 0 0 25 refl refl refl (omega arith) ∙ s.what;
    letter = inside 0 h.what 32 25 25 1 refl refl refl (omega arith) ∙ s.letter;
    what_end = inside 0 h.what 32 31 31 1 refl refl refl (omega arith) ∙ s.what_end;
    tag_0 = at 1 (codes "AdF0") 4 32 refl refl refl;
    tag_1 = at 3 (codes "AdF1") 4 64 refl refl refl;
    tag_2 = at 5 (codes "AdF2") 4 96 refl refl refl;
    numbers = at 6 (format_letter h.format) 1 100 refl refl refl ∙ ap format_letter s.numbers;
    tag_3 = at 8 (codes "AdF3") 4 102 refl refl refl;
    sizes = λ k lt. subst (λ bytes. IsTrue (is_hex bytes)) (sym (inside 9 h.sizes 24 (106 + 2 * k) (2 * k) 2 refl refl refl (omega (arith, lt)))) (s.sizes k lt);
    tag_4 = at 10 (codes "AdF4") 4 130 refl refl refl;
    root_pointer = says_pointer (Some root) whole 134 s.root_in_reach (at 11 (pointer_text h.root) 12 134 refl refl refl ∙ ap pointer_text s.root_pointer);
    end_pointer = says_pointer (Some end) whole 146 s.end_in_reach (at 12 (pointer_text h.end) 12 146 refl refl refl ∙ ap pointer_text s.end_pointer);
    free_table = says_pointer (Some 186) whole 158 (omega arith) (at 13 (pointer_text h.free_table) 12 158 refl refl refl ∙ ap pointer_text s.free_table);
    tag_5 = at 15 (codes "AdF5") 4 182 refl refl refl;
  })

  pub header_long : length (header_text h) ≡ 186
  header_long = ap length (header_row h) ∙ row_length (h.what ∷ header_pieces h) header_widths all_widths

-- ---- the free table

abbrev End : Type 0
End = Option ℕ × Option ℕ

abbrev table_pieces : End → End → End → List (List ℕ)
table_pieces a b c =
    pointer_text (pointer_to a.0) ∷ pointer_text (pointer_to a.1) ∷ pointer_text (pointer_to b.0) ∷ pointer_text (pointer_to b.1)
    ∷ pointer_text (pointer_to c.0) ∷ pointer_text (pointer_to c.1) ∷ []

abbrev table_widths : List ℕ
table_widths = 4 ∷ 12 ∷ 12 ∷ 12 ∷ 12 ∷ 12 ∷ 12 ∷ 4 ∷ []

module _ (a b c : End) (near : AreInReach (a ∷ b ∷ c ∷ [])) where
  abbrev table_row : List (List ℕ)
  table_row = codes "fCbt" ∷ table_pieces a b c ++ codes "Fcte" ∷ []

  in_table : free_table_text (list_pointers (a ∷ b ∷ c ∷ [])) ≡ in_row table_row
  unfolding free_table_text
  in_table = append_assoc (codes "fCbt") _ (codes "Fcte") ∙ ap (λ xs. codes "fCbt" ++ xs) (flat_then (table_pieces a b c) (codes "Fcte"))
    where
      flat_then : (ps : List (List ℕ)) (last : List ℕ) → in_row ps ++ last ≡ in_row (ps ++ last ∷ [])
      flat_then [] last = sym (append-nil last)
      flat_then (p ∷ ps) last = append_assoc p (in_row ps) last ∙ ap (λ xs. p ++ xs) (flat_then ps last)

  wide_table : Widths table_row table_widths
  wide_table = (refl, (length-pointer_text (pointer_to a.0), (length-pointer_text (pointer_to a.1), (length-pointer_text (pointer_to b.0), (length-pointer_text (pointer_to b.1), (length-pointer_text (pointer_to c.0), (length-pointer_text (pointer_to c.1), (refl, tt))))))))

  in_list : (i o : ℕ) (e : Option ℕ) → slice_get table_row i ≡ Some (pointer_text (pointer_to e)) → slice_get table_widths i ≡ Some 12 → o ≡ sum_before table_widths i → IsInReach e → HasPointer (in_row table_row) o e
  in_list i o e there is at h = says_pointer e (in_row table_row) o h (piece table_row table_widths wide_table i (pointer_text (pointer_to e)) 12 o there is at)

  lists : (k : ℕ) (e : End) → slice_get (a ∷ b ∷ c ∷ []) k ≡ Some e → HasPointer (in_row table_row) (4 + 24 * k) e.0 × HasPointer (in_row table_row) (16 + 24 * k) e.1
  lists zero e h = subst (λ (d : End). HasPointer (in_row table_row) 4 d.0 × HasPointer (in_row table_row) 16 d.1) (same_end a e h) (in_list 1 4 a.0 refl refl refl (near 0 a refl).0, in_list 2 16 a.1 refl refl refl (near 0 a refl).1)
    where
      same_end : (x y : End) → ◌≡◌ {A = Option End} (Some x) (Some y) → x ≡ y
      same_end x y e = cc
  lists (suc zero) e h = subst (λ (d : End). HasPointer (in_row table_row) 28 d.0 × HasPointer (in_row table_row) 40 d.1) (same_end b e h) (in_list 3 28 b.0 refl refl refl (near 1 b refl).0, in_list 4 40 b.1 refl refl refl (near 1 b refl).1)
    where
      same_end : (x y : End) → ◌≡◌ {A = Option End} (Some x) (Some y) → x ≡ y
      same_end x y e = cc
  lists (suc (suc zero)) e h = subst (λ (d : End). HasPointer (in_row table_row) 52 d.0 × HasPointer (in_row table_row) 64 d.1) (same_end c e h) (in_list 5 52 c.0 refl refl refl (near 2 c refl).0, in_list 6 64 c.1 refl refl refl (near 2 c refl).1)
    where
      same_end : (x y : End) → ◌≡◌ {A = Option End} (Some x) (Some y) → x ≡ y
      same_end x y e = cc
  lists (suc (suc (suc k))) e h = cc

  table_says : SpellsFreeTable (free_table_text (list_pointers (a ∷ b ∷ c ∷ []))) (a ∷ b ∷ c ∷ [])
  table_says = subst (λ bytes. SpellsFreeTable bytes (a ∷ b ∷ c ∷ [])) (sym in_table) (record {
    start_tag = piece table_row table_widths wide_table 0 (codes "fCbt") 4 0 refl refl refl;
    three = refl;
    lists = lists;
    end_tag = piece table_row table_widths wide_table 7 (codes "Fcte") 4 76 refl refl refl;
  })

  table_long : length (free_table_text (list_pointers (a ∷ b ∷ c ∷ []))) ≡ 80
  table_long = ap length in_table ∙ row_length table_row table_widths wide_table

pub free_table_says : (ends : List End) → length ends ≡ 3 → AreInReach ends → SpellsFreeTable (free_table_text (list_pointers ends)) ends × (length (free_table_text (list_pointers ends)) ≡ 80)
free_table_says [] e near = absurd (omega (arith, e))
free_table_says (a ∷ []) e near = absurd (omega (arith, e))
free_table_says (a ∷ b ∷ []) e near = absurd (omega (arith, e))
free_table_says (a ∷ b ∷ c ∷ []) e near = (table_says a b c near, table_long a b c near)
free_table_says (a ∷ b ∷ c ∷ d ∷ ends) e near = absurd (omega (arith, e))

-- ---- a part with a head, a body and an end tag

module _ (part : Part) (place : ℕ) (body : List ℕ) where
  abbrev frame_row : List (List ℕ)
  frame_row = start_tag part ∷ pointer_text (To (place + 16 + length body)) ∷ body ∷ end_tag part ∷ []

  abbrev frame_widths : List ℕ
  frame_widths = 4 ∷ 12 ∷ length body ∷ 4 ∷ []

  in_frame : framed_text part place body ≡ in_row frame_row
  in_frame = left_is_row (start_tag part) (pointer_text (To (place + 16 + length body)) ∷ body ∷ end_tag part ∷ [])

  wide_frame : Widths frame_row frame_widths
  wide_frame = (length-start_tag part, (length-pointer_text (To (place + 16 + length body)), (refl, (length-end_tag part, tt))))

  pub framed_long : length (framed_text part place body) ≡ 20 + length body
  framed_long = ap length in_frame ∙ row_length frame_row frame_widths wide_frame ∙ omega arith

  pub framed_says : place + 20 + length body ≤ 2 ^ 44 → IsFramed (framed_text part place body) place (20 + length body) (start_tag part) (end_tag part)
  framed_says near = subst (λ bytes. IsFramed bytes place (20 + length body) (start_tag part) (end_tag part)) (sym in_frame) (record {
    start_tag = piece frame_row frame_widths wide_frame 0 (start_tag part) 4 0 refl refl refl;
    end_pointer = says_pointer (Some (place + 16 + length body)) (in_row frame_row) 4 (omega (arith, near)) (piece frame_row frame_widths wide_frame 1 (pointer_text (To (place + 16 + length body))) 12 4 refl refl refl)
        ∙ ap (λ n. Some (To n)) (omega arith);
    end_tag = piece frame_row frame_widths wide_frame 3 (end_tag part) 4 (20 + length body - 4) refl refl (omega arith);
  })

  -- a field of the body
  pub framed_body : (o k n : ℕ) → o ≡ 16 + k → k + n ≤ length body → field (framed_text part place body) o n ≡ field body k n
  framed_body o k n e le = ap (λ bytes. field bytes o n) in_frame ∙ in_piece frame_row frame_widths wide_frame 2 body (length body) o k n refl refl (omega (arith, e)) le

-- ---- entries

pub in_wide : (w : ℕ) (ps : List (List ℕ)) (i : ℕ) (p : List ℕ) (k n : ℕ) → AllWide w ps → slice_get ps i ≡ Some p → k + n ≤ w → field (in_row ps) (w * i + k) n ≡ field p k n
in_wide w ps i p k n all at le = within_row ps i p (w * i + k) k n at (ap (λ s. s + k) (sym (start_wide w ps i p all at))) (let long = all i p at in omega (arith, long, le))

row_within : (w : ℕ) (ps : List (List ℕ)) (i : ℕ) (p : List ℕ) (k n : ℕ) → AllWide w ps → slice_get ps i ≡ Some p → k + n ≤ w → w * i + k + n ≤ length (in_row ps)
row_within w ps i p k n all at le =
    let inside : i < length ps = slice_get_within ps i p at in
    let long : length (in_row ps) ≡ w * length ps = length-in_row w ps all in
    fits (length (in_row ps)) (length ps) i inside long
  where
    more : (i n : ℕ) → i < n → w * i + w ≤ w * n
    more i n lt = subst (λ m. w * i + w ≤ w * m) (split i n lt) (product i (n - (i + 1)))
      where
        split : (i n : ℕ) → i < n → i + 1 + (n - (i + 1)) ≡ n
        split i n lt = omega (arith, lt)

        product : (i d : ℕ) → w * i + w ≤ w * (i + 1 + d)
        product i d = rw (spread i d) (omega arith)
          where
            spread : (i d : ℕ) → w * (i + 1 + d) ≡ w * i + w + w * d
            spread i d = omega arith

    fits : (l m i : ℕ) → i < m → l ≡ w * m → w * i + k + n ≤ l
    fits l m i lt e = let r : w * i + w ≤ w * m = more i m lt in omega (arith, r, e, le)

module _ (place : ℕ) (entries : List (List ℕ)) (near : place + 20 + length (in_row entries) ≤ 2 ^ 44) where
  -- a sub-node table
  pub table_says_entries : AllWide 44 entries → SpellsTable (framed_text SubNodes place (in_row entries)) place (length entries)
  table_says_entries all = subst (λ n. IsFramed (framed_text SubNodes place (in_row entries)) place n (codes "SNTb") (codes "snTE")) (ap (λ n. 20 + n) (length-in_row 44 entries all)) (framed_says SubNodes place (in_row entries) near)

  -- a chunk table
  pub chunk_table_says : AllWide 24 entries → SpellsChunkTable (framed_text Chunks place (in_row entries)) place (length entries)
  chunk_table_says all = subst (λ n. IsFramed (framed_text Chunks place (in_row entries)) place n (codes "DCtb") (codes "dcTE")) (ap (λ n. 20 + n) (length-in_row 24 entries all)) (framed_says Chunks place (in_row entries) near)

pub entry_long : (name : List ℕ) (child : ℕ) → length name ≤ 32 → length (entry_text (text_field 32 name) (To child)) ≡ 44
entry_long name child short = length-append (text_field 32 name) (pointer_text (To child)) ∙ ap (λ n. n + length (pointer_text (To child))) (padded_long name short) ∙ ap (λ n. 32 + n) (length-pointer_text (To child))
  where
    padded_long : (name : List ℕ) → length name ≤ 32 → length (text_field 32 name) ≡ 32
    padded_long name short = length-append name (replicate (32 - length name) 32) ∙ ap (λ n. length name + n) (length-replicate (32 - length name) 32) ∙ omega (arith, short)

pub entry_says : (place : ℕ) (entries : List (List ℕ)) (i child : ℕ) (name : List ℕ) → AllWide 44 entries → child < 2 ^ 44 → length name ≤ 32 → slice_get entries i ≡ Some (entry_text (text_field 32 name) (To child))
    → SpellsEntry (framed_text SubNodes place (in_row entries)) i name child
entry_says place entries i child name all near short at = record {
  named = framed_body SubNodes place (in_row entries) (16 + 44 * i) (44 * i + 0) 32 (omega arith) (row_within 44 entries i _ 0 32 all at (omega arith))
      ∙ in_wide 44 entries i (entry_text (text_field 32 name) (To child)) 0 32 all at (omega arith)
      ∙ field_left (text_field 32 name) (pointer_text (To child)) 0 32 (omega (arith, padded)) ∙ field_whole (text_field 32 name) 32 padded;
  points = ap pointer (framed_body SubNodes place (in_row entries) (48 + 44 * i) (44 * i + 32) 12 (omega arith) (row_within 44 entries i _ 32 12 all at (omega arith))
      ∙ in_wide 44 entries i (entry_text (text_field 32 name) (To child)) 32 12 all at (omega arith)
      ∙ field_right (text_field 32 name) (pointer_text (To child)) 32 0 12 (omega (arith, padded)) ∙ field_whole (pointer_text (To child)) 12 (length-pointer_text (To child)))
      ∙ pointer-pointer_text child near;
}
  where
    padded : length (text_field 32 name) ≡ 32
    padded = length-append name (replicate (32 - length name) 32) ∙ ap (λ n. length name + n) (length-replicate (32 - length name) 32) ∙ omega (arith, short)

pub chunk_entry_long : (start tail : ℕ) → length (chunk_entry_text (To start) (To tail)) ≡ 24
chunk_entry_long start tail = length-append (pointer_text (To start)) (pointer_text (To tail)) ∙ ap (λ n. n + length (pointer_text (To tail))) (length-pointer_text (To start)) ∙ ap (λ n. 12 + n) (length-pointer_text (To tail))

pub chunk_entry_says : (place : ℕ) (entries : List (List ℕ)) (i start size : ℕ) → AllWide 24 entries → start + size ≤ 2 ^ 44 → 4 ≤ size → slice_get entries i ≡ Some (chunk_entry_text (To start) (To (start + size - 4)))
    → SpellsChunkEntry (framed_text Chunks place (in_row entries)) i start size
chunk_entry_says place entries i start size all near long at = record {
  start = ap pointer (framed_body Chunks place (in_row entries) (16 + 24 * i) (24 * i + 0) 12 (omega arith) (row_within 24 entries i _ 0 12 all at (omega arith))
      ∙ in_wide 24 entries i (chunk_entry_text (To start) (To (start + size - 4))) 0 12 all at (omega arith)
      ∙ field_left (pointer_text (To start)) (pointer_text (To (start + size - 4))) 0 12 (omega (arith, wide)) ∙ field_whole (pointer_text (To start)) 12 wide)
      ∙ pointer-pointer_text start (omega (arith, near, long));
  end = ap pointer (framed_body Chunks place (in_row entries) (28 + 24 * i) (24 * i + 12) 12 (omega arith) (row_within 24 entries i _ 12 12 all at (omega arith))
      ∙ in_wide 24 entries i (chunk_entry_text (To start) (To (start + size - 4))) 12 12 all at (omega arith)
      ∙ field_right (pointer_text (To start)) (pointer_text (To (start + size - 4))) 12 0 12 (omega (arith, wide)) ∙ field_whole (pointer_text (To (start + size - 4))) 12 (length-pointer_text (To (start + size - 4))))
      ∙ pointer-pointer_text (start + size - 4) (omega (arith, near, long));
}
  where
    wide : length (pointer_text (To start)) ≡ 12
    wide = length-pointer_text (To start)

-- ---- chunks

pub chunk_says : (place : ℕ) (body : List ℕ) → 1 ≤ length body → place + 20 + length body ≤ 2 ^ 44 → SpellsChunk (framed_text Data place body) place (20 + length body)
chunk_says place body some near = record { long = omega (arith, some); framed = framed_says Data place body near }

pub free_says : (place : ℕ) (next : Option ℕ) (rest : List ℕ) → IsInReach next → place + 32 + length rest ≤ 2 ^ 44
    → SpellsFree (framed_text Free place (pointer_text (pointer_to next) ++ rest)) place (32 + length rest) next
free_says place next rest reach near =
    let long : length (pointer_text (pointer_to next) ++ rest) ≡ 12 + length rest = length-append (pointer_text (pointer_to next)) rest ∙ ap (λ n. n + length rest) (length-pointer_text (pointer_to next)) in
    let whole : 20 + length (pointer_text (pointer_to next) ++ rest) ≡ 32 + length rest = omega (arith, long) in
    record {
      long = omega arith;
      framed = subst (λ n. IsFramed (framed_text Free place (pointer_text (pointer_to next) ++ rest)) place n (codes "FreE") (codes "EndC")) whole (framed_says Free place (pointer_text (pointer_to next) ++ rest) (omega (arith, long, near)));
      next_pointer = says_pointer next (framed_text Free place (pointer_text (pointer_to next) ++ rest)) 16 reach
          (framed_body Free place (pointer_text (pointer_to next) ++ rest) 16 0 12 refl (omega (arith, long))
          ∙ field_left (pointer_text (pointer_to next)) rest 0 12 (let w = length-pointer_text (pointer_to next) in omega (arith, w)) ∙ field_whole (pointer_text (pointer_to next)) 12 (length-pointer_text (pointer_to next)));
    }

-- ---- a filler

pub spells_filler : (n : ℕ) → IsFiller (replicate n 122)
spells_filler n = ap (λ k. replicate k 122) (sym (length-replicate n 122))
