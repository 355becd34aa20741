-- A node header that breaks none of its rules is spelled as the image names its node and its parts.
use Rattle.std.proofs.Common.{◌≡◌, ℕ, zero, suc, refl, sym, ◌∙◌, ap, subst, arith, List, ◌++◌, length, map, ◌+◌, ◌*◌, ◌<◌, ◌≤◌, Bool, true, false, cond}
use Rattle.std.proofs.lemmas.Bool.Decides.{nat_tests}
use Rattle.std.proofs.lemmas.List.{length-map}
use Rattle.std.specs.Bool.{beq}
use Rattle.std.specs.Prelude.{Option, Some, None, unwrap_or, slice_get, nat_le, nat_lt, ◌==◌, codes, option_map}
use Rattle.adf_format.specs.Hex.{hex_value, is_hex}
use Rattle.adf_format.specs.Pointer.{Pointer, Blank, To, pointer, is_pointer, is_pointer_value, is_blank, is_blank_value, place_of, place_value}
use Rattle.adf_format.specs.Fields.{field, holds, number, text_field, trimmed}
use Rattle.adf_format.specs.Parts.{SpellsNode, HasNumber, HasPointer, dimension_digits, chunk_count_at, node_length, type_word, type_of}
use Rattle.adf_format.specs.Placement.{TablePart}
use Rattle.adf_format.specs.LaysOut.{chunk_pointer, entry_count}
use Rattle.adf_format.specs.FirstFault.{text_rows, number_rows, pointer_rows, dimension_row, shape_rows, node_rows, type_or_mt, has_type, is_pointer_for, count_up, dims_in, children_in, entries_in, table_in, chunk_count, chunk_in, chunks_in, chunk_visits, listed_chunks}
use Rattle.adf_format.proofs.FieldLaws.{length-field}
use Rattle.adf_format.proofs.RowLaws.{holds_tells, number_tells, padded-trimmed, type_tells, kept_index, length-counted}
use Rattle.adf_model.proofs.Basics.{and_parts}
use Rattle.adf_model.proofs.Walks.WalkNodes.{Kept}
use Rattle.layout_laws.specs.FoundLayout.{table_part, chunk_part, chunk_table_part}
use Rattle.layout_laws.proofs.HeldParts.{in_header, count_in_header, chunk_in_header, dimension_in_header}
use Rattle.layout_laws.proofs.NodeRules.{at_counted}
use Rattle.layout_laws.proofs.Rows.{le_of}
use Rattle.layout_laws.proofs.VisitExtents.{length-chunk_visits}
use Rattle.adf_format.proofs.NumberLaws.{left_part, right_part}

-- ---- pointers that are blank exactly where a number is 0

pub blank_here : (o : Option Pointer) → is_pointer_value o ≡ true → is_blank_value o ≡ true → o ≡ Some Blank
blank_here None h k = cc
blank_here (Some Blank) h k = refl
blank_here (Some (To n)) h k = cc

place_here : (o : Option Pointer) → is_pointer_value o ≡ true → is_blank_value o ≡ false → o ≡ Some (To (place_value o))
place_here None h k = cc
place_here (Some Blank) h k = cc
place_here (Some (To n)) h k = refl

pub beq_tells : (a b : Bool) → beq a b ≡ true → a ≡ b
beq_tells true true e = refl
beq_tells true false e = cc
beq_tells false true e = cc
beq_tells false false e = refl

pub blank_for : (n : ℕ) (bytes : List ℕ) → is_pointer_for n bytes ≡ true → (n == 0) ≡ true → pointer bytes ≡ Some Blank
blank_for n bytes h e = let r = and_parts (is_pointer bytes) (beq (is_blank bytes) (n == 0)) h in blank_here (pointer bytes) r.0 (beq_tells (is_blank bytes) (n == 0) r.1 ∙ e)

pub place_for : (n : ℕ) (bytes : List ℕ) → is_pointer_for n bytes ≡ true → (n == 0) ≡ false → pointer bytes ≡ Some (To (place_of bytes))
place_for n bytes h e = let r = and_parts (is_pointer bytes) (beq (is_blank bytes) (n == 0)) h in place_here (pointer bytes) r.0 (beq_tells (is_blank bytes) (n == 0) r.1 ∙ e)

pub table_entries : (t n : ℕ) → entry_count (table_part t n) ≡ n
table_entries t n = by_test (n == 0) refl
  where
    number : (n : ℕ) → (n == 0) ≡ true → 0 ≡ n
    number n e = grind (arith, nat_tests)

    by_test : (b : Bool) → (n == 0) ≡ b → entry_count (cond b None (Some (record { place = t; entries = n }))) ≡ n
    by_test true e = number n e
    by_test false e = refl

table_pointer : (bytes : List ℕ) (offset n t : ℕ) → is_pointer_for n (field bytes offset 12) ≡ true → place_of (field bytes offset 12) ≡ t → HasPointer bytes offset (option_map (λ (t : TablePart). t.place) (table_part t n))
table_pointer bytes offset n t h e = by_test (n == 0) refl
  where
    by_test : (b : Bool) → (n == 0) ≡ b → HasPointer bytes offset (option_map (λ (t : TablePart). t.place) (cond b None (Some (record { place = t; entries = n }))))
    by_test true k = blank_for n (field bytes offset 12) h k
    by_test false k = place_for n (field bytes offset 12) h k ∙ ap (λ m. Some (To m)) e

chunk_named : (image bytes : List ℕ) (offset c n : ℕ) → is_pointer_for n (field bytes offset 12) ≡ true → place_of (field bytes offset 12) ≡ c → HasPointer bytes offset (chunk_pointer (map (chunk_part image) (chunk_visits image c n)) (chunk_table_part c n))
chunk_named image bytes offset c zero h e = blank_for 0 (field bytes offset 12) h refl
chunk_named image bytes offset c (suc zero) h e = place_for 1 (field bytes offset 12) h refl ∙ ap (λ m. Some (To m)) e
chunk_named image bytes offset c (suc (suc n)) h e = subst (λ b. HasPointer bytes offset (chunk_pointer (map (chunk_part image) (listed_chunks image c (n + 2))) (cond b None (Some c)))) (sym (many n)) (place_for (suc (suc n)) (field bytes offset 12) h (some n) ∙ ap (λ m. Some (To m)) e)
  where
    many : (n : ℕ) → nat_lt (suc (suc n)) 2 ≡ false
    many n = grind (arith, nat_tests)

    some : (n : ℕ) → (suc (suc n) == 0) ≡ false
    some n = grind (arith, nat_tests)

-- ---- what the rows say

pub record HeaderKept (wide : Bool) (bytes : List ℕ) : Type 0 where
  pub opening : holds bytes 0 (codes "NoDe") ≡ true
  pub closing : holds bytes (chunk_count_at wide + 16) (codes "TaiL") ≡ true
  pub children : is_hex (field bytes 68 8) ≡ true
  pub entries : is_hex (field bytes 76 8) ≡ true
  pub rank : is_hex (field bytes 128 2) ≡ true
  pub chunks : is_hex (field bytes (chunk_count_at wide) 4) ≡ true
  pub table : is_pointer_for (number bytes 76 8) (field bytes 84 12) ≡ true
  pub chunk : is_pointer_for (number bytes (chunk_count_at wide) 4) (field bytes (chunk_count_at wide + 4) 12) ≡ true
  pub kind : has_type (type_of (field bytes 96 32)) ≡ true
  pub few : number bytes 128 2 ≤ 12
  pub dims : (i : ℕ) → i < number bytes 128 2 → is_hex (field bytes (130 + dimension_digits wide * i) (dimension_digits wide)) ≡ true

text_kept : (wide : Bool) (base : ℕ) (named : Bool) (bytes : List ℕ) → Kept (text_rows wide base named bytes) → (holds bytes 0 (codes "NoDe") ≡ true) × (holds bytes (chunk_count_at wide + 16) (codes "TaiL") ≡ true)
unfolding text_rows
text_kept wide base named bytes h = (h.0, h.1.0)

number_kept : (wide : Bool) (base : ℕ) (bytes : List ℕ) → Kept (number_rows wide base bytes) → (is_hex (field bytes 68 8) ≡ true) × (is_hex (field bytes 76 8) ≡ true) × (is_hex (field bytes 128 2) ≡ true) × (is_hex (field bytes (chunk_count_at wide) 4) ≡ true)
unfolding number_rows
number_kept wide base bytes h = (h.0, h.1.0, h.1.1.0, h.1.1.1.0)

pointer_kept : (wide : Bool) (base : ℕ) (bytes : List ℕ) → Kept (pointer_rows wide base bytes)
    → (is_pointer_for (number bytes 76 8) (field bytes 84 12) ≡ true) × (is_pointer_for (number bytes (chunk_count_at wide) 4) (field bytes (chunk_count_at wide + 4) 12) ≡ true)
unfolding pointer_rows
pointer_kept wide base bytes h = (h.0, h.1.0)

shape_kept : (wide : Bool) (base : ℕ) (bytes : List ℕ) → Kept (shape_rows wide base bytes) → (has_type (type_of (field bytes 96 32)) ≡ true) × (nat_le (number bytes 128 2) 12 ≡ true) × Kept (map (dimension_row wide base bytes) (count_up (number bytes 128 2)))
unfolding shape_rows
shape_kept wide base bytes h = (h.0, (and_parts _ _ h.1.0).0, h.1.1)

dimension_kept : (wide : Bool) (base : ℕ) (bytes : List ℕ) (i : ℕ) → (dimension_row wide base bytes i).kept ≡ true → is_hex (field bytes (130 + dimension_digits wide * i) (dimension_digits wide)) ≡ true
unfolding dimension_row
dimension_kept wide base bytes i h = (and_parts _ _ h).0

pub header_says : (wide : Bool) (base : ℕ) (named : Bool) (bytes : List ℕ) → Kept (node_rows wide base named bytes) → HeaderKept wide bytes
unfolding node_rows
header_says wide base named bytes h =
    let a = left_part (text_rows wide base named bytes ++ number_rows wide base bytes ++ pointer_rows wide base bytes) (shape_rows wide base bytes) h in
    let b = left_part (text_rows wide base named bytes ++ number_rows wide base bytes) (pointer_rows wide base bytes) a in
    let texts = text_kept wide base named bytes (left_part (text_rows wide base named bytes) (number_rows wide base bytes) b) in
    let numbers = number_kept wide base bytes (right_part (text_rows wide base named bytes) (number_rows wide base bytes) b) in
    let pointers = pointer_kept wide base bytes (right_part (text_rows wide base named bytes ++ number_rows wide base bytes) (pointer_rows wide base bytes) a) in
    let shapes = shape_kept wide base bytes (right_part (text_rows wide base named bytes ++ number_rows wide base bytes ++ pointer_rows wide base bytes) (shape_rows wide base bytes) h) in
    record {
      opening = texts.0;
      closing = texts.1;
      children = numbers.0;
      entries = numbers.1;
      rank = numbers.2;
      chunks = numbers.3;
      table = pointers.0;
      chunk = pointers.1;
      kind = shapes.0;
      few = le_of (number bytes 128 2) 12 shapes.1;
      dims = λ i lt. dimension_kept wide base bytes i (subst (λ (j : ℕ). (dimension_row wide base bytes j).kept ≡ true) (front i) (kept_index (dimension_row wide base bytes) 0 (number bytes 128 2) i shapes.2 lt));
    }
  where
    front : (i : ℕ) → 0 + i ≡ i
    front i = omega arith

-- ---- the header in the image

module _ (image : List ℕ) (wide : Bool) (p end : ℕ) (kept : HeaderKept wide (field image p (node_length wide))) (ends : end < length image) (fit : p + node_length wide ≤ end + 1) where
  abbrev bytes : List ℕ
  bytes = field image p (node_length wide)

  long_field : (k n : ℕ) → k + n ≤ 246 → length (field image (p + k) n) ≡ n
  long_field k n h = let long = length-field image (p + k) n in let least = least_length wide in omega (arith, long, least, fit, ends, h)
    where
      least_length : (w : Bool) → 246 ≤ node_length w
      least_length false = omega arith
      least_length true = omega arith

  text_read : (k : ℕ) → k + 32 ≤ 246 → field bytes k 32 ≡ text_field 32 (trimmed (field image (p + k) 32))
  text_read k h = in_header image wide p k 32 h ∙ sym (padded-trimmed (field image (p + k) 32) 32 (long_field k 32 h))

  number_at : (k n : ℕ) → k + n ≤ 246 → number bytes k n ≡ number image (p + k) n
  number_at k n h = ap (λ (bs : List ℕ). unwrap_or (hex_value bs) 0) (in_header image wide p k n h)

  count_at : number bytes (chunk_count_at wide) 4 ≡ chunk_count image wide p
  count_at = ap (λ (bs : List ℕ). unwrap_or (hex_value bs) 0) (count_in_header image wide p)

  dims_read : (i d : ℕ) → slice_get (dims_in image wide p) i ≡ Some d → HasNumber bytes (130 + dimension_digits wide * i) (dimension_digits wide) d
  dims_read i d e =
      let at = at_counted (λ i. number image (p + 130 + dimension_digits wide * i) (dimension_digits wide)) 0 (number image (p + 128) 2) i d e in
      let rank = number_at 128 2 (omega arith) in
      let lt = at.0 in
      let inside : i < number bytes 128 2 = omega (arith, lt, rank) in
      let few = kept.few in
      let tells = number_tells bytes (130 + dimension_digits wide * i) (dimension_digits wide) (kept.dims i inside) in
      tells ∙ ap Some (ap (λ (bs : List ℕ). unwrap_or (hex_value bs) 0) (dimension_in_header wide image p i (omega (arith, inside, few))) ∙ ap (λ j. number image (p + 130 + dimension_digits wide * j) (dimension_digits wide)) (front i) ∙ at.1)
    where
      front : (i : ℕ) → i ≡ 0 + i
      front i = omega arith

  rank_counts : number image (p + 128) 2 ≡ length (dims_in image wide p)
  rank_counts = sym (length-counted (λ i. number image (p + 130 + dimension_digits wide * i) (dimension_digits wide)) 0 (number image (p + 128) 2))

  -- the header says what the image names
  pub header_read : SpellsNode wide bytes (record {
    name = trimmed (field image (p + 4) 32);
    label = trimmed (field image (p + 36) 32);
    children = children_in image p;
    entries = entry_count (table_part (table_in image p) (entries_in image p));
    table = option_map (λ (t : TablePart). t.place) (table_part (table_in image p) (entries_in image p));
    kind = type_or_mt (field image (p + 96) 32);
    dims = dims_in image wide p;
    chunks = length (map (chunk_part image) (chunks_in image wide p));
    chunk = chunk_pointer (map (chunk_part image) (chunks_in image wide p)) (chunk_table_part (chunk_in image wide p) (chunk_count image wide p));
  })
  header_read = record {
    start_tag = holds_tells bytes 0 (codes "NoDe") kept.opening;
    name = text_read 4 (omega arith);
    label = text_read 36 (omega arith);
    children = number_tells bytes 68 8 kept.children ∙ ap Some (number_at 68 8 (omega arith));
    entries = number_tells bytes 76 8 kept.entries ∙ ap Some (number_at 76 8 (omega arith) ∙ sym (table_entries (table_in image p) (entries_in image p)));
    table = subst (λ n. HasPointer bytes 84 (option_map (λ (t : TablePart). t.place) (table_part (table_in image p) n))) (number_at 76 8 (omega arith))
        (table_pointer bytes 84 (number bytes 76 8) (table_in image p) kept.table (ap place_of (in_header image wide p 84 12 (omega arith))));
    kind = type_tells (field bytes 96 32) (type_of (field bytes 96 32)) refl kept.kind ∙ ap (λ bs. text_field 32 (type_word (type_or_mt bs))) (in_header image wide p 96 32 (omega arith));
    rank = number_tells bytes 128 2 kept.rank ∙ ap Some (number_at 128 2 (omega arith) ∙ rank_counts);
    dims = dims_read;
    chunks = number_tells bytes (chunk_count_at wide) 4 kept.chunks ∙ ap Some (count_at ∙ sym (length-map (chunks_in image wide p) (chunk_part image) ∙ length-chunk_visits image (chunk_in image wide p) (chunk_count image wide p)));
    chunk = subst (λ n. HasPointer bytes (chunk_count_at wide + 4) (chunk_pointer (map (chunk_part image) (chunk_visits image (chunk_in image wide p) n)) (chunk_table_part (chunk_in image wide p) n))) count_at
        (chunk_named image bytes (chunk_count_at wide + 4) (chunk_in image wide p) (number bytes (chunk_count_at wide) 4) kept.chunk (ap place_of (chunk_in_header image wide p)));
    end_tag = holds_tells bytes (chunk_count_at wide + 16) (codes "TaiL") kept.closing;
  }
