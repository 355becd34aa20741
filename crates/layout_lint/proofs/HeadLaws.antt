-- The rules of the head, group by group, and what it says.
use Rattle.std.proofs.Common.{◌≡◌, ℕ, ◌+◌, ◌<◌, ◌≤◌, List, ◌++◌, [], ◌∷◌, length, refl, ◌∙◌, ap, arith, Bool, true, false, cond}
use Rattle.std.specs.Prelude.{Option, Some, None, option_map, codes, nat_lt, nat_le, ◌&&◌, unwrap_or}
use Rattle.std.specs.Str.{bytes_eq}
use Rattle.adf_format.specs.Pointer.{Pointer, Blank, pointer, place_value, place_of}
use Rattle.adf_format.specs.Fields.{field, holds}
use Rattle.adf_format.specs.Parts.{node_length}
use Rattle.adf_format.specs.Checks.{Row, row, first_broken}
use Rattle.adf_format.specs.Records.{HeaderRecord, header_record, free_table_record, pointer_in}
use Rattle.adf_format.specs.declared.types.Format.{Format}
use Rattle.adf_format.specs.SoundPart.{format_in}
use Rattle.adf_format.specs.FirstFault.{row_of_length, header_rows, end_rows, free_table_rows, head_rows, end_in, is_wide, root_visit}
use Rattle.adf_format.proofs.FieldLaws.{inner_field}
use Rattle.disk_ptr.specs.View.{view}
use Rattle.adf_records.specs.declared.BadField.{BadField}
use Rattle.adf_records.specs.declared.FileHeader.{FileHeader}
use Rattle.adf_records.specs.declared.FreeTable.{FreeTable}
use Rattle.adf_records.specs.Laws.{placed}
use Rattle.adf_records.specs.View as view
use Rattle.adf_records.specs.View.{header_of, pointers_of}
use Rattle.adf_records.proofs.Places.{free_placed}
use Rattle.layout_lint.specs.declared.verdict.Span.{Span}
use Rattle.layout_lint.specs.declared.verdict.Halt.{Halt}
use Rattle.layout_lint.specs.Halts.{Breaks}
use Rattle.layout_lint.specs.Heads.{IsHead}
use Rattle.layout_lint.proofs.RowSteps.{kept_then, broken_first, breaks_first, breaks_then, row_kept, row_broken}

-- ---- the free table at its place

pub free_kept : (bytes : List ℕ) → first_broken (free_table_rows 0 bytes) ≡ None → first_broken (free_table_rows 186 bytes) ≡ None
free_kept bytes kept = free_placed 186 bytes ∙ ap (option_map (placed 186)) kept

pub free_broken : (bytes : List ℕ) (b : BadField) → first_broken (free_table_rows 0 bytes) ≡ Some (view.fault b) → first_broken (free_table_rows 186 bytes) ≡ Some (record { rule = b.rule; place = 186 + b.offset })
free_broken bytes b broken = free_placed 186 bytes ∙ ap (option_map (placed 186)) broken

-- ---- the groups

abbrev pub first_group : List ℕ → List Row
first_group image = row_of_length image ∷ []

abbrev pub header_group : List ℕ → List Row
header_group image = header_rows (field image 0 186)

abbrev pub has_end : List ℕ → Bool
has_end image = nat_lt (end_in image) (length image) && nat_le (265 + node_length (is_wide image)) (end_in image)

abbrev pub end_group : List ℕ → List Row
end_group image = row 8 146 (has_end image) ∷ []

abbrev pub free_group : List ℕ → List Row
free_group image = free_table_rows 186 (field image 186 80)

module _ (image : List ℕ) where
  head_in_groups : head_rows image ≡ first_group image ++ (header_group image ++ (end_group image ++ free_group image))
  unfolding head_rows end_rows
  head_in_groups = refl

  pub breaks_length : (h : Halt) → Breaks (first_group image) h → Breaks (head_rows image) h
  breaks_length h b = rw head_in_groups (breaks_first (first_group image) (header_group image ++ (end_group image ++ free_group image)) h b)

  pub breaks_header : (h : Halt) → first_broken (first_group image) ≡ None → Breaks (header_group image) h → Breaks (head_rows image) h
  breaks_header h long b =
      rw head_in_groups (breaks_then (first_group image) (header_group image ++ (end_group image ++ free_group image)) h long (breaks_first (header_group image) (end_group image ++ free_group image) h b))

  pub breaks_end : first_broken (first_group image) ≡ None → first_broken (header_group image) ≡ None → has_end image ≡ false → first_broken (head_rows image) ≡ Some (record { rule = 8; place = 146 })
  breaks_end long header e = rw head_in_groups (kept_then (first_group image) (header_group image ++ (end_group image ++ free_group image)) _ long
      (kept_then (header_group image) (end_group image ++ free_group image) _ header (broken_first (end_group image) (free_group image) _ (row_broken 8 146 _ e))))

  pub breaks_free : (h : Halt) → first_broken (first_group image) ≡ None → first_broken (header_group image) ≡ None → has_end image ≡ true → Breaks (free_group image) h → Breaks (head_rows image) h
  breaks_free h long header e b = rw head_in_groups (breaks_then (first_group image) (header_group image ++ (end_group image ++ free_group image)) h long
      (breaks_then (header_group image) (end_group image ++ free_group image) h header (breaks_then (end_group image) (free_group image) h (row_kept 8 146 _ e) b)))

  pub keeps_head : first_broken (first_group image) ≡ None → first_broken (header_group image) ≡ None → has_end image ≡ true → first_broken (free_group image) ≡ None → first_broken (head_rows image) ≡ None
  keeps_head long header e free = rw head_in_groups (kept_then (first_group image) (header_group image ++ (end_group image ++ free_group image)) _ long
      (kept_then (header_group image) (end_group image ++ free_group image) _ header (kept_then (end_group image) (free_group image) _ (row_kept 8 146 _ e) free)))

-- ---- what the header says

said_place : (o : Option Pointer) → place_value (Some (unwrap_or o Blank)) ≡ place_value o
said_place None = refl
said_place (Some p) = refl

-- the place that a pointer in a part of the bytes names
pub place_said : (image : List ℕ) (base n o : ℕ) (p : Pointer) → o + 12 ≤ n → p ≡ pointer_in (field image base n) o → place_value (Some p) ≡ place_of (field image (base + o) 12)
place_said image base n o p within is = ap (λ q. place_value (Some q)) is ∙ said_place (pointer (field (field image base n) o 12)) ∙ ap place_of (inner_field image base n o 12 within)

record_end : (bytes : List ℕ) → (header_record bytes).end ≡ pointer_in bytes 146
unfolding header_record
record_end bytes = refl

record_root : (bytes : List ℕ) → (header_record bytes).root ≡ pointer_in bytes 134
unfolding header_record
record_root bytes = refl

record_what : (bytes : List ℕ) → (header_record bytes).what ≡ field bytes 0 32
unfolding header_record
record_what bytes = refl

record_format : (bytes : List ℕ) → (header_record bytes).format ≡ format_in bytes
unfolding header_record
record_format bytes = refl

module _ (image : List ℕ) (h : FileHeader) (says : header_of h ≡ header_record (field image 0 186)) where
  pub end_said : place_value (Some (view h.end)) ≡ end_in image
  end_said = place_said image 0 186 146 (view h.end) (omega arith) (ap (λ (r : HeaderRecord). r.end) says ∙ record_end (field image 0 186))

  pub root_said : place_value (Some (view h.root)) ≡ (root_visit image).place
  root_said = place_said image 0 186 134 (view h.root) (omega arith) (ap (λ (r : HeaderRecord). r.root) says ∙ record_root (field image 0 186))

  pub wide_said : holds h.what 25 (codes "W") ≡ is_wide image
  wide_said = ap (λ w. holds w 25 (codes "W")) (ap (λ (r : HeaderRecord). r.what) says ∙ record_what (field image 0 186))
      ∙ ap (λ f. bytes_eq f (codes "W")) (inner_field (field image 0 186) 0 32 25 1 (omega arith) ∙ inner_field image 0 186 25 1 (omega arith))

  pub format_said : h.format ≡ format_in image
  format_said = ap (λ (r : HeaderRecord). r.format) says ∙ record_format (field image 0 186) ∙ format_inside
    where
      format_inside : format_in (field image 0 186) ≡ format_in image
      format_inside = ap (λ f. cond (bytes_eq f (66 ∷ [])) Format.Big Format.Little) (inner_field image 0 186 100 1 (omega arith))

  -- the version and the last byte
  span_said : (span : Span) → span ≡ record { wide = holds h.what 25 (codes "W"); end = place_value (Some (view h.end)) } → (span.wide ≡ is_wide image) × (span.end ≡ end_in image)
  span_said span is = (ap (λ (s : Span). s.wide) is ∙ wide_said, ap (λ (s : Span). s.end) is ∙ end_said)

  -- the test of the last byte, by what the code knows
  pub end_tested : (span : Span) (n : ℕ) → span ≡ record { wide = holds h.what 25 (codes "W"); end = place_value (Some (view h.end)) } → n ≡ length image
      → (nat_lt span.end n && nat_le (265 + node_length span.wide) span.end) ≡ has_end image
  end_tested span n is long = ap (λ k. nat_lt span.end k && nat_le (265 + node_length span.wide) span.end) long
      ∙ ap (λ e. nat_lt e (length image) && nat_le (265 + node_length span.wide) e) (span_said span is).1
      ∙ ap (λ w. nat_lt (end_in image) (length image) && nat_le (265 + node_length w) (end_in image)) (span_said span is).0

  pub head_said : (span : Span) (place n : ℕ) (lists : FreeTable) → span ≡ record { wide = holds h.what 25 (codes "W"); end = place_value (Some (view h.end)) } → first_broken (head_rows image) ≡ None
      → place ≡ place_value (Some (view h.root)) → span.end < n → n ≡ length image → pointers_of lists ≡ free_table_record (field image 186 80)
      → IsHead image (record { format = h.format; root = place; span = span; lists = lists })
  head_said span place n lists is kept root inside long says_lists = record {
    kept = kept;
    format = format_said;
    root = root ∙ root_said;
    span = record { wide = (span_said span is).0; end = (span_said span is).1; inside = omega arith };
    lists = says_lists;
  }
