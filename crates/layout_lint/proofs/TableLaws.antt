-- The rules of a table of children, group by group.
use Rattle.std.proofs.Common.{◌≡◌, ℕ, ◌+◌, ◌*◌, ◌≤◌, List, ◌++◌, [], ◌∷◌, refl, ◌∙◌, ap, true, false}
use Rattle.std.specs.Prelude.{None, ◌&&◌, codes}
use Rattle.adf_format.specs.Fields.{field, holds}
use Rattle.adf_format.specs.Parts.{table_length}
use Rattle.adf_format.specs.Checks.{Row, row, first_broken}
use Rattle.adf_format.specs.FirstFault.{fits, has_room, is_pointer_to, table_rows}
use Rattle.adf_format.proofs.FieldLaws.{inner_field}
use Rattle.layout_lint.specs.declared.verdict.Halt.{Halt}
use Rattle.layout_lint.specs.declared.verdict.Halt.TheVariants as halt
use Rattle.layout_lint.specs.Halts.{Breaks}
use Rattle.layout_lint.proofs.RowSteps.{breaks_first, breaks_then, breaks_2, breaks_3, kept_2, row_kept, row_breaks}

-- a pointer in the first bytes of a part
pub head_pointer : (image : List ℕ) (t n o p : ℕ) (head : List ℕ) → o + 12 ≤ n → head ≡ field image t n → is_pointer_to (field head o 12) p ≡ is_pointer_to (field image (t + o) 12) p
head_pointer image t n o p head within e = ap (λ f. is_pointer_to f p) (ap (λ h. field h o 12) e ∙ inner_field image t n o 12 within)

module _ (image : List ℕ) (end used t entries : ℕ) where
  abbrev pub start_group : List Row
  start_group = row 23 t (fits end t (table_length entries) && holds image t (codes "SNTb")) ∷ []

  abbrev pub pointer_group : List Row
  pointer_group = row 23 (t + 4) (is_pointer_to (field image (t + 4) 12) (t + 16 + 44 * entries)) ∷ []

  abbrev pub tail_group : List Row
  tail_group = row 23 (t + 16 + 44 * entries) (holds image (t + 16 + 44 * entries) (codes "snTE")) ∷ []

  abbrev pub room_group : List Row
  room_group = row 14 t (has_room end used (table_length entries)) ∷ []

  in_groups : table_rows image end used t entries ≡ start_group ++ (pointer_group ++ (tail_group ++ room_group))
  unfolding table_rows
  in_groups = refl

  pub breaks_start : (h : Halt) → Breaks start_group h → Breaks (table_rows image end used t entries) h
  breaks_start h b = rw in_groups (breaks_first start_group (pointer_group ++ (tail_group ++ room_group)) h b)

  pub breaks_pointer : first_broken start_group ≡ None → is_pointer_to (field image (t + 4) 12) (t + 16 + 44 * entries) ≡ false
      → Breaks (table_rows image end used t entries) (halt.Broken (record { rule = 23; place = t + 4 }))
  breaks_pointer start e = rw in_groups (breaks_2 start_group pointer_group (tail_group ++ room_group) (halt.Broken (record { rule = 23; place = t + 4 })) start (row_breaks 23 (t + 4) _ e))

  pub breaks_tail : (h : Halt) → first_broken start_group ≡ None → is_pointer_to (field image (t + 4) 12) (t + 16 + 44 * entries) ≡ true → Breaks tail_group h → Breaks (table_rows image end used t entries) h
  breaks_tail h start e b = rw in_groups (breaks_3 start_group pointer_group tail_group room_group h start (row_kept 23 (t + 4) _ e) b)

  pub breaks_room : first_broken start_group ≡ None → is_pointer_to (field image (t + 4) 12) (t + 16 + 44 * entries) ≡ true → first_broken tail_group ≡ None
      → has_room end used (table_length entries) ≡ false → Breaks (table_rows image end used t entries) (halt.Broken (record { rule = 14; place = t }))
  breaks_room start e tail r = rw in_groups (breaks_then start_group (pointer_group ++ (tail_group ++ room_group)) (halt.Broken (record { rule = 14; place = t })) start
      (breaks_then pointer_group (tail_group ++ room_group) (halt.Broken (record { rule = 14; place = t })) (row_kept 23 (t + 4) _ e) (breaks_then tail_group room_group (halt.Broken (record { rule = 14; place = t })) tail (row_breaks 14 t _ r))))

  pub keeps_table : first_broken start_group ≡ None → is_pointer_to (field image (t + 4) 12) (t + 16 + 44 * entries) ≡ true → first_broken tail_group ≡ None
      → has_room end used (table_length entries) ≡ true → first_broken (table_rows image end used t entries) ≡ None
  keeps_table start e tail r = rw in_groups (kept_2 start_group (pointer_group ++ (tail_group ++ room_group)) start (kept_2 pointer_group (tail_group ++ room_group) (row_kept 23 (t + 4) _ e) (kept_2 tail_group room_group tail (row_kept 14 t _ r))))
