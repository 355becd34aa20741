-- The rules of a node's header, group by group.
use Rattle.std.proofs.Common.{◌≡◌, ℕ, ◌+◌, ◌≤◌, ◌<◌, List, ◌++◌, [], ◌∷◌, refl, ◌∙◌, ap, arith, Bool, true, false}
use Rattle.std.specs.Prelude.{Option, Some, None, Result, option_map, not}
use Rattle.std.proofs.lemmas.Bool.Decides.{nat_tests}
use Rattle.std.proofs.lemmas.Grind.{common_steps}
use Rattle.adf_format.specs.Fields.{field}
use Rattle.adf_format.specs.Parts.{node_length}
use Rattle.adf_format.specs.Checks.{Row, row, first_broken}
use Rattle.adf_format.specs.FirstFault.{fits, has_room, node_rows, is_same_name}
use Rattle.adf_format.proofs.FieldLaws.{inner_field}
use Rattle.adf_records.specs.declared.BadField.{BadField}
use Rattle.adf_records.specs.Laws.{placed}
use Rattle.adf_records.specs.View as view
use Rattle.adf_records.proofs.Places.{node_placed}
use Rattle.layout_lint.specs.declared.node.Met.{Met}
use Rattle.layout_lint.specs.declared.verdict.Halt.{Halt}
use Rattle.layout_lint.specs.declared.verdict.Halt.TheVariants as halt
use Rattle.layout_lint.specs.Halts.{Breaks, Finds}
use Rattle.layout_lint.specs.Nodes.{place_rows, bytes_rows, header_rows_at}
use Rattle.layout_lint.proofs.RowSteps.{breaks_first, breaks_2, breaks_3, finds_then, row_kept, row_breaks}

pub node_kept : (wide named : Bool) (base : ℕ) (bytes : List ℕ) → first_broken (node_rows wide 0 named bytes) ≡ None → first_broken (node_rows wide base named bytes) ≡ None
node_kept wide named base bytes kept = node_placed wide named base bytes ∙ ap (option_map (placed base)) kept

pub node_broken : (wide named : Bool) (base : ℕ) (bytes : List ℕ) (b : BadField) → first_broken (node_rows wide 0 named bytes) ≡ Some (view.fault b)
    → first_broken (node_rows wide base named bytes) ≡ Some (record { rule = b.rule; place = base + b.offset })
node_broken wide named base bytes b broken = node_placed wide named base bytes ∙ ap (option_map (placed base)) broken

holds_name : (wide : Bool) → 36 ≤ node_length wide
holds_name true = omega arith
holds_name false = omega arith

-- the rules by what is read
pub rows_read : (image : List ℕ) (wide named : Bool) (p n : ℕ) (entry : Option (List ℕ)) (bytes : List ℕ) → n ≡ node_length wide → bytes ≡ field image p n → named ≡ is_same_name entry (field bytes 4 32)
    → node_rows wide p named bytes ≡ node_rows wide p (is_same_name entry (field image (p + 4) 32)) (field image p (node_length wide))
rows_read image wide named p n entry bytes long is same =
    let within : 4 + 32 ≤ n = let some = holds_name wide in omega arith in
    ap (λ k. node_rows wide p k bytes) (same ∙ ap (is_same_name entry) (ap (λ b. field b 4 32) is ∙ inner_field image p n 4 32 within))
    ∙ ap (λ b. node_rows wide p (is_same_name entry (field image (p + 4) 32)) b) (is ∙ ap (λ k. field image p k) long)

module _ (image : List ℕ) (wide : Bool) (end : ℕ) (known : Bool) (used : ℕ) (m : Met) where
  abbrev pub fits_group : List Row
  fits_group = row 12 m.place (fits end m.place (node_length wide)) ∷ []

  abbrev pub new_group : List Row
  new_group = row 13 m.place (not known) ∷ []

  abbrev pub room_group : List Row
  room_group = row 14 m.place (has_room end used (node_length wide)) ∷ []

  in_groups : header_rows_at image wide end known used m ≡ fits_group ++ (new_group ++ (room_group ++ bytes_rows image wide m))
  unfolding place_rows
  in_groups = refl

  pub breaks_fits : fits end m.place (node_length wide) ≡ false → Breaks (header_rows_at image wide end known used m) (halt.Broken (record { rule = 12; place = m.place }))
  breaks_fits e = rw in_groups (breaks_first fits_group (new_group ++ (room_group ++ bytes_rows image wide m)) (halt.Broken (record { rule = 12; place = m.place })) (row_breaks 12 m.place _ e))

  pub breaks_new : fits end m.place (node_length wide) ≡ true → not known ≡ false → Breaks (header_rows_at image wide end known used m) (halt.Broken (record { rule = 13; place = m.place }))
  breaks_new f e = rw in_groups (breaks_2 fits_group new_group (room_group ++ bytes_rows image wide m) (halt.Broken (record { rule = 13; place = m.place })) (row_kept 12 m.place _ f) (row_breaks 13 m.place _ e))

  pub breaks_room : fits end m.place (node_length wide) ≡ true → not known ≡ true → has_room end used (node_length wide) ≡ false
      → Breaks (header_rows_at image wide end known used m) (halt.Broken (record { rule = 14; place = m.place }))
  breaks_room f n e = rw in_groups (breaks_3 fits_group new_group room_group (bytes_rows image wide m) (halt.Broken (record { rule = 14; place = m.place })) (row_kept 12 m.place _ f) (row_kept 13 m.place _ n) (row_breaks 14 m.place _ e))

  pub finds_header : {T : Type 0} (r : Result T Halt) → fits end m.place (node_length wide) ≡ true → not known ≡ true → has_room end used (node_length wide) ≡ true → Finds (bytes_rows image wide m) r
      → Finds (header_rows_at image wide end known used m) r
  finds_header r f n e bytes = rw in_groups (finds_then fits_group (new_group ++ (room_group ++ bytes_rows image wide m)) r (row_kept 12 m.place _ f)
      (finds_then new_group (room_group ++ bytes_rows image wide m) r (row_kept 13 m.place _ n) (finds_then room_group (bytes_rows image wide m) r (row_kept 14 m.place _ e) bytes)))

-- what fits lies within the bytes
pub fits_within : (end p n long : ℕ) → fits end p n ≡ true → end < long → p + n ≤ long
fits_within end p n long e h = grind (arith, nat_tests, common_steps)
