-- The text of a longer table: the entries that were in use, the new entry and the unused ones.
use Rattle.std.proofs.Common.{◌≡◌, ℕ, suc, refl, sym, ◌∙◌, ap, subst, arith, List, ◌++◌, length, ◌+◌, ◌-◌, ◌*◌, ◌^◌, ◌<◌, ◌≤◌, length-append}
use Rattle.std.specs.Prelude.{Option, Some, None, slice_get, codes}
use Rattle.std.proofs.lemmas.List.{length-replicate}
use Rattle.std.proofs.lemmas.Option.{slice_get_within}
use Rattle.adf_format.specs.Fields.{field, text_field}
use Rattle.adf_format.specs.Pointer.{To, pointer, pointer_text}
use Rattle.adf_format.specs.Tree.{Tree, Node, node_at}
use Rattle.adf_format.specs.Parts.{SpellsTable, SpellsEntry, IsFramed, table_length}
use Rattle.adf_format.specs.Placement.{Placement, NodeParts, TablePart, parts_of}
use Rattle.adf_format.specs.LaysOut.{HasTable}
use Rattle.adf_format.specs.Records.{SubNodes, entry_text}
use Rattle.adf_format.specs.Spelled.{framed_text}
use Rattle.adf_format.proofs.HexLaws.{pointer-pointer_text}
use Rattle.adf_format.proofs.FieldLaws.{field_left, field_right, field_whole, inner_field, length-field}
use Rattle.adf_format.proofs.SpelledParts.{entry_long, length-pointer_text, framed_long, framed_says, framed_body}
use Rattle.adf_model.specs.Creation.{used_entries, unused_entries}
use Rattle.adf_model.proofs.Basics.{not_there}
use Rattle.adf_model.proofs.Creation.CreatedParts.{padded_long}

-- ---- the entries in use

pub used_long : (old : List ℕ) (tree : Tree) (p : Placement) (parent : Node) (o : Option TablePart) → HasTable old tree p parent o → ((t : TablePart) → o ≡ Some t → t.place + table_length t.entries ≤ length old)
    → length (used_entries old o (length parent.children)) ≡ 44 * length parent.children
used_long old tree p parent None h within = let none : length parent.children ≡ 0 = ap length h in omega (arith, none)
used_long old tree p parent (Some t) h within =
    let e = length-field old (t.place + 16) (44 * length parent.children) in
    let le = h.1 in
    let inside = within t refl in
    omega (arith, e, le, inside)

pub used_says : (old : List ℕ) (tree : Tree) (p : Placement) (parent : Node) (o : Option TablePart) → HasTable old tree p parent o → (i child : ℕ) (was : Node) (place : NodeParts)
    → slice_get parent.children i ≡ Some child → node_at tree child ≡ Some was → parts_of p child ≡ Some place
    → (field (used_entries old o (length parent.children)) (44 * i) 32 ≡ text_field 32 was.name) × (pointer (field (used_entries old o (length parent.children)) (44 * i + 32) 12) ≡ Some (To place.header))
used_says old tree p parent None h i child was place e f g = absurd (not_there child (subst (λ (xs : List ℕ). slice_get xs i ≡ Some child) h e))
used_says old tree p parent (Some t) h i child was place e f g =
    let inside = slice_get_within parent.children i child e in
    let le = h.1 in
    let entry = h.3 i child was place e f g in (
      inner_field old (t.place + 16) (44 * length parent.children) (44 * i) 32 (omega (arith, inside)) ∙ ap (λ j. field old j 32) (omega arith)
          ∙ sym (inner_field old t.place (table_length t.entries) (16 + 44 * i) 32 (omega (arith, inside, le))) ∙ entry.named,
      ap pointer (inner_field old (t.place + 16) (44 * length parent.children) (44 * i + 32) 12 (omega (arith, inside)) ∙ ap (λ j. field old j 12) (omega arith)
          ∙ sym (inner_field old t.place (table_length t.entries) (48 + 44 * i) 12 (omega (arith, inside, le)))) ∙ entry.points,
    )

-- ---- the text of the table

module _ (used : List ℕ) (count entries place child : ℕ) (name : List ℕ) (long : length used ≡ 44 * count) (room : suc count ≤ entries) (short : length name ≤ 32) where
  abbrev pub rows : List ℕ
  rows = used ++ entry_text (text_field 32 name) (To child) ++ unused_entries (entries - suc count)

  front_long : length (used ++ entry_text (text_field 32 name) (To child)) ≡ 44 * count + 44
  front_long = let e = length-append used (entry_text (text_field 32 name) (To child)) in let f = entry_long name child short in omega (arith, e, f, long)

  pub rows_long : length (used ++ entry_text (text_field 32 name) (To child) ++ unused_entries (entries - suc count)) ≡ 44 * entries
  rows_long =
      let e = length-append (used ++ entry_text (text_field 32 name) (To child)) (unused_entries (entries - suc count)) in
      let f = front_long in
      let g = length-replicate {A = ℕ} (44 * (entries - suc count)) 0 in omega (arith, e, f, g, room)

  pub text_long : length (framed_text SubNodes place (used ++ entry_text (text_field 32 name) (To child) ++ unused_entries (entries - suc count))) ≡ table_length entries
  text_long = framed_long SubNodes place rows ∙ ap (λ n. 20 + n) rows_long

  pub text_spells : place + table_length entries ≤ 2 ^ 44 → SpellsTable (framed_text SubNodes place (used ++ entry_text (text_field 32 name) (To child) ++ unused_entries (entries - suc count))) place entries
  text_spells near =
      subst (λ n. IsFramed (framed_text SubNodes place rows) place n (codes "SNTb") (codes "snTE")) (ap (λ n. 20 + n) rows_long) (framed_says SubNodes place rows (let e = rows_long in omega (arith, e, near)))

  -- an entry that was in use
  pub old_entry : (i header : ℕ) (text : List ℕ) → i < count → field used (44 * i) 32 ≡ text_field 32 text → pointer (field used (44 * i + 32) 12) ≡ Some (To header)
      → SpellsEntry (framed_text SubNodes place (used ++ entry_text (text_field 32 name) (To child) ++ unused_entries (entries - suc count))) i text header
  old_entry i header text lt named points = record {
    named = at (16 + 44 * i) (44 * i) 32 (omega arith) (omega (arith, lt)) ∙ named;
    points = ap pointer (at (48 + 44 * i) (44 * i + 32) 12 (omega arith) (omega (arith, lt))) ∙ points;
  }
    where
      at : (o k n : ℕ) → o ≡ 16 + k → k + n ≤ 44 * count → field (framed_text SubNodes place rows) o n ≡ field used k n
      at o k n e le =
          framed_body SubNodes place rows o k n e (let f = rows_long in omega (arith, f, le, room))
          ∙ field_left (used ++ entry_text (text_field 32 name) (To child)) (unused_entries (entries - suc count)) k n (let f = front_long in omega (arith, f, le))
          ∙ field_left used (entry_text (text_field 32 name) (To child)) k n (omega (arith, long, le))

  -- the new entry
  pub new_entry : child < 2 ^ 44 → SpellsEntry (framed_text SubNodes place (used ++ entry_text (text_field 32 name) (To child) ++ unused_entries (entries - suc count))) count name child
  new_entry near = record {
    named = at (16 + 44 * count) (44 * count) 0 32 (omega arith) (omega arith) (omega arith)
        ∙ field_left (text_field 32 name) (pointer_text (To child)) 0 32 (let e = padded_long name short in omega (arith, e)) ∙ field_whole (text_field 32 name) 32 (padded_long name short);
    points = ap pointer (at (48 + 44 * count) (44 * count + 32) 32 12 (omega arith) (omega arith) (omega arith)
        ∙ field_right (text_field 32 name) (pointer_text (To child)) 32 0 12 (let e = padded_long name short in omega (arith, e)) ∙ field_whole (pointer_text (To child)) 12 (length-pointer_text (To child)))
        ∙ pointer-pointer_text child near;
  }
    where
      at : (o k j n : ℕ) → o ≡ 16 + k → k ≡ 44 * count + j → j + n ≤ 44 → field (framed_text SubNodes place rows) o n ≡ field (entry_text (text_field 32 name) (To child)) j n
      at o k j n e f le =
          framed_body SubNodes place rows o k n e (let r = rows_long in omega (arith, r, f, le, room))
          ∙ field_left (used ++ entry_text (text_field 32 name) (To child)) (unused_entries (entries - suc count)) k n (let r = front_long in omega (arith, r, f, le))
          ∙ field_right used (entry_text (text_field 32 name) (To child)) k j n (omega (arith, long, f))
