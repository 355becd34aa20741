-- A node's header in which one field is written.
use Rattle.std.proofs.Common.{◌≡◌, ◌⊎◌, inl, inr, ℕ, refl, sym, ◌∙◌, ap, arith, List, length, ◌+◌, ◌*◌, ◌^◌, ◌<◌, ◌≤◌, Bool, true, false}
use Rattle.std.proofs.lemmas.Option.{slice_get_within}
use Rattle.adf_format.specs.Hex.{hex_text, hex_value}
use Rattle.adf_format.specs.Fields.{field, text_field}
use Rattle.adf_format.specs.Parts.{NodeFields, SpellsNode, node_length, chunk_count_at, dimension_digits}
use Rattle.adf_format.specs.Changes.{Writes}
use Rattle.adf_format.proofs.FieldLaws.{field_beside, length-field, field_around}
use Rattle.adf_model.proofs.Creation.CreatedParts.{counted, pointer_same, padded_long, room}
use Rattle.adf_format.proofs.HexLaws.{hex_value-hex_text, length-hex_text}

least : (w : Bool) → 246 ≤ node_length w
least false = omega arith
least true = omega arith

-- a header in whose bytes a text of 32 is written at a place before the child count: all else stays
module _ (wide : Bool) (old new text : List ℕ) (at : ℕ) (was : NodeFields) (w : Writes at text old new) (long : length old ≡ node_length wide) (width : length text ≡ 32) (early : at + 32 ≤ 68) (s : SpellsNode wide old was) (few : length was.dims ≤ 12) where
  apart : (o n : ℕ) → (o + n ≤ at) ⊎ (at + 32 ≤ o) → o + n ≤ node_length wide → field new o n ≡ field old o n
  apart o n (inl h) le = field_beside at text old new w o n (omega (arith, le, long)) (inl h)
  apart o n (inr h) le = field_beside at text old new w o n (omega (arith, le, long)) (inr (omega (arith, h, width)))

  behind : (o n : ℕ) → 68 ≤ o → o + n ≤ node_length wide → field new o n ≡ field old o n
  behind o n from le = apart o n (inr (omega (arith, from, early))) le

  small : (o n : ℕ) → o + n ≤ 246 → o + n ≤ node_length wide
  small o n le = let m = least wide in omega (arith, m, le)

  stands : field new at 32 ≡ text
  stands = ap (field new at) (sym width) ∙ w.stands

  pub text_changed : (name label : List ℕ) → 4 ≤ at → field new 4 32 ≡ text_field 32 name → field new 36 32 ≡ text_field 32 label → SpellsNode wide new (record was { name = name; label = label })
  text_changed name label late n l = record {
    start_tag = apart 0 4 (inl late) (small 0 4 (omega arith)) ∙ s.start_tag;
    name = n;
    label = l;
    children = ap hex_value (behind 68 8 (omega arith) (small 68 8 (omega arith))) ∙ s.children;
    entries = ap hex_value (behind 76 8 (omega arith) (small 76 8 (omega arith))) ∙ s.entries;
    table = pointer_same old new 84 was.table (behind 84 12 (omega arith) (small 84 12 (omega arith))) s.table;
    kind = behind 96 32 (omega arith) (small 96 32 (omega arith)) ∙ s.kind;
    rank = ap hex_value (behind 128 2 (omega arith) (small 128 2 (omega arith))) ∙ s.rank;
    dims = λ i d e. ap hex_value (behind (130 + dimension_digits wide * i) (dimension_digits wide) (omega arith) (room wide i (let inside = slice_get_within was.dims i d e in omega (arith, few, inside)))) ∙ s.dims i d e;
    chunks = ap hex_value (behind (chunk_count_at wide) 4 (omega arith) (omega arith)) ∙ s.chunks;
    chunk = pointer_same old new (chunk_count_at wide + 4) was.chunk (behind (chunk_count_at wide + 4) 12 (omega arith) (omega arith)) s.chunk;
    end_tag = behind (chunk_count_at wide + 16) 4 (omega arith) (omega arith) ∙ s.end_tag;
  }

-- the label is written
pub label_written : (wide : Bool) (old new : List ℕ) (place : ℕ) (was : NodeFields) (label : List ℕ) → Writes (place + 36) (text_field 32 label) old new → place + node_length wide ≤ length old → length label ≤ 32 → length was.dims ≤ 12
    → SpellsNode wide (field old place (node_length wide)) was → SpellsNode wide (field new place (node_length wide)) (record was { label = label })
label_written wide old new place was label w le short few s =
    let width = padded_long label short in
    let m = least wide in
    let around = field_around (place + 36) (text_field 32 label) old new w place 36 (node_length wide) refl (omega (arith, width, m)) le in
    let long : length (field old place (node_length wide)) ≡ node_length wide = (let e = length-field old place (node_length wide) in omega (arith, e, le)) in
    text_changed wide (field old place (node_length wide)) (field new place (node_length wide)) (text_field 32 label) 36 was around long width (omega arith) s few was.name label (omega arith)
    (apart wide (field old place (node_length wide)) (field new place (node_length wide)) (text_field 32 label) 36 was around long width (omega arith) s few 4 32 (inl (omega arith)) (omega (arith, m)) ∙ s.name)
    (stands wide (field old place (node_length wide)) (field new place (node_length wide)) (text_field 32 label) 36 was around long width (omega arith) s few)

-- the name is written
pub name_written : (wide : Bool) (old new : List ℕ) (place : ℕ) (was : NodeFields) (name : List ℕ) → Writes (place + 4) (text_field 32 name) old new → place + node_length wide ≤ length old → length name ≤ 32 → length was.dims ≤ 12
    → SpellsNode wide (field old place (node_length wide)) was → SpellsNode wide (field new place (node_length wide)) (record was { name = name })
name_written wide old new place was name w le short few s =
    let width = padded_long name short in
    let m = least wide in
    let around = field_around (place + 4) (text_field 32 name) old new w place 4 (node_length wide) refl (omega (arith, width, m)) le in
    let long : length (field old place (node_length wide)) ≡ node_length wide = (let e = length-field old place (node_length wide) in omega (arith, e, le)) in
    text_changed wide (field old place (node_length wide)) (field new place (node_length wide)) (text_field 32 name) 4 was around long width (omega arith) s few name was.label (omega arith)
    (stands wide (field old place (node_length wide)) (field new place (node_length wide)) (text_field 32 name) 4 was around long width (omega arith) s few)
    (apart wide (field old place (node_length wide)) (field new place (node_length wide)) (text_field 32 name) 4 was around long width (omega arith) s few 36 32 (inr (omega arith)) (omega (arith, m)) ∙ s.label)

-- the number of children is written
pub count_written : (wide : Bool) (old new : List ℕ) (place n : ℕ) (was : NodeFields) → Writes (place + 68) (hex_text 8 n) old new → place + node_length wide ≤ length old → n < 16 ^ 8 → length was.dims ≤ 12
    → SpellsNode wide (field old place (node_length wide)) was → SpellsNode wide (field new place (node_length wide)) (record was { children = n })
count_written wide old new place n was w le small few s =
    let width = length-hex_text 8 n in
    let m = least wide in
    let around = field_around (place + 68) (hex_text 8 n) old new w place 68 (node_length wide) refl (omega (arith, width, m)) le in
    let long : length (field old place (node_length wide)) ≡ node_length wide = (let e = length-field old place (node_length wide) in omega (arith, e, le)) in
    counted wide (field old place (node_length wide)) (field new place (node_length wide)) (hex_text 8 n) was n was.entries was.table around long (omega (arith, width)) s few
    (ap hex_value (ap (field (field new place (node_length wide)) 68) (sym width) ∙ around.stands) ∙ hex_value-hex_text 8 n small)
    (ap hex_value (field_beside 68 (hex_text 8 n) (field old place (node_length wide)) (field new place (node_length wide)) around 76 8 (omega (arith, long, m)) (inr (omega (arith, width)))) ∙ s.entries)
    (pointer_same (field old place (node_length wide)) (field new place (node_length wide)) 84 was.table
    (field_beside 68 (hex_text 8 n) (field old place (node_length wide)) (field new place (node_length wide)) around 84 12 (omega (arith, long, m)) (inr (omega (arith, width)))) s.table)
