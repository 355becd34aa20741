-- What a created child is written into: its header and its parent's header; and the bytes of fillers.
use Rattle.std.proofs.Common.{◌≡◌, inl, inr, ℕ, zero, suc, refl, sym, ◌∙◌, ap, subst, arith, List, length, replicate, ◌+◌, ◌-◌, ◌*◌, ◌<◌, ◌≤◌, Bool, true, false, length-append}
use Rattle.std.proofs.lemmas.List.{length-replicate}
use Rattle.std.specs.Prelude.{Option, Some, None, slice_get}
use Rattle.adf_format.specs.Hex.{hex_value}
use Rattle.adf_format.specs.Pointer.{pointer}
use Rattle.std.proofs.lemmas.Option.{slice_get_within}
use Rattle.adf_format.specs.Fields.{field, text_field}
use Rattle.adf_format.specs.Tree.{Tree}
use Rattle.adf_format.specs.Parts.{NodeFields, SpellsNode, HasNumber, HasPointer, IsFiller, node_length, chunk_count_at, dimension_digits}
use Rattle.adf_format.specs.Placement.{Placement, NodeParts}
use Rattle.adf_format.specs.LaysOut.{HoldsNode, fields_of}
use Rattle.adf_format.specs.HeapRule.{no_parts}
use Rattle.adf_format.specs.Records.{node_text}
use Rattle.adf_format.specs.Spelled.{SaysNode, AllWide}
use Rattle.adf_format.specs.Changes.{Writes}
use Rattle.adf_format.proofs.FieldLaws.{field_beside, get_field, length-field}
use Rattle.adf_format.proofs.SpelledParts.{node_says, node_long}
use Rattle.adf_model.specs.Edits.{new_node}
use Rattle.adf_model.specs.Creation.{empty_node}
use Rattle.adf_model.proofs.Basics.{same_Some, not_there}
use Rattle.adf_model.proofs.Creation.FillerBytes.{get_replicate}

-- ---- the header of the new node

pub padded_long : (text : List ℕ) → length text ≤ 32 → length (text_field 32 text) ≡ 32
padded_long text short = length-append text (replicate (32 - length text) 32) ∙ ap (λ n. length text + n) (length-replicate (32 - length text) 32) ∙ omega (arith, short)

pub all_same : (w n : ℕ) (text : List ℕ) → length text ≡ w → AllWide w (replicate n text)
all_same w zero text long i t e = absurd (not_there t e)
all_same w (suc n) text long zero t e = ap length (sym (same_Some text t e)) ∙ long
all_same w (suc n) text long (suc i) t e = all_same w n text long i t e

abbrev zero_dimension : Bool → List ℕ
zero_dimension wide = replicate (dimension_digits wide) 48

module _ (wide : Bool) (name label : List ℕ) (place : ℕ) (short_name : length name ≤ 32) (short_label : length label ≤ 32) where
  abbrev pub its_parts : NodeParts
  its_parts = record no_parts { header = place }

  says : SaysNode wide (empty_node wide name label) (fields_of (new_node name label) (record no_parts { header = place }))
  says = record {
    name = refl;
    long_name = padded_long name short_name;
    label = refl;
    long_label = padded_long label short_label;
    children = refl;
    few_children = omega arith;
    entries = refl;
    few_entries = omega arith;
    table = refl;
    table_in_reach = tt;
    kind = refl;
    rank = refl;
    few_dims = omega arith;
    twelve = length-replicate 12 (zero_dimension wide);
    long_dims = all_same (dimension_digits wide) 12 (zero_dimension wide) (length-replicate (dimension_digits wide) 48);
    dims = λ i d text e f. absurd (not_there d e);
    chunks = refl;
    few_chunks = omega arith;
    chunk = refl;
    chunk_in_reach = tt;
  }

  pub empty_long : length (node_text (empty_node wide name label)) ≡ node_length wide
  empty_long = node_long wide (empty_node wide name label) (fields_of (new_node name label) (record no_parts { header = place })) says

  -- a node without children and data is held where its header stands
  pub node_held : (new : List ℕ) (tree : Tree) (p : Placement) → tree.wide ≡ wide → field new place (node_length wide) ≡ node_text (empty_node wide name label) → HoldsNode new tree p (new_node name label) (record no_parts { header = place })
  node_held new tree p same stands = record {
    header = subst (λ (w : Bool). SpellsNode w (field new place (node_length w)) (fields_of (new_node name label) (record no_parts { header = place }))) (sym same)
        (subst (λ bytes. SpellsNode wide bytes (fields_of (new_node name label) (record no_parts { header = place }))) (sym stands) (node_says wide (empty_node wide name label) (fields_of (new_node name label) (record no_parts { header = place })) says));
    table = refl;
    chunk_table = omega arith;
    chunks = tt;
    bytes = refl;
  }

-- ---- the parent's header: its fields from 68 up to 96 are written

pub pointer_same : (old new : List ℕ) (offset : ℕ) (o : Option ℕ) → field new offset 12 ≡ field old offset 12 → HasPointer old offset o → HasPointer new offset o
pointer_same old new offset None e h = ap pointer e ∙ h
pointer_same old new offset (Some place) e h = ap pointer e ∙ h

pub room : (w : Bool) (i : ℕ) → i < 12 → 130 + dimension_digits w * i + dimension_digits w ≤ node_length w
room false i lt = omega (arith, lt)
room true i lt = omega (arith, lt)

pub counted : (wide : Bool) (old new text : List ℕ) (was : NodeFields) (children entries : ℕ) (table : Option ℕ) → Writes 68 text old new → length old ≡ node_length wide → 68 + length text ≤ 96 → SpellsNode wide old was → length was.dims ≤ 12
    → HasNumber new 68 8 children → HasNumber new 76 8 entries → HasPointer new 84 table → SpellsNode wide new (record was { children = children; entries = entries; table = table })
counted wide old new text was children entries table w long short s few c e t = record {
  start_tag = before 0 4 (omega arith) ∙ s.start_tag;
  name = before 4 32 (omega arith) ∙ s.name;
  label = before 36 32 (omega arith) ∙ s.label;
  children = c;
  entries = e;
  table = t;
  kind = behind 96 32 (omega arith) (at_most wide 96 32 (omega arith)) ∙ s.kind;
  rank = ap hex_value (behind 128 2 (omega arith) (at_most wide 128 2 (omega arith))) ∙ s.rank;
  dims = λ i d at. ap hex_value (behind (130 + dimension_digits wide * i) (dimension_digits wide) (omega arith) (room wide i (let inside = slice_get_within was.dims i d at in omega (arith, few, inside)))) ∙ s.dims i d at;
  chunks = ap hex_value (behind (chunk_count_at wide) 4 (omega arith) (omega arith)) ∙ s.chunks;
  chunk = pointer_same old new (chunk_count_at wide + 4) was.chunk (behind (chunk_count_at wide + 4) 12 (omega arith) (omega arith)) s.chunk;
  end_tag = behind (chunk_count_at wide + 16) 4 (omega arith) (omega arith) ∙ s.end_tag;
}
  where
    before : (o n : ℕ) → o + n ≤ 68 → field new o n ≡ field old o n
    before o n le = field_beside 68 text old new w o n (let m = least wide in omega (arith, le, long, m)) (inl le)
      where
        least : (w : Bool) → 246 ≤ node_length w
        least false = omega arith
        least true = omega arith

    behind : (o n : ℕ) → 96 ≤ o → o + n ≤ node_length wide → field new o n ≡ field old o n
    behind o n from le = field_beside 68 text old new w o n (omega (arith, le, long)) (inr (omega (arith, from, short)))

    at_most : (w : Bool) (o n : ℕ) → o + n ≤ 246 → o + n ≤ node_length w
    at_most false o n le = omega (arith, le)
    at_most true o n le = omega (arith, le)

-- ---- the bytes of fillers

pub z_at : (n place b : ℕ) (image : List ℕ) → IsFiller (field image place n) → place ≤ b → b < place + n → b < length image → slice_get image b ≡ Some 122
z_at n place b image f low high inside =
    sym (get_field image place n (b - place) b (omega (arith, low, high)) (omega (arith, low)))
    ∙ ap (λ xs. slice_get xs (b - place)) f ∙ get_replicate (length (field image place n)) (b - place) 122 (let e = length-field image place n in omega (arith, e, low, high, inside))
