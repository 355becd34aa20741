-- A node in ranges that were taken: it ends by the end of the bytes, and stays where nothing of it is written.
use Rattle.std.proofs.Common.{◌≡◌, inl, inr, ℕ, zero, suc, refl, sym, ◌∙◌, ap, subst, arith, List, [], ◌∷◌, ◌++◌, length, take, replicate, ◌+◌, ◌-◌, ◌^◌, ◌<◌, ◌≤◌, Bool, true, false}
use Rattle.std.proofs.lemmas.List.{length-replicate}
use Rattle.std.specs.Prelude.{Option, Some, None, slice_get}
use Rattle.adf_format.specs.declared.types.Extent.{Extent}
use Rattle.adf_format.specs.Hex.{hex_value, hex_text}
use Rattle.adf_format.specs.Fields.{field}
use Rattle.adf_format.specs.Tree.{Tree, Node}
use Rattle.adf_format.specs.Tiles.{cover}
use Rattle.adf_format.specs.Parts.{NodeFields, SpellsNode, SpellsChunk, dimension_digits, node_length, table_length, payload}
use Rattle.adf_format.specs.Placement.{Placement, NodeParts, TablePart, node_extents, table_extents}
use Rattle.adf_format.specs.LaysOut.{HoldsNode, HasTable, fields_of, payloads}
use Rattle.adf_format.specs.Changes.{KeepsBut}
use Rattle.adf_format.specs.Records.{Data, node_text}
use Rattle.adf_format.specs.Spelled.{SaysNode, AllWide, framed_text}
use Rattle.adf_format.proofs.HexLaws.{hex_value-hex_text, length-hex_text}
use Rattle.adf_format.proofs.BehindEnd.{long_node}
use Rattle.adf_format.proofs.FieldLaws.{length-field, inner_field, field_whole}
use Rattle.adf_format.proofs.FrameLaws.{holds_kept}
use Rattle.adf_format.proofs.SpelledParts.{node_says, chunk_says, framed_body}
use Rattle.adf_model.specs.Edits.{new_link}
use Rattle.adf_model.proofs.Basics.{not_there, same_Some}
use Rattle.adf_model.proofs.Creation.CreatedParts.{padded_long, all_same}
use Rattle.adf_model.proofs.Writes.Reaches.{stand_reaches, less_or}
use Rattle.adf_model.proofs.Creation.PartsApart.{range_out, all_apart}
use Rattle.tree_laws.specs.NodeJoin.{LinkIsHeld, link_record, link_parts}
use Rattle.tree_laws.proofs.Data.DataSwitched.{frame_reaches, data_reach, own_parts}

pub header_reaches : (wide : Bool) (image : List ℕ) (place : ℕ) (f : NodeFields) → SpellsNode wide (field image place (node_length wide)) f → place + node_length wide ≤ length image
header_reaches wide image place f s =
    stand_reaches image place (node_length wide) (omega arith) (
    let last : length (field (field image place (node_length wide)) (node_length wide - 4) 4) ≡ 4 = ap (λ o. length (field (field image place (node_length wide)) o 4)) (omega arith) ∙ ap length s.end_tag in
    let inner = length-field (field image place (node_length wide)) (node_length wide - 4) 4 in
    let outer = length-field image place (node_length wide) in
    omega (arith, last, inner, outer))

list_reaches : (image : List ℕ) (tree : Tree) (p : Placement) (node : Node) (o : Option TablePart) → HasTable image tree p node o → (b : ℕ) → length image ≤ b → cover (table_extents o) b ≡ 0
list_reaches image tree p node None h b le = refl
list_reaches image tree p node (Some t) h b le =
    let r = frame_reaches image t.place (table_length t.entries) _ _ (omega arith) refl h.2 in
    let z = range_out t.place (table_length t.entries) b (inr (omega (arith, r, le))) in omega (arith, z)

-- a node that is held ends by the end of the bytes
pub node_reach : (image : List ℕ) (tree : Tree) (p : Placement) (node : Node) (parts : NodeParts) → HoldsNode image tree p node parts → (b : ℕ) → length image ≤ b → cover (node_extents tree.wide parts) b ≡ 0
node_reach image tree p node parts h b le =
    let sp = own_parts tree.wide parts b in
    let r = header_reaches tree.wide image parts.header (fields_of node parts) h.header in
    let z = range_out parts.header (node_length tree.wide) b (inr (omega (arith, r, le))) in
    let l = list_reaches image tree p node parts.table h.table b le in
    let d = data_reach image parts node.bytes (record { chunk_table = h.chunk_table; chunks = h.chunks; begins = h.bytes }) b le in
    omega (arith, sp, z, l, d)

-- and without children it is held in any tree of its width, where nothing of it is written
pub node_stays : (ranges : List Extent) (old new : List ℕ) → KeepsBut ranges (length old - 1) old new → (tree after : Tree) (p q : Placement) (node : Node) (parts : NodeParts) → after.wide ≡ tree.wide → node.children ≡ []
    → ((b : ℕ) → 0 < cover (node_extents tree.wide parts) b → cover ranges b ≡ 0) → HoldsNode old tree p node parts → HoldsNode new after q node parts
node_stays ranges old new keeps tree after p q node parts wide none apart h =
    holds_kept ranges (length old - 1) old new keeps tree after p q node parts wide
    (all_apart ranges (length old - 1) (node_extents tree.wide parts) (long_node old tree p node parts h) (λ b some. elim (less_or b (length old)) [
      | inl lt ↦ (omega (arith, lt), apart b some)
      | inr le ↦ absurd (let z = node_reach old tree p node parts h b le in omega (arith, z, some))
    ]))
    (λ i child now at e f g. absurd (not_there child (ap (λ (xs : List ℕ). slice_get xs i) (sym none) ∙ e))) h

-- ---- a link

below : (w : Bool) (n : ℕ) → n ≤ 4096 → n < 16 ^ dimension_digits w
below false n le = omega (arith, le)
below true n le = omega (arith, le)

abbrev zero_dimension : Bool → List ℕ
zero_dimension wide = replicate (dimension_digits wide) 48

first_wide : (w : ℕ) (t : List ℕ) (ts : List (List ℕ)) → length t ≡ w → AllWide w ts → AllWide w (t ∷ ts)
first_wide w t ts long all zero x e = ap length (sym (same_Some t x e)) ∙ long
first_wide w t ts long all (suc i) x e = all i x e

first_dim : (n : ℕ) (t : List ℕ) (ts : List (List ℕ)) → hex_value t ≡ Some n → (i d : ℕ) (text : List ℕ) → slice_get (n ∷ []) i ≡ Some d → slice_get (t ∷ ts) i ≡ Some text → hex_value text ≡ Some d
first_dim n t ts v zero d text e f = ap hex_value (sym (same_Some t text f)) ∙ v ∙ e
first_dim n t ts v (suc i) d text e f = absurd (not_there d e)

module _ (image : List ℕ) (tree : Tree) (p : Placement) (name text body : List ℕ) (header place : ℕ) (short : length name ≤ 32) (some : 0 < length text) (few : length text ≤ 4096) (all : length text ≤ length body) (begins : take (length text) body ≡ text)
    (near : place + 20 + length body ≤ 2 ^ 44) (spelled : field image header (node_length tree.wide) ≡ node_text (link_record tree.wide name (length text) place)) (stands : field image place (20 + length body) ≡ framed_text Data place body) where
  abbrev parts : NodeParts
  parts = link_parts header place (20 + length body)

  says : SaysNode tree.wide (link_record tree.wide name (length text) place) (fields_of (new_link name text) (link_parts header place (20 + length body)))
  says = record {
    name = refl;
    long_name = padded_long name short;
    label = refl;
    long_label = padded_long [] (omega arith);
    children = refl;
    few_children = omega arith;
    entries = refl;
    few_entries = omega arith;
    table = refl;
    table_in_reach = tt;
    kind = refl;
    rank = refl;
    few_dims = omega arith;
    twelve = ap suc (length-replicate 11 (zero_dimension tree.wide));
    long_dims = first_wide (dimension_digits tree.wide) (hex_text (dimension_digits tree.wide) (length text)) (replicate 11 (zero_dimension tree.wide)) (length-hex_text (dimension_digits tree.wide) (length text))
        (all_same (dimension_digits tree.wide) 11 (zero_dimension tree.wide) (length-replicate (dimension_digits tree.wide) 48));
    dims = first_dim (length text) (hex_text (dimension_digits tree.wide) (length text)) (replicate 11 (zero_dimension tree.wide))
        (hex_value-hex_text (dimension_digits tree.wide) (length text) (below tree.wide (length text) few));
    chunks = refl;
    few_chunks = omega arith;
    chunk = refl;
    chunk_in_reach = omega (arith, near);
  }

  payload_is : payload image place (20 + length body) ≡ body
  payload_is =
      ap (field image (place + 16)) (omega arith)
      ∙ sym (inner_field image place (20 + length body) 16 (length body) (omega arith))
      ∙ ap (λ bytes. field bytes 16 (length body)) stands
      ∙ framed_body Data place body 16 0 (length body) (omega arith) (omega arith) ∙ field_whole body (length body) refl

  all_payloads : payloads image (link_parts header place (20 + length body)).chunks ≡ body
  all_payloads = none (payload image place (20 + length body)) ∙ payload_is
    where
      none : (xs : List ℕ) → xs ++ [] ≡ xs
      none [] = refl
      none (x ∷ xs) = ap (λ ys. x ∷ ys) (none xs)

  pub link_held : HoldsNode image tree p (new_link name text) (link_parts header place (20 + length body))
  link_held = record {
    header = subst (λ bytes. SpellsNode tree.wide bytes (fields_of (new_link name text) parts)) (sym spelled) (node_says tree.wide (link_record tree.wide name (length text) place) (fields_of (new_link name text) parts) says);
    table = refl;
    chunk_table = omega arith;
    chunks = (subst (λ bytes. SpellsChunk bytes place (20 + length body)) (sym stands) (chunk_says place body (omega (arith, some, all)) near), tt);
    bytes = (λ e. cc, ap (take (length text)) all_payloads ∙ begins);
  }

pub link_is_held : LinkIsHeld
link_is_held image tree p name text body header place short some few all begins near spelled stands = link_held image tree p name text body header place short some few all begins near spelled stands
