-- A node is held where the packed file has it.
use Rattle.std.proofs.Common.{◌≡◌, ℕ, zero, suc, refl, sym, ◌∙◌, ap, subst, arith, List, [], ◌∷◌, ◌++◌, length, map, replicate, take, ◌+◌, ◌-◌, ◌^◌, ◌<◌, ◌≤◌, max}
use Rattle.std.specs.Prelude.{Option, Some, None, slice_get}
use Rattle.std.specs.List.{AllByRecursion}
use Rattle.std.proofs.Math.Seq.{take-append_seam}
use Rattle.std.proofs.lemmas.List.{length-map, append-nil}
use Rattle.adf_format.specs.Fields.{field, text_field}
use Rattle.adf_format.specs.Pointer.{To}
use Rattle.adf_format.specs.Tree.{Tree, Node, IsNode, node_at, name_at, name_of}
use Rattle.adf_format.specs.Parts.{node_length, payload, SpellsNode, SpellsTable, SpellsEntry, SpellsChunk}
use Rattle.adf_format.specs.Placement.{Placement, NodeParts, ChunkPart, parts_of}
use Rattle.adf_format.specs.LaysOut.{HoldsNode, HasTable, HasData, fields_of}
use Rattle.adf_format.specs.HeapRule.{parts_at, parts_or_none, chunk_length_for}
use Rattle.adf_format.specs.Packed.{packed_table, packed_data}
use Rattle.adf_format.specs.Records.{SubNodes, Data, node_text, entry_text}
use Rattle.adf_format.specs.Spelled.{in_row, framed_text}
use Rattle.adf_format.proofs.FieldLaws.{inner_field, field_left, field_right, field_whole}
use Rattle.adf_format.proofs.SpelledParts.{node_says, node_long, framed_body, table_says_entries, entry_says, chunk_says}
use Rattle.packed_laws.specs.PackedForm.{table_at, chunks_at, table_place, chunk_place, packed_parts, packed_room, packed_record, packed_entry, packed_entries, table_text, packed_payload, chunk_text, packed_node_text}
use Rattle.packed_laws.proofs.NodeSays.{same_there, says, few_chunks}
use Rattle.packed_laws.proofs.PackedTexts.{entries_wide, entries_count, table_long, payload_long, chunk_long}

none_there : {A P : Type 0} (x : A) → ◌≡◌ {A = Option A} None (Some x) → P
none_there x e = cc

-- ---- the table

map_at : (f : ℕ → List ℕ) (xs : List ℕ) (i x : ℕ) → slice_get xs i ≡ Some x → slice_get (map f xs) i ≡ Some (f x)
map_at f [] i x at = none_there x at
map_at f (y ∷ ys) zero x at = ap (λ (n : ℕ). Some (f n)) (same_there y x at)
map_at f (y ∷ ys) (suc i) x at = map_at f ys i x at

module _ (image : List ℕ) (tree : Tree) (p : Placement) (names : (child : ℕ) → length (name_at tree child) ≤ 32)
    (reach : (k : ℕ) (node : Node) (parts : NodeParts) → node_at tree k ≡ Some node → parts_of p k ≡ Some parts → parts.header < 2 ^ 44) where
  entry_is : (child : ℕ) (its : Node) (at : NodeParts) → node_at tree child ≡ Some its → parts_of p child ≡ Some at → packed_entry tree p child ≡ entry_text (text_field 32 its.name) (To at.header)
  entry_is child its at live there =
      ap (λ (o : Option Node). entry_text (text_field 32 (name_of o)) (To (parts_at p child).header)) live
      ∙ ap (λ (o : Option NodeParts). entry_text (text_field 32 its.name) (To (parts_or_none o).header)) there

  table_held : (node : Node) (place : ℕ) (children : List ℕ) → node.children ≡ children → place + packed_table children ≤ 2 ^ 44
      → field image place (packed_table children) ≡ table_text tree p place children → HasTable image tree p node (table_at place children)
  table_held node place [] is near text = is
  table_held node place (c ∷ cs) is near text =
      let entries = packed_entries tree p (c ∷ cs) in
      let all = entries_wide tree p names (c ∷ cs) in
      let count : length entries ≡ length (c ∷ cs) = length-map (c ∷ cs) (packed_entry tree p) in
      let long = entries_count tree p names (c ∷ cs) in
      let near_all : place + 20 + length (in_row entries) ≤ 2 ^ 44 = omega (arith, near, long) in (
        omega arith,
        subst (λ (xs : List ℕ). length xs ≤ length (c ∷ cs)) (sym is) (omega arith),
        subst (λ (bytes : List ℕ). SpellsTable bytes place (length (c ∷ cs))) (sym text)
            (subst (λ n. SpellsTable (framed_text SubNodes place (in_row entries)) place n) count (table_says_entries place entries near_all all)),
        λ i child its at e live there. subst (λ (bytes : List ℕ). SpellsEntry bytes i its.name at.header) (sym text)
            (entry_says place entries i at.header its.name all (reach child its at live there)
            (subst (λ (o : Option Node). length (name_of o) ≤ 32) live (names child))
            (map_at (packed_entry tree p) (c ∷ cs) i child (ap (λ (xs : List ℕ). slice_get xs i) (sym is) ∙ e) ∙ ap Some (entry_is child its at live there))),
      )

  -- ---- the data

  chunks_held : (place : ℕ) (bytes : Option (List ℕ)) → place + packed_data bytes ≤ 2 ^ 44 → field image place (packed_data bytes) ≡ chunk_text place bytes
      → AllByRecursion (λ (c : ChunkPart). SpellsChunk (field image c.place c.length) c.place c.length) (chunks_at place bytes)
  chunks_held place None near text = tt
  chunks_held place (Some bytes) near text =
      let long = payload_long bytes in
      let same : 20 + length (packed_payload bytes) ≡ chunk_length_for (length bytes) = omega (arith, long) in (
        subst (λ (b : List ℕ). SpellsChunk b place (chunk_length_for (length bytes))) (sym text)
            (subst (λ n. SpellsChunk (framed_text Data place (packed_payload bytes)) place n) same (chunk_says place (packed_payload bytes) (omega (arith, long)) (omega (arith, near, long)))),
        tt,
      )

  data_held : (place : ℕ) (bytes : Option (List ℕ)) → field image place (packed_data bytes) ≡ chunk_text place bytes → HasData image (chunks_at place bytes) bytes
  data_held place None text = refl
  data_held place (Some bytes) text =
      let long = payload_long bytes in
      let n = length (packed_payload bytes) in
      let size = chunk_length_for (length bytes) in
      let here : payload image place size ≡ packed_payload bytes =
      ap (field image (place + 16)) (shorter (length bytes) n long)
      ∙ sym (inner_field image place size 16 n (omega (arith, long)))
      ∙ ap (λ (b : List ℕ). field b 16 n) text
      ∙ framed_body Data place (packed_payload bytes) 16 0 n (omega arith) (omega arith) ∙ field_whole (packed_payload bytes) n refl in
      (λ e. cc, ap (λ (b : List ℕ). take (length bytes) (b ++ [])) here ∙ ap (take (length bytes)) (append-nil (packed_payload bytes)) ∙ take-append_seam bytes (replicate (12 - length bytes) 0))
    where
      shorter : (b n : ℕ) → n ≡ max 12 b → chunk_length_for b - 20 ≡ n
      shorter b n e = omega (arith, e)

  -- ---- the node

  pub node_held : (at : ℕ) (node : Node) → IsNode tree.wide node → length node.children ≤ 2 ^ 20 → at + packed_room tree.wide node ≤ 2 ^ 44
      → ((o k n : ℕ) → o ≡ at + k → k + n ≤ packed_room tree.wide node → field image o n ≡ field (packed_node_text tree p at node) k n)
      → HoldsNode image tree p node (packed_parts tree.wide at node)
  node_held at node is few near text =
      let wide = tree.wide in
      let parts = packed_parts wide at node in
      let r = packed_record wide node parts in
      let s = says wide at node is few near in
      let T = node_text r in
      let table = table_text tree p (table_place wide at) node.children in
      let chunk = chunk_text (chunk_place wide at node) node.bytes in
      let t_long : length T ≡ node_length wide = node_long wide r (fields_of node parts) s in
      let table_is : length table ≡ packed_table node.children = table_long tree p names (table_place wide at) node.children in
      let chunk_is : length chunk ≡ packed_data node.bytes = chunk_long (chunk_place wide at node) node.bytes in
      let first : field image at (node_length wide) ≡ T =
      text at 0 (node_length wide) (omega arith) (omega arith) ∙ field_left T (table ++ chunk) 0 (node_length wide) (omega (arith, t_long)) ∙ field_whole T (node_length wide) t_long in
      let second : field image (table_place wide at) (packed_table node.children) ≡ table =
      text (table_place wide at) (node_length wide) (packed_table node.children) refl (omega arith)
      ∙ field_right T (table ++ chunk) (node_length wide) 0 (packed_table node.children) (omega (arith, t_long))
      ∙ field_left table chunk 0 (packed_table node.children) (omega (arith, table_is)) ∙ field_whole table (packed_table node.children) table_is in
      let third : field image (chunk_place wide at node) (packed_data node.bytes) ≡ chunk =
      text (chunk_place wide at node) (node_length wide + packed_table node.children) (packed_data node.bytes) (omega arith) (omega arith)
      ∙ field_right T (table ++ chunk) (node_length wide + packed_table node.children) (packed_table node.children) (packed_data node.bytes) (omega (arith, t_long))
      ∙ field_right table chunk (packed_table node.children) 0 (packed_data node.bytes) (omega (arith, table_is)) ∙ field_whole chunk (packed_data node.bytes) chunk_is in
      record {
        header = subst (λ (b : List ℕ). SpellsNode wide b (fields_of node parts)) (sym first) (node_says wide r (fields_of node parts) s);
        table = table_held node (table_place wide at) node.children refl (omega (arith, near)) second;
        chunk_table = few_chunks (chunk_place wide at node) node.bytes;
        chunks = chunks_held (chunk_place wide at node) node.bytes (omega (arith, near)) third;
        bytes = data_held (chunk_place wide at node) node.bytes third;
      }
