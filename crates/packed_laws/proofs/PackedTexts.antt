-- How long the parts of a packed file are, and where a node stands in it.
use Rattle.std.proofs.Common.{◌≡◌, ℕ, zero, suc, refl, sym, ◌∙◌, ap, subst, arith, List, [], ◌∷◌, ◌++◌, length, replicate, length-append, ◌+◌, ◌-◌, ◌*◌, ◌^◌, ◌<◌, ◌≤◌, max, Bool, true, false}
use Rattle.std.specs.Prelude.{Option, Some, None, slice_index_or}
use Rattle.std.proofs.lemmas.List.{length-replicate, length-map}
use Rattle.adf_format.specs.Hex.{is_hex}
use Rattle.adf_format.specs.Pointer.{To}
use Rattle.adf_format.specs.Fields.{field}
use Rattle.adf_format.specs.Tree.{Tree, Node, IsTree, IsNode, node_at, name_at, name_of}
use Rattle.adf_format.specs.Parts.{node_length}
use Rattle.adf_format.specs.Placement.{Placement, NodeParts}
use Rattle.adf_format.specs.LaysOut.{fields_of}
use Rattle.adf_format.specs.HeapRule.{parts_at}
use Rattle.adf_format.specs.Packed.{packed_table, packed_data, packed_nodes, packed_length}
use Rattle.adf_format.specs.Records.{SubNodes, Data, node_text}
use Rattle.adf_format.specs.Spelled.{AllWide, SaysHeader, in_row}
use Rattle.adf_format.proofs.FieldLaws.{field_left, field_right, length-in_row}
use Rattle.adf_format.proofs.FreshLaidOut.{each_below}
use Rattle.adf_format.proofs.SpelledParts.{node_long, framed_long, entry_long}
use Rattle.adf_format.specs.declared.types.Format.{Format}
use Rattle.adf_format.specs.Fresh.{fresh_header}
use Rattle.packed_laws.specs.PackedForm.{table_place, chunk_place, packed_parts, packed_room, packed_from, packed_header, packed_record, packed_entry, packed_entries, table_text, packed_payload, chunk_text, packed_node_text, packed_nodes_text}
use Rattle.packed_laws.proofs.NodeSays.{name_short, same_there, says}

-- ---- the file header

abbrev size_is : ℕ → Bool
size_is k = is_hex (field (replicate 24 48) (2 * k) 2)

sizes_are : (k : ℕ) → k < 12 → size_is k ≡ true
sizes_are k lt = ap size_is (front k) ∙ each_below size_is 0 12 k refl lt
  where
    front : (k : ℕ) → k ≡ 0 + k
    front k = omega arith

header_said : (wide : Bool) (format : Format) (end : ℕ) → end < 2 ^ 44
    → SaysHeader (record (fresh_header wide) { created = replicate 28 0; modified = replicate 28 0; format = format; end = To end }) wide format 266 end
header_said false format end near = record {
  long = refl;
  what = refl;
  letter = refl;
  what_end = refl;
  created = refl;
  modified = refl;
  numbers = refl;
  size_letter = refl;
  twelve = refl;
  sizes = sizes_are;
  root_pointer = refl;
  root_in_reach = omega arith;
  end_pointer = refl;
  end_in_reach = near;
  free_table = refl;
  extra = refl;
}
header_said true format end near = record {
  long = refl;
  what = refl;
  letter = refl;
  what_end = refl;
  created = refl;
  modified = refl;
  numbers = refl;
  size_letter = refl;
  twelve = refl;
  sizes = sizes_are;
  root_pointer = refl;
  root_in_reach = omega arith;
  end_pointer = refl;
  end_in_reach = near;
  free_table = refl;
  extra = refl;
}

-- what it says
pub header_says_so : (tree : Tree) → packed_length tree ≤ 2 ^ 44 → SaysHeader (packed_header tree) tree.wide tree.format 266 (packed_length tree - 1)
header_says_so tree near = header_said tree.wide tree.format (packed_length tree - 1) (omega (arith, near))

-- ---- lengths

name_small : (o : Option Node) → ((node : Node) → o ≡ Some node → length node.name ≤ 32) → length (name_of o) ≤ 32
name_small None short = omega arith
name_small (Some node) short = short node refl

pub names_short : (tree : Tree) → IsTree tree → (child : ℕ) → length (name_at tree child) ≤ 32
names_short tree is child = name_small (node_at tree child) (λ node e. name_short node.name (is.each child node e).named)

module _ (tree : Tree) (p : Placement) (names : (child : ℕ) → length (name_at tree child) ≤ 32) where
  pub entries_wide : (children : List ℕ) → AllWide 44 (packed_entries tree p children)
  entries_wide [] i text at = none text at
    where
      none : {P : Type 0} (text : List ℕ) → ◌≡◌ {A = Option (List ℕ)} None (Some text) → P
      none text e = cc
  entries_wide (c ∷ cs) zero text at = ap length (sym (same_there (packed_entry tree p c) text at)) ∙ entry_long (name_at tree c) (parts_at p c).header (names c)
  entries_wide (c ∷ cs) (suc i) text at = entries_wide cs i text at

  pub entries_count : (children : List ℕ) → length (in_row (packed_entries tree p children)) ≡ 44 * length children
  entries_count children = length-in_row 44 (packed_entries tree p children) (entries_wide children) ∙ ap (λ n. 44 * n) (length-map children (packed_entry tree p))

  pub table_long : (place : ℕ) (children : List ℕ) → length (table_text tree p place children) ≡ packed_table children
  table_long place [] = refl
  table_long place (c ∷ cs) = framed_long SubNodes place (in_row (packed_entries tree p (c ∷ cs))) ∙ ap (λ n. 20 + n) (entries_count (c ∷ cs))

pub payload_long : (bytes : List ℕ) → length (packed_payload bytes) ≡ max 12 (length bytes)
payload_long bytes = length-append bytes (replicate (12 - length bytes) 0) ∙ ap (λ n. length bytes + n) (length-replicate {A = ℕ} (12 - length bytes) 0) ∙ omega arith

pub chunk_long : (place : ℕ) (bytes : Option (List ℕ)) → length (chunk_text place bytes) ≡ packed_data bytes
chunk_long place None = refl
chunk_long place (Some bytes) = framed_long Data place (packed_payload bytes) ∙ ap (λ n. 20 + n) (payload_long bytes) ∙ omega arith

-- ---- the nodes

-- each node is one, and has not too many children
abbrev pub AreGood : Bool → List (Option Node) → Type 0
AreGood wide nodes = (k : ℕ) (node : Node) → slice_index_or nodes k None ≡ Some node → IsNode wide node × (length node.children ≤ 2 ^ 20)

-- a node of some stands there: its parts, and its text
pub record Stands (tree : Tree) (p : Placement) (place : ℕ) (nodes : List (Option Node)) (node : Node) (parts : NodeParts) : Type 0 where
  pub offset : ℕ
  pub at : ℕ
  pub at_is : at ≡ place + offset
  pub parts_are : parts ≡ packed_parts tree.wide at node
  pub room : offset + packed_room tree.wide node ≤ packed_nodes tree.wide nodes
  pub text : (o k n : ℕ) → o ≡ offset + k → k + n ≤ packed_room tree.wide node → field (packed_nodes_text tree p place nodes) o n ≡ field (packed_node_text tree p at node) k n

module _ (tree : Tree) (p : Placement) (names : (child : ℕ) → length (name_at tree child) ≤ 32) where
  pub node_text_long : (place : ℕ) (node : Node) → IsNode tree.wide node → length node.children ≤ 2 ^ 20 → place + packed_room tree.wide node ≤ 2 ^ 44
      → length (packed_node_text tree p place node) ≡ packed_room tree.wide node
  node_text_long place node is few near =
      let r = packed_record tree.wide node (packed_parts tree.wide place node) in
      let first : length (node_text r) ≡ node_length tree.wide = node_long tree.wide r (fields_of node (packed_parts tree.wide place node)) (says tree.wide place node is few near) in
      let table = table_text tree p (table_place tree.wide place) node.children in
      let chunk = chunk_text (chunk_place tree.wide place node) node.bytes in
      length-append (node_text r) (table ++ chunk)
      ∙ ap (λ n. n + length (table ++ chunk)) first
      ∙ ap (λ n. node_length tree.wide + n) (length-append table chunk)
      ∙ ap (λ n. node_length tree.wide + (n + length chunk)) (table_long tree p names (table_place tree.wide place) node.children)
      ∙ ap (λ n. node_length tree.wide + (packed_table node.children + n)) (chunk_long (chunk_place tree.wide place node) node.bytes)
      ∙ omega arith

  pub nodes_long : (place : ℕ) (nodes : List (Option Node)) → AreGood tree.wide nodes → place + packed_nodes tree.wide nodes ≤ 2 ^ 44
      → length (packed_nodes_text tree p place nodes) ≡ packed_nodes tree.wide nodes
  nodes_long place [] good near = refl
  nodes_long place (None ∷ nodes) good near = nodes_long place nodes (λ k node e. good (suc k) node e) near
  nodes_long place (Some node ∷ nodes) good near =
      length-append (packed_node_text tree p place node) (packed_nodes_text tree p (place + packed_room tree.wide node) nodes)
      ∙ ap (λ n. n + length (packed_nodes_text tree p (place + packed_room tree.wide node) nodes)) (node_text_long place node (good 0 node refl).0 (good 0 node refl).1 (omega (arith, near)))
      ∙ ap (λ n. packed_room tree.wide node + n) (nodes_long (place + packed_room tree.wide node) nodes (λ k m e. good (suc k) m e) (omega (arith, near)))

  pub stands : (place : ℕ) (nodes : List (Option Node)) → AreGood tree.wide nodes → place + packed_nodes tree.wide nodes ≤ 2 ^ 44 → (k : ℕ) (node : Node) (parts : NodeParts)
      → slice_index_or nodes k None ≡ Some node → slice_index_or (packed_from tree.wide place nodes) k None ≡ Some parts → Stands tree p place nodes node parts
  stands place [] good near k node parts here there = none node here
    where
      none : {P : Type 0} (node : Node) → ◌≡◌ {A = Option Node} None (Some node) → P
      none node e = cc
  stands place (None ∷ nodes) good near zero node parts here there = none node here
    where
      none : {P : Type 0} (node : Node) → ◌≡◌ {A = Option Node} None (Some node) → P
      none node e = cc
  stands place (None ∷ nodes) good near (suc k) node parts here there =
      let s = stands place nodes (λ j m e. good (suc j) m e) near k node parts here there in
      record { offset = s.offset; at = s.at; at_is = s.at_is; parts_are = s.parts_are; room = s.room; text = s.text }
  stands place (Some m ∷ nodes) good near zero node parts here there =
      let same : m ≡ node = same_there m node here in
      let is : parts ≡ packed_parts tree.wide place m = sym (same_there (packed_parts tree.wide place m) parts there) in
      let T = packed_node_text tree p place m in
      let rest = packed_nodes_text tree p (place + packed_room tree.wide m) nodes in
      let long : length T ≡ packed_room tree.wide m = node_text_long place m (good 0 m refl).0 (good 0 m refl).1 (omega (arith, near)) in
      subst (λ (x : Node). Stands tree p place (Some m ∷ nodes) x parts) same (record {
        offset = 0;
        at = place;
        at_is = omega arith;
        parts_are = is;
        room = omega arith;
        text = λ o k n e le. ap (λ i. field (T ++ rest) i n) (plain o k e) ∙ field_left T rest k n (omega (arith, le, long));
      })
    where
      plain : (o k : ℕ) → o ≡ 0 + k → o ≡ k
      plain o k e = omega (arith, e)
  stands place (Some m ∷ nodes) good near (suc k) node parts here there =
      let s = stands (place + packed_room tree.wide m) nodes (λ j x e. good (suc j) x e) (omega (arith, near)) k node parts here there in
      let T = packed_node_text tree p place m in
      let rest = packed_nodes_text tree p (place + packed_room tree.wide m) nodes in
      let long : length T ≡ packed_room tree.wide m = node_text_long place m (good 0 m refl).0 (good 0 m refl).1 (omega (arith, near)) in
      let its = s.at_is in
      let fits = s.room in
      record {
        offset = packed_room tree.wide m + s.offset;
        at = s.at;
        at_is = omega (arith, its);
        parts_are = s.parts_are;
        room = omega (arith, fits);
        text = λ o k n e le. field_right T rest o (s.offset + k) n (omega (arith, e, long)) ∙ s.text (s.offset + k) k n refl le;
      }
