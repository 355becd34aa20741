-- What is written of the nodes of a tree is what its packed file has.
use Rattle.std.proofs.Common.{◌≡◌, ℕ, zero, suc, ◌+◌, ◌-◌, ◌*◌, ◌<◌, ◌≤◌, List, [], ◌∷◌, ◌++◌, length, map, replicate, max, get_or, refl, sym, ◌∙◌, ap, subst, arith, append_assoc, Bool, Option, None, Some}
use Rattle.std.specs.Prelude.{option_map, slice_get, slice_index_or}
use Rattle.std.specs.List.{Contains, range_with_len, flat_map}
use Rattle.std.proofs.lemmas.List.Elements.{Contains-get_or, Contains-append_right}
use Rattle.adf_format.specs.Fields.{text_field}
use Rattle.adf_format.specs.Pointer.{To}
use Rattle.adf_format.specs.Placement.{Placement}
use Rattle.adf_format.specs.HeapRule.{parts_at, parts_or_none}
use Rattle.adf_format.specs.Records.{NodeRecord, SubNodes, Data, head_text, end_tag, node_text, entry_text}
use Rattle.adf_format.specs.Parts.{node_length}
use Rattle.adf_format.specs.Spelled.{in_row}
use Rattle.adf_format.specs.Tree.{Tree, Node, name_at}
use Rattle.cg_io.specs.Device.{bytes_at}
use Rattle.layout_lint.specs.declared.verdict.NodePlace.{NodePlace}
use Rattle.packed_laws.specs.PackedForm.{packed_parts, packed_record, packed_room, packed_from, packed_entry, packed_entries, packed_payload, table_text, chunk_text, packed_node_text, packed_nodes_text}
use Rattle.packed_laws.proofs.PackedTexts.{entries_count, payload_long}
use Rattle.adf_repack.specs.declared.places.NodeShape.{NodeShape}
use Rattle.adf_repack.specs.declared.plan.Plan.{Plan}
use Rattle.adf_repack.specs.Copies.{IsHeaderOf, copied_record, copied_entry, position_in}
use Rattle.adf_repack.specs.Families.{children_of}
use Rattle.adf_repack.specs.Given.{HoldsData}
use Rattle.adf_repack.specs.Payloads.{copied_data}
use Rattle.adf_repack.specs.Places.{shape_of, table_room}
use Rattle.adf_repack.specs.Plans.{shape_at, header_at, copied_children, copied_node, table_in}
use Rattle.adf_repack.proofs.CopyLaws.{copied_is}
use Rattle.adf_repack.proofs.PlaceLaws.{table_is}

pub none_some : {A P : Type 0} (x : A) → ◌≡◌ {A = Option A} None (Some x) → P
none_some x e = cc

pub same_some : {A : Type 0} (x y : A) → ◌≡◌ {A = Option A} (Some x) (Some y) → x ≡ y
same_some x y e = cc

-- ---- one node

-- the entry of a child says its name and its place in the copy
pub record IsEntry (tree : Tree) (p : Placement) (image : List ℕ) (table : ℕ) (nodes : List NodePlace) (headers : List ℕ) (child : ℕ) : Type 0 where
  pub name : bytes_at image (table + 16 + 44 * position_in (slice_get nodes child)) 32 ≡ text_field 32 (name_at tree child)
  pub stands : get_or headers child 0 ≡ (parts_at p child).header

module _ (tree : Tree) (p : Placement) (image : List ℕ) (table : ℕ) (nodes : List NodePlace) (headers : List ℕ) where
  one_entry : (child : ℕ) → IsEntry tree p image table nodes headers child → copied_entry image table nodes headers child ≡ packed_entry tree p child
  one_entry child is =
      ap (λ (n : List ℕ). entry_text n (To (get_or headers child 0))) is.name
      ∙ ap (λ (k : ℕ). entry_text (text_field 32 (name_at tree child)) (To k)) is.stands

  all_entries : (kids : List ℕ) → ((child : ℕ) → Contains kids child → IsEntry tree p image table nodes headers child) → map (copied_entry image table nodes headers) kids ≡ packed_entries tree p kids
  all_entries [] each = refl
  all_entries (c ∷ cs) each =
      ap (λ (e : List ℕ). e ∷ map (copied_entry image table nodes headers) cs) (one_entry c (each c (Contains-get_or (c ∷ cs) 0 0 (omega arith))))
      ∙ ap (λ (l : List (List ℕ)). packed_entry tree p c ∷ l) (all_entries cs (λ k has. each k (Contains-append_right (c ∷ []) cs k has)))

  -- its table
  pub table_so : ((child : ℕ) → length (name_at tree child) ≤ 32) → (kids : List ℕ) (place : ℕ) → ((child : ℕ) → Contains kids child → IsEntry tree p image table nodes headers child)
      → copied_children image table nodes headers kids place ≡ table_text tree p place kids
  table_so names [] place each = refl
  table_so names (c ∷ cs) place each =
      ap (λ (l : List (List ℕ)). head_text SubNodes (To (place + 16 + 44 * length (c ∷ cs))) ++ (in_row l ++ end_tag SubNodes)) (all_entries (c ∷ cs) each)
      ∙ ap (λ (n : ℕ). head_text SubNodes (To (place + 16 + n)) ++ (in_row (packed_entries tree p (c ∷ cs)) ++ end_tag SubNodes)) (sym (entries_count tree p names (c ∷ cs)))
      ∙ sym (append_assoc (head_text SubNodes (To (place + 16 + length (in_row (packed_entries tree p (c ∷ cs)))))) (in_row (packed_entries tree p (c ∷ cs))) (end_tag SubNodes))

-- its data
pub data_so : (image : List ℕ) (r : NodeRecord) (bytes : Option (List ℕ)) (place : ℕ) → HoldsData image r bytes
    → copied_data image r (option_map (λ (b : List ℕ). length b) bytes) place ≡ chunk_text place bytes
data_so image r None place is = refl
data_so image r (Some bytes) place is =
    ap (λ (b : List ℕ). head_text Data (To (place + 16 + max 12 (length bytes))) ++ (b ++ (replicate (12 - length bytes) 0 ++ end_tag Data))) is.1
    ∙ ap (λ (b : List ℕ). head_text Data (To (place + 16 + max 12 (length bytes))) ++ b) (sym (append_assoc bytes (replicate (12 - length bytes) 0) (end_tag Data)))
    ∙ ap (λ (n : ℕ). head_text Data (To (place + 16 + n)) ++ (packed_payload bytes ++ end_tag Data)) (sym (payload_long bytes))
    ∙ sym (append_assoc (head_text Data (To (place + 16 + length (packed_payload bytes)))) (packed_payload bytes) (end_tag Data))

-- its parts
abbrev parts_text : List ℕ → NodeRecord → List NodePlace → List ℕ → ℕ → Bool → NodeShape → List ℕ → List ℕ
parts_text image r nodes headers at wide shape kids =
    node_text (copied_record wide r at shape)
    ++ (copied_children image (table_in r) nodes headers kids (at + node_length wide) ++ copied_data image r shape.size (at + node_length wide + table_room shape.children))

-- by a shape that is that of the node
pub node_so : (tree : Tree) (p : Placement) (image : List ℕ) (nodes : List NodePlace) (plan : Plan) (k : ℕ) (r : NodeRecord) (node : Node) → ((child : ℕ) → length (name_at tree child) ≤ 32)
    → plan.wide ≡ tree.wide → shape_at plan k ≡ shape_of node → IsHeaderOf r node → node.children ≡ children_of nodes k
    → ((child : ℕ) → Contains (children_of nodes k) child → IsEntry tree p image (table_in r) nodes plan.headers.items child) → HoldsData image r node.bytes
    → copied_node image nodes plan k r ≡ packed_node_text tree p (header_at plan k) node
node_so tree p image nodes plan k r node names wide shape says kids each holds =
    let at : ℕ = header_at plan k in
    let headers : List ℕ = plan.headers.items in
    let table : ℕ = at + node_length tree.wide in
    ap (λ (w : Bool). parts_text image r nodes headers at w (shape_at plan k) (children_of nodes k)) wide
    ∙ ap (λ (s : NodeShape). parts_text image r nodes headers at tree.wide s (children_of nodes k)) shape
    ∙ ap (λ (l : List ℕ). parts_text image r nodes headers at tree.wide (shape_of node) l) (sym kids)
    ∙ ap (λ (h : NodeRecord). node_text h ++ (copied_children image (table_in r) nodes headers node.children table
    ++ copied_data image r (shape_of node).size (table + table_room (length node.children)))) (copied_is tree.wide r at node says)
    ∙ ap (λ (l : List ℕ). node_text (packed_record tree.wide node (packed_parts tree.wide at node)) ++ (l ++ copied_data image r (shape_of node).size (table + table_room (length node.children))))
    (table_so tree p image (table_in r) nodes headers names node.children table (λ child has. each child (subst (λ (l : List ℕ). Contains l child) kids has)))
    ∙ ap (λ (l : List ℕ). node_text (packed_record tree.wide node (packed_parts tree.wide at node)) ++ (table_text tree p table node.children ++ l))
    (data_so image r node.bytes (table + table_room (length node.children)) holds)
    ∙ ap (λ (n : ℕ). node_text (packed_record tree.wide node (packed_parts tree.wide at node)) ++ (table_text tree p table node.children ++ chunk_text (table + n) node.bytes))
    (table_is node.children)

-- ---- all nodes

-- the i-th of some nodes stands at a place and is written so, and the next one stands behind it
pub record IsNext (tree : Tree) (p : Placement) (stands : ℕ → ℕ) (text : ℕ → List ℕ) (ns : List (Option Node)) (i k : ℕ) : Type 0 where
  pub node : Node
  pub live : slice_index_or ns i None ≡ Some node
  pub so : text k ≡ packed_node_text tree p (stands k) node
  pub next : stands (k + 1) ≡ stands k + packed_room tree.wide node

front : (k : ℕ) → k + 0 ≡ k
front k = omega arith

shift : (k i : ℕ) → k + suc i ≡ k + 1 + i
shift k i = omega arith

module _ (tree : Tree) (p : Placement) (stands : ℕ → ℕ) (text : ℕ → List ℕ) where
  step : (o : Option Node) (ns : List (Option Node)) (k : ℕ) → ((i : ℕ) → i < length (o ∷ ns) → IsNext tree p stands text (o ∷ ns) i (k + i)) → (i : ℕ) → i < length ns → IsNext tree p stands text ns i (k + 1 + i)
  step o ns k each i lt =
      let h = each (suc i) (omega (arith, lt)) in
      let same = shift k i in
      record {
        node = h.node;
        live = h.live;
        so = subst (λ (j : ℕ). text j ≡ packed_node_text tree p (stands j) h.node) same h.so;
        next = subst (λ (j : ℕ). stands (j + 1) ≡ stands j + packed_room tree.wide h.node) same h.next;
      }

  -- their texts in a row
  pub nodes_so : (ns : List (Option Node)) (k : ℕ) → ((i : ℕ) → i < length ns → IsNext tree p stands text ns i (k + i))
      → flat_map text (range_with_len k (length ns)) ≡ packed_nodes_text tree p (stands k) ns
  nodes_so [] k each = refl
  nodes_so (None ∷ ns) k each = let h = each 0 (omega arith) in none_some h.node h.live
  nodes_so (Some m ∷ ns) k each =
      let h = each 0 (omega arith) in
      let same : m ≡ h.node = same_some m h.node h.live in
      let at = front k in
      let here : text k ≡ packed_node_text tree p (stands k) m = subst (λ (j : ℕ). text j ≡ packed_node_text tree p (stands j) m) at (subst (λ (n : Node). text (k + 0) ≡ packed_node_text tree p (stands (k + 0)) n) (sym same) h.so) in
      let behind : stands (k + 1) ≡ stands k + packed_room tree.wide m = subst (λ (j : ℕ). stands (j + 1) ≡ stands j + packed_room tree.wide m) at (subst (λ (n : Node). stands (k + 0 + 1) ≡ stands (k + 0) + packed_room tree.wide n) (sym same) h.next) in
      ap (λ (l : List ℕ). l ++ flat_map text (range_with_len (k + 1) (length ns))) here
      ∙ ap (λ (l : List ℕ). packed_node_text tree p (stands k) m ++ l) (nodes_so ns (k + 1) (step (Some m) ns k each)
      ∙ ap (λ (n : ℕ). packed_nodes_text tree p n ns) behind)

-- ---- places

-- the i-th of some nodes stands at a place, and the next one behind it
pub record StandsNext (wide : Bool) (stands : ℕ → ℕ) (ns : List (Option Node)) (i k : ℕ) : Type 0 where
  pub node : Node
  pub live : slice_index_or ns i None ≡ Some node
  pub next : stands (k + 1) ≡ stands k + packed_room wide node

module _ (wide : Bool) (stands : ℕ → ℕ) where
  next_stands : (o : Option Node) (ns : List (Option Node)) (k : ℕ) → ((i : ℕ) → i < length (o ∷ ns) → StandsNext wide stands (o ∷ ns) i (k + i)) → (i : ℕ) → i < length ns → StandsNext wide stands ns i (k + 1 + i)
  next_stands o ns k each i lt =
      let h = each (suc i) (omega (arith, lt)) in
      record { node = h.node; live = h.live; next = subst (λ (j : ℕ). stands (j + 1) ≡ stands j + packed_room wide h.node) (shift k i) h.next }

  -- where the packed form has it
  pub stands_so : (ns : List (Option Node)) (k : ℕ) → ((i : ℕ) → i < length ns → StandsNext wide stands ns i (k + i)) → (i : ℕ) → i < length ns
      → (parts_or_none (slice_index_or (packed_from wide (stands k) ns) i None)).header ≡ stands (k + i)
  stands_so [] k each i lt = absurd (omega (arith, lt))
  stands_so (None ∷ ns) k each i lt = let h = each 0 (omega arith) in none_some h.node h.live
  stands_so (Some m ∷ ns) k each zero lt = ap stands (sym (front k))
  stands_so (Some m ∷ ns) k each (suc i) lt =
      let h = each 0 (omega arith) in
      let same : m ≡ h.node = same_some m h.node h.live in
      let behind : stands (k + 1) ≡ stands k + packed_room wide m = subst (λ (j : ℕ). stands (j + 1) ≡ stands j + packed_room wide m) (front k) (subst (λ (n : Node). stands (k + 0 + 1) ≡ stands (k + 0) + packed_room wide n) (sym same) h.next) in
      ap (λ (n : ℕ). (parts_or_none (slice_index_or (packed_from wide n ns) i None)).header) (sym behind)
      ∙ stands_so ns (k + 1) (next_stands (Some m) ns k each) i (omega (arith, lt)) ∙ ap stands (sym (shift k i))
