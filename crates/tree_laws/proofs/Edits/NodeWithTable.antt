-- A node and a longer table, both in ranges that were taken, join a parent: the old table is taken from then on.
use Rattle.std.proofs.Common.{◌≡◌, ◌≢◌, ◌⊎◌, inl, inr, ℕ, suc, refl, sym, ◌∙◌, ap, subst, arith, List, [], ◌∷◌, ◌++◌, length, length-append, ◌+◌, ◌-◌, ◌*◌, ◌^◌, ◌<◌, ◌≤◌, true}
use Rattle.std.proofs.lemmas.Bool.Decides.{eqb_tells}
use Rattle.std.proofs.lemmas.List.{map-append}
use Rattle.std.proofs.lemmas.Option.{slice_get_within}
use Rattle.std.proofs.Math.Seq.{map-set_same}
use Rattle.std.specs.Prelude.{Option, Some, None, slice_set, is_some}
use Rattle.adf_format.specs.declared.types.Extent.{Extent}
use Rattle.adf_format.specs.declared.types.ExtentKind.{ExtentKind}
use Rattle.adf_format.specs.Hex.{hex_text, hex_value}
use Rattle.adf_format.specs.Pointer.{To, pointer, pointer_text}
use Rattle.adf_format.specs.Fields.{field, text_field}
use Rattle.adf_format.specs.Tree.{Tree, Node, IsTree, node_at, children_of}
use Rattle.adf_format.specs.Tiles.{cover}
use Rattle.adf_format.specs.Parts.{SpellsNode, SpellsTable, SpellsEntry, node_length, table_length}
use Rattle.adf_format.specs.Placement.{Placement, NodeParts, TablePart, parts_of, extent, extents_of, node_extents, live_extents, head_extents, all_extents, table_extents, chunk_table_extents, chunk_extents}
use Rattle.adf_format.specs.LaysOut.{HoldsNode, HasTable, fields_of}
use Rattle.adf_format.specs.Changes.{Writes, KeepsBut, AllApart, SameChildren}
use Rattle.adf_format.specs.Records.{entry_text, SubNodes}
use Rattle.adf_format.proofs.HeapSteps.{cover-append}
use Rattle.adf_format.proofs.HeapLaws.{in_range}
use Rattle.adf_format.proofs.HexLaws.{hex_value-hex_text, length-hex_text, pointer-pointer_text}
use Rattle.adf_format.proofs.BehindEnd.{long_chunk_table, long_chunks}
use Rattle.adf_format.proofs.FieldLaws.{field_around, length-field, field_written, field_left, field_right, field_whole}
use Rattle.adf_format.proofs.FrameLaws.{field_kept, chunk_table_kept, chunks_kept, data_kept}
use Rattle.adf_model.specs.Edits.{with_new, given_children}
use Rattle.adf_model.proofs.Writes.Reaches.{stand_reaches}
use Rattle.adf_model.proofs.Basics.{same_Some}
use Rattle.adf_model.proofs.Creation.CreatedNodes.{at_new, at_set, at_other, there_inside, children_stay, names_now, parent_after, tree_after, placed_after, as_many}
use Rattle.adf_model.proofs.Creation.CreatedParts.{counted}
use Rattle.adf_model.proofs.Creation.PartsApart.{range_in, range_out, range_within, all_apart, cover_all, cover_two, cover_set, cover_last}
use Rattle.tree_laws.specs.Holding.{Holds, ChangesIn, MeetsNothing}
use Rattle.tree_laws.specs.NodeJoin.{NodeJoinsTable}
use Rattle.tree_laws.proofs.Tables.OwnParts.{least, data_parts, own_live as live_part, own_with as parts_with, apart_from, one_of_two}
use Rattle.tree_laws.proofs.Holding.Steps.{within, keeps_but, once, rebuilt}
use Rattle.tree_laws.proofs.Tables.TableReplaced.{few_dims}
use Rattle.tree_laws.proofs.Edits.NewNode.{node_reach, node_stays}
use Rattle.tree_laws.proofs.Edits.LabelSet.{written_in}
use Rattle.adf_model.proofs.Creation.TableText.{used_long, used_says, text_long, text_spells, old_entry, new_entry}
use Rattle.adf_model.specs.Creation.{used_entries, unused_entries}
use Rattle.adf_format.specs.Spelled.{framed_text}
use Rattle.adf_format.proofs.SpelledParts.{length-pointer_text}

module _ (old new : List ℕ) (tree : Tree) (p : Placement) (taken kept : List Extent) (kind : ExtentKind) (s table entries : ℕ) (parent child : Node) (from parts : NodeParts)
    (h : Holds old tree p (extent kind table (table_length entries) ∷ taken)) (here : node_at tree s ≡ Some parent) (stands : parts_of p s ≡ Some from)
    (few : suc (length parent.children) < 16 ^ 8) (room : suc (length parent.children) ≤ entries) (few_entries : entries < 16 ^ 8) (short : length child.name ≤ 32) (near : parts.header < 2 ^ 44)
    (table_near : table + table_length entries ≤ 2 ^ 44) (childless : child.children ≡ []) (whole : HoldsNode old tree p child parts) (shared : (b : ℕ) → cover (kept ++ node_extents tree.wide parts) b ≡ cover taken b)
    (list : field old table (table_length entries) ≡ framed_text SubNodes table (used_entries old from.table (length parent.children) ++ entry_text (text_field 32 child.name) (To parts.header) ++ unused_entries (entries - suc (length parent.children))))
    (w : Writes (from.header + 68) (hex_text 8 (suc (length parent.children)) ++ hex_text 8 entries ++ pointer_text (To table)) old new) where
  abbrev moved : TablePart
  moved = record { place = table; entries = entries }

  abbrev fields : List ℕ
  fields = hex_text 8 (suc (length parent.children)) ++ hex_text 8 entries ++ pointer_text (To table)

  fields_long : length fields ≡ 28
  fields_long =
      let a = length-append (hex_text 8 (suc (length parent.children)) ++ hex_text 8 entries) (pointer_text (To table)) in
      let b = length-append (hex_text 8 (suc (length parent.children))) (hex_text 8 entries) in
      let c = length-hex_text 8 (suc (length parent.children)) in
      let d = length-hex_text 8 entries in
      let e = length-pointer_text (To table) in omega (arith, a, b, c, d, e)

  abbrev to : NodeParts
  to = record from { table = Some moved }

  abbrev after : Tree
  after = tree_after tree p s parent from to child parts p.heap

  abbrev q : Placement
  q = placed_after tree p s parent from to child parts p.heap

  abbrev now : Node
  now = parent_after tree p s parent from to child parts p.heap

  abbrev ranges : List Extent
  ranges = extent ExtentKind.Node (from.header + 68) 28 ∷ []

  changes : ChangesIn ranges old new
  changes = written_in ExtentKind.Node (from.header + 68) 28 fields old new w fields_long

  inside : s < length p.parts
  inside = there_inside p.parts s from stands

  abbrev rest : List Extent
  rest = data_parts from

  -- the node's own extents: its header, its table and its data
  own_with : (o : Option TablePart) (b : ℕ) → cover (node_extents tree.wide (record from { table = o })) b ≡ in_range from.header (node_length tree.wide) b + (cover (table_extents o) b + cover rest b)
  own_with o b = parts_with tree.wide from o b

  own_split : (b : ℕ) → cover (node_extents tree.wide from) b ≡ in_range from.header (node_length tree.wide) b + (cover (table_extents from.table) b + cover rest b)
  own_split b = own_with from.table b

  own_live : (b : ℕ) → cover (node_extents tree.wide from) b ≤ cover (live_extents tree.wide p) b
  own_live b = live_part tree.wide p s from stands b

  -- what is written lies in the header
  in_own : (b : ℕ) → cover ranges b ≤ in_range from.header (node_length tree.wide) b
  in_own b = let m = least tree.wide in let y = range_within from.header (node_length tree.wide) (from.header + 68) 28 b (omega arith) (omega (arith, m)) in omega (arith, y)

  abbrev all_taken : List Extent
  all_taken = extent kind table (table_length entries) ∷ taken

  owned : (b : ℕ) → cover all_taken b + (cover head_extents b + cover (live_extents tree.wide p) b + cover p.heap.gaps b) ≤ 1
  owned = once old tree p all_taken h

  held : (b : ℕ) → 0 < cover (live_extents tree.wide p) b → b < length old
  held b some = within old tree p all_taken h b (let all = cover_all tree.wide p b in omega (arith, all, some))

  header_ends : from.header + node_length tree.wide ≤ length old
  header_ends =
      let m = least tree.wide in
      let i = range_in from.header (node_length tree.wide) (from.header + node_length tree.wide - 1) (omega (arith, m)) (omega (arith, m)) in
      let sp = own_split (from.header + node_length tree.wide - 1) in
      let l = own_live (from.header + node_length tree.wide - 1) in
      let lt = held (from.header + node_length tree.wide - 1) (omega (arith, i, sp, l)) in
      omega (arith, lt, m)

  was : HoldsNode old tree p parent from
  was = h.nodes s parent from here stands

  header_long : length (field old from.header (node_length tree.wide)) ≡ node_length tree.wide
  header_long = let e = length-field old from.header (node_length tree.wide) in let k = header_ends in omega (arith, e, k)

  counts : Writes 68 fields (field old from.header (node_length tree.wide)) (field new from.header (node_length tree.wide))
  counts = field_around (from.header + 68) fields old new w from.header 68 (node_length tree.wide) refl (let e = fields_long in let m = least tree.wide in omega (arith, e, m)) header_ends

  said : (k n : ℕ) → k + n ≤ 28 → field (field new from.header (node_length tree.wide)) (68 + k) n ≡ field fields k n
  said k n le = field_written 68 fields (field old from.header (node_length tree.wide)) (field new from.header (node_length tree.wide)) counts k n (let e = fields_long in omega (arith, e, le))

  front_long : length (hex_text 8 (suc (length parent.children)) ++ hex_text 8 entries) ≡ 16
  front_long =
      let b = length-append (hex_text 8 (suc (length parent.children))) (hex_text 8 entries) in
      let c = length-hex_text 8 (suc (length parent.children)) in
      let d = length-hex_text 8 entries in omega (arith, b, c, d)

  first_is : field fields 0 8 ≡ hex_text 8 (suc (length parent.children))
  first_is =
      field_left (hex_text 8 (suc (length parent.children)) ++ hex_text 8 entries) (pointer_text (To table)) 0 8 (let e = front_long in omega (arith, e))
      ∙ field_left (hex_text 8 (suc (length parent.children))) (hex_text 8 entries) 0 8 (let e = length-hex_text 8 (suc (length parent.children)) in omega (arith, e))
      ∙ field_whole (hex_text 8 (suc (length parent.children))) 8 (length-hex_text 8 (suc (length parent.children)))

  second_is : field fields 8 8 ≡ hex_text 8 entries
  second_is =
      field_left (hex_text 8 (suc (length parent.children)) ++ hex_text 8 entries) (pointer_text (To table)) 8 8 (let e = front_long in omega (arith, e))
      ∙ field_right (hex_text 8 (suc (length parent.children))) (hex_text 8 entries) 8 0 8 (let e = length-hex_text 8 (suc (length parent.children)) in omega (arith, e))
      ∙ field_whole (hex_text 8 entries) 8 (length-hex_text 8 entries)

  third_is : field fields 16 12 ≡ pointer_text (To table)
  third_is =
      field_right (hex_text 8 (suc (length parent.children)) ++ hex_text 8 entries) (pointer_text (To table)) 16 0 12 (let e = front_long in omega (arith, e))
      ∙ field_whole (pointer_text (To table)) 12 (length-pointer_text (To table))

  parent_spelled : SpellsNode tree.wide (field new from.header (node_length tree.wide)) (record (fields_of parent from) { children = length (parent.children ++ length tree.nodes ∷ []); entries = entries; table = Some table })
  parent_spelled = counted tree.wide (field old from.header (node_length tree.wide)) (field new from.header (node_length tree.wide)) fields (fields_of parent from)
      (length (parent.children ++ length tree.nodes ∷ [])) entries (Some table) counts header_long (let e = fields_long in omega (arith, e)) was.header (few_dims tree s parent h.is_tree here)
      (ap hex_value (said 0 8 (omega arith) ∙ first_is) ∙ hex_value-hex_text 8 (suc (length parent.children)) few ∙ ap (λ (k : ℕ). Some k) (let e = length-append parent.children (length tree.nodes ∷ []) in omega (arith, e)))
      (ap hex_value (said 8 8 (omega arith) ∙ second_is) ∙ hex_value-hex_text 8 entries few_entries)
      (ap pointer (said 16 12 (omega arith) ∙ third_is) ∙ pointer-pointer_text table (omega (arith, table_near)))

  used : length (used_entries old from.table (length parent.children)) ≡ 44 * length parent.children
  used = used_long old tree p parent from.table was.table (λ t e. ends t (λ b. ap (λ (o : Option TablePart). cover (table_extents o) b) e))
    where
      ends : (t : TablePart) → ((b : ℕ) → cover (table_extents from.table) b ≡ in_range t.place (table_length t.entries) b + 0) → t.place + table_length t.entries ≤ length old
      ends t own =
          let i = range_in t.place (table_length t.entries) (t.place + table_length t.entries - 1) (omega arith) (omega arith) in
          let o = own (t.place + table_length t.entries - 1) in
          let sp = own_split (t.place + table_length t.entries - 1) in
          let l = own_live (t.place + table_length t.entries - 1) in
          let lt = held (t.place + table_length t.entries - 1) (omega (arith, i, o, sp, l)) in
          omega (arith, lt)

  list_reaches : table + table_length entries ≤ length old
  list_reaches = stand_reaches old table (table_length entries) (omega arith)
      (ap length list ∙ text_long (used_entries old from.table (length parent.children)) (length parent.children) entries table parts.header child.name used room short)

  list_now : field new table (table_length entries) ≡ framed_text SubNodes table (used_entries old from.table (length parent.children) ++ entry_text (text_field 32 child.name) (To parts.header) ++ unused_entries (entries - suc (length parent.children)))
  list_now = field_kept (table_length entries) table old new (λ b low high.
      let i = range_in table (table_length entries) b low high in
      let r = list_reaches in
      let o = in_own b in
      let sp = own_split b in
      let l = own_live b in
      let one = owned b in
      changes.others b (omega (arith, r, high)) (omega (arith, i, o, sp, l, one))) ∙ list

  table_now : HasTable new after q now (Some moved)
  table_now = (
    omega (arith, room),
    (let e = length-append parent.children (length tree.nodes ∷ []) in omega (arith, e, room)),
    subst (λ bytes. SpellsTable bytes table entries) (sym list_now) (text_spells (used_entries old from.table (length parent.children)) (length parent.children) entries table parts.header child.name used room short table_near),
    names_now tree p s parent from to child parts p.heap h.is_tree h.same_nodes here stands refl (field new table (table_length entries))
        (λ i c node at e f g.
        let inside = slice_get_within parent.children i c e in
        let says = used_says old tree p parent from.table was.table i c node at e f g in
        subst (λ bytes. SpellsEntry bytes i node.name at.header) (sym list_now)
        (old_entry (used_entries old from.table (length parent.children)) (length parent.children) entries table parts.header child.name used room short i at.header node.name inside says.0 says.1))
        (subst (λ bytes. SpellsEntry bytes (length parent.children) child.name parts.header) (sym list_now) (new_entry (used_entries old from.table (length parent.children)) (length parent.children) entries table parts.header child.name used room short near)),
  )

  keeps : KeepsBut ranges (length old - 1) old new
  keeps = keeps_but old tree p all_taken h ranges new changes

  far : (xs : List Extent) → ((b : ℕ) → cover xs b ≤ cover rest b) → (b : ℕ) → 0 < cover xs b → (b ≤ length old - 1) × (cover ranges b ≡ 0)
  far xs among b some =
      let a = among b in
      let sp = own_split b in
      let l = own_live b in
      let one = owned b in
      let o = in_own b in
      ((let lt = held b (omega (arith, a, sp, l, some)) in omega (arith, lt)), omega (arith, a, sp, l, one, o, some))

  rest_split : (b : ℕ) → cover rest b ≡ cover (chunk_table_extents from.chunk_table (length from.chunks)) b + cover (chunk_extents from.chunks) b
  rest_split b = cover-append (chunk_table_extents from.chunk_table (length from.chunks)) (chunk_extents from.chunks) b

  table_apart : AllApart ranges (length old - 1) (chunk_table_extents from.chunk_table (length from.chunks))
  table_apart = all_apart ranges (length old - 1) (chunk_table_extents from.chunk_table (length from.chunks)) (long_chunk_table from.chunk_table (length from.chunks))
      (far (chunk_table_extents from.chunk_table (length from.chunks)) (λ b. let e = rest_split b in omega (arith, e)))

  chunks_apart : AllApart ranges (length old - 1) (chunk_extents from.chunks)
  chunks_apart = all_apart ranges (length old - 1) (chunk_extents from.chunks) (long_chunks old from.chunks was.chunks) (far (chunk_extents from.chunks) (λ b. let e = rest_split b in omega (arith, e)))

  parent_held : HoldsNode new after q now to
  parent_held = record {
    header = parent_spelled;
    table = table_now;
    chunk_table = chunk_table_kept ranges (length old - 1) old new keeps from.chunks from.chunk_table table_apart was.chunk_table;
    chunks = chunks_kept ranges (length old - 1) old new keeps from.chunks chunks_apart was.chunks;
    bytes = data_kept ranges (length old - 1) old new keeps from.chunks parent.bytes chunks_apart was.bytes;
  }

  -- the new node
  in_taken : (b : ℕ) → cover (node_extents tree.wide parts) b ≤ cover taken b
  in_taken b = let x = shared b in let y = cover-append kept (node_extents tree.wide parts) b in omega (arith, x, y)

  new_held : HoldsNode new after q child parts
  new_held = node_stays ranges old new keeps tree after p q child parts refl childless (λ b some.
      let i = in_taken b in
      let o = in_own b in
      let sp = own_split b in
      let l = own_live b in
      let one = owned b in
      omega (arith, i, o, sp, l, one, some)) whole

  -- the whole
  live_now : (b : ℕ) → cover (live_extents tree.wide q) b + cover (table_extents from.table) b ≡ cover (live_extents tree.wide p) b + cover (node_extents tree.wide parts) b + in_range table (table_length entries) b
  live_now b =
      let last = cover_last (extents_of tree.wide) (slice_set p.parts s (Some to)) b (Some parts) in
      let swap = cover_set (extents_of tree.wide) p.parts s b (Some to) inside in
      let own : cover (extents_of tree.wide (parts_of p s)) b ≡ cover (node_extents tree.wide from) b = ap (λ (o : Option NodeParts). cover (extents_of tree.wide o) b) stands in
      let before = own_split b in
      let then = own_with (Some moved) b in
      omega (arith, last, swap, own, before, then)

  pub node_joined : IsTree after → Holds new after q (table_extents from.table ++ kept)
  node_joined is = rebuilt ranges (s ∷ length tree.nodes ∷ []) tree after p q all_taken (table_extents from.table ++ kept) old new h (record {
    is_tree = is;
    wide = refl;
    format = refl;
    same_nodes =
        map-append is_some (slice_set p.parts s (Some to)) (Some parts ∷ [])
        ∙ ap (λ xs. xs ++ true ∷ []) (map-set_same is_some p.parts s (Some to) None (sym (ap is_some stands)) ∙ h.same_nodes ∙ sym (map-set_same is_some tree.nodes s (Some now) None (sym (ap is_some here))))
        ∙ sym (map-append is_some (slice_set tree.nodes s (Some now)) (Some child ∷ []));
    heap = refl;
    root = λ root e. elim (eqb_tells 0 s) [
      | inl z ↦ (
        to,
        ap (parts_of q) z.1 ∙ at_set p.parts s (Some to) (Some parts) None inside,
        ap (λ (x : NodeParts). x.header) (same_Some from root (sym stands ∙ ap (parts_of p) (sym z.1) ∙ e)),
      )
      | inr z ↦ (root, at_other p.parts s 0 (Some to) (Some parts) None (λ same. let i = inside in omega (arith, same, i)) z.1 ∙ e, refl)
    ];
    changes = changes;
    apart = λ b some.
        let o = in_own b in
        let sp = own_split b in
        let l = own_live b in
        let one = owned b in
        let both = cover-append head_extents p.heap.gaps b in
        omega (arith, o, sp, l, one, both, some);
    owners = λ b.
        let a = cover-append (table_extents from.table ++ kept) (all_extents tree.wide q) b in
        let g = cover-append (table_extents from.table) kept b in
        let x = shared b in
        let y = cover-append kept (node_extents tree.wide parts) b in
        let c = cover-append taken (all_extents tree.wide p) b in
        let d = cover_all tree.wide q b in
        let e = cover_all tree.wide p b in
        let l = live_now b in
        omega (arith, a, g, x, y, c, d, e, l);
    beyond = λ b le.
        let x = changes.longer in
        let none : cover (all_extents tree.wide p) b ≡ 0 = h.beyond b (omega (arith, x, le)) in
        let all = cover_all tree.wide p b in
        let l = live_now b in
        let z = node_reach old tree p child parts whole b (omega (arith, x, le)) in
        let r2 = list_reaches in
        let z2 = range_out table (table_length entries) b (inr (omega (arith, r2, x, le))) in
        omega (arith, none, all, l, z, z2);
    others = λ k m ms unheld e f. other k m ms (apart_from s (length tree.nodes) k unheld) e f;
    those = λ k m ms among e f. that k m ms (one_of_two s (length tree.nodes) k among) e f;
  })
    where
      other : (k : ℕ) (m : Node) (ms : NodeParts) → (k ≢ s) × (k ≢ length tree.nodes) → node_at after k ≡ Some m → parts_of q k ≡ Some ms
          → (node_at tree k ≡ Some m) × (parts_of p k ≡ Some ms) × MeetsNothing ranges (node_extents tree.wide ms) × SameChildren tree p after q m.children
      other k m ms d e f =
          let at_node : node_at tree k ≡ Some m = sym (at_other tree.nodes s k (Some now) (Some child) None d.1 d.0) ∙ e in
          let at_parts : parts_of p k ≡ Some ms = sym (at_other p.parts s k (Some to) (Some parts) None (λ same. d.1 (same ∙ as_many tree p s parent from to child parts p.heap h.is_tree h.same_nodes here stands refl)) d.0) ∙ f in (
            at_node,
            at_parts,
            λ b some.
                let two = cover_two (extents_of tree.wide) p.parts s k b inside (there_inside p.parts k ms at_parts) d.0 in
                let its : cover (extents_of tree.wide (parts_of p k)) b ≡ cover (node_extents tree.wide ms) b = ap (λ (o : Option NodeParts). cover (extents_of tree.wide o) b) at_parts in
                let ours : cover (extents_of tree.wide (parts_of p s)) b ≡ cover (node_extents tree.wide from) b = ap (λ (o : Option NodeParts). cover (extents_of tree.wide o) b) stands in
                let o = in_own b in
                let sp = own_split b in
                let one = owned b in
                omega (arith, two, its, ours, o, sp, one, some),
            children_stay tree p s parent from to child parts p.heap h.is_tree h.same_nodes here stands refl k m at_node,
          )

      that : (k : ℕ) (m : Node) (ms : NodeParts) → (k ≡ s) ⊎ (k ≡ length tree.nodes) → node_at after k ≡ Some m → parts_of q k ≡ Some ms → HoldsNode new after q m ms
      that k m ms (inl same) e f =
          let is_node : now ≡ m = same_Some now m (sym (at_set tree.nodes s (Some now) (Some child) None (there_inside tree.nodes s parent here)) ∙ ap (node_at after) (sym same) ∙ e) in
          let at_parts : to ≡ ms = same_Some to ms (sym (at_set p.parts s (Some to) (Some parts) None inside) ∙ ap (parts_of q) (sym same) ∙ f) in
          subst (λ (x : Node). HoldsNode new after q x ms) is_node (subst (λ (x : NodeParts). HoldsNode new after q now x) at_parts parent_held)
      that k m ms (inr same) e f =
          let is_node : child ≡ m = same_Some child m (sym (at_new tree.nodes s k (Some now) (Some child) None same) ∙ e) in
          let at_parts : parts ≡ ms = same_Some parts ms
          (sym (at_new p.parts s k (Some to) (Some parts) None (same ∙ sym (as_many tree p s parent from to child parts p.heap h.is_tree h.same_nodes here stands refl))) ∙ f) in
          subst (λ (x : Node). HoldsNode new after q x ms) is_node (subst (λ (x : NodeParts). HoldsNode new after q child x) at_parts new_held)

-- the same in the words of the edit
pub node_joins_table : NodeJoinsTable
node_joins_table old new tree p taken kept kind s table entries parent child from parts h here stands few room few_entries short near table_near childless whole shared list w is =
    subst (λ (x : Tree). Holds new x (placed_after tree p s parent from (record from { table = Some (record { place = table; entries = entries }) }) child parts p.heap) (table_extents from.table ++ kept)) same_tree
    (node_joined old new tree p taken kept kind s table entries parent child from parts h here stands few room few_entries short near table_near childless whole shared list w (subst IsTree (sym same_tree) is))
  where
    same_tree : tree_after tree p s parent from (record from { table = Some (record { place = table; entries = entries }) }) child parts p.heap ≡ with_new tree s child
    same_tree = ap (λ (o : Option Node). record tree { nodes = slice_set tree.nodes s (given_children (children_of o ++ length tree.nodes ∷ []) o) ++ Some child ∷ [] }) (sym here)
