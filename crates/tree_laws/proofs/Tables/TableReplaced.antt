-- A table takes the place of another that has the same entries in use; the old one is taken from then on.
use Rattle.std.proofs.Common.{◌≡◌, ◌≢◌, ◌⊎◌, inl, inr, ℕ, zero, suc, refl, sym, ◌∙◌, ap, subst, arith, List, [], ◌∷◌, ◌++◌, length, length-append, get_or, map, ◌+◌, ◌-◌, ◌*◌, ◌^◌, ◌<◌, ◌≤◌, Bool, true, false}
use Rattle.std.proofs.lemmas.Bool.Decides.{eqb_tells, nat_tests}
use Rattle.std.proofs.lemmas.Option.{slice_get_within}
use Rattle.std.proofs.Math.Seq.{map-set_same, get_or-set_same, get_or-set_other}
use Rattle.std.specs.Prelude.{Option, Some, None, slice_set, is_some, ◌==◌, ◌||◌, codes, nat_le, ◌&&◌}
use Rattle.adf_format.specs.declared.types.Extent.{Extent}
use Rattle.adf_format.specs.declared.types.ExtentKind.{ExtentKind}
use Rattle.adf_format.specs.Hex.{hex_text, hex_value}
use Rattle.adf_format.specs.Pointer.{To, pointer, pointer_text}
use Rattle.adf_format.specs.Fields.{field}
use Rattle.adf_format.specs.Tree.{Tree, Node, IsTree, node_at, is_among, children_of, children_at}
use Rattle.adf_format.specs.Tiles.{cover}
use Rattle.adf_format.specs.Parts.{SpellsNode, SpellsTable, SpellsEntry, node_length, table_length, IsFramed}
use Rattle.adf_format.specs.Placement.{Placement, NodeParts, TablePart, parts_of, extent, extents_of, node_extents, live_extents, head_extents, all_extents, table_extents, chunk_table_extents, chunk_extents}
use Rattle.adf_format.specs.LaysOut.{HoldsNode, HasTable, fields_of, NamesChildren}
use Rattle.adf_format.specs.Changes.{Writes, KeepsBut, AllApart, SameChildren}
use Rattle.adf_format.proofs.HeapSteps.{cover-append}
use Rattle.adf_format.proofs.HeapLaws.{in_range}
use Rattle.adf_format.proofs.HexLaws.{hex_value-hex_text, length-hex_text, pointer-pointer_text}
use Rattle.adf_format.proofs.BehindEnd.{long_chunk_table, long_chunks}
use Rattle.adf_format.proofs.FieldLaws.{field_around, length-field, field_written, field_left, field_right, field_whole}
use Rattle.adf_format.proofs.FrameLaws.{field_kept, chunk_table_kept, chunks_kept, data_kept}
use Rattle.adf_model.proofs.Writes.Reaches.{stand_reaches}
use Rattle.adf_model.proofs.Basics.{same_Some, not_true}
use Rattle.adf_model.proofs.Creation.CreatedNodes.{there_inside}
use Rattle.adf_model.proofs.Creation.CreatedParts.{counted}
use Rattle.adf_model.proofs.Creation.PartsApart.{range_in, range_out, range_within, all_apart, cover_all, cover_two, cover_set}
use Rattle.tree_laws.specs.Holding.{Holds, ChangesIn, MeetsNothing}
use Rattle.tree_laws.proofs.Tables.OwnParts.{least, data_parts, own_live as live_part, own_with as parts_with}
use Rattle.tree_laws.proofs.Holding.Steps.{within, keeps_but, once, rebuilt}
use Rattle.tree_laws.proofs.Edits.LabelSet.{written_in}
use Rattle.adf_model.proofs.Creation.TableText.{used_long, used_says}
use Rattle.adf_model.specs.Creation.{used_entries}
use Rattle.adf_format.specs.Records.{SubNodes}
use Rattle.adf_format.specs.Spelled.{framed_text}
use Rattle.adf_format.proofs.SpelledParts.{length-pointer_text, framed_long, framed_says, framed_body}
use Rattle.std.specs.List.{list_all}
use Rattle.adf_format.specs.Names.{is_rank_of, is_dimension}
use Rattle.tree_laws.specs.Tables.{TableIsReplaced}

module _ (old new rest : List ℕ) (tree : Tree) (p : Placement) (taken : List Extent) (kind : ExtentKind) (s table entries : ℕ) (parent : Node) (from : NodeParts)
    (h : Holds old tree p (extent kind table (table_length entries) ∷ taken)) (here : node_at tree s ≡ Some parent) (stands : parts_of p s ≡ Some from)
    (few_dims : length parent.dims ≤ 12) (room : length parent.children < entries) (few_entries : entries < 16 ^ 8) (table_near : table + table_length entries ≤ 2 ^ 44)
    (long : length rest ≡ 44 * (entries - length parent.children))
    (list : field old table (table_length entries) ≡ framed_text SubNodes table (used_entries old from.table (length parent.children) ++ rest))
    (w : Writes (from.header + 68) (hex_text 8 (length parent.children) ++ hex_text 8 entries ++ pointer_text (To table)) old new) where
  abbrev moved : TablePart
  moved = record { place = table; entries = entries }

  abbrev fields : List ℕ
  fields = hex_text 8 (length parent.children) ++ hex_text 8 entries ++ pointer_text (To table)

  fields_long : length fields ≡ 28
  fields_long =
      let a = length-append (hex_text 8 (length parent.children) ++ hex_text 8 entries) (pointer_text (To table)) in
      let b = length-append (hex_text 8 (length parent.children)) (hex_text 8 entries) in
      let c = length-hex_text 8 (length parent.children) in
      let d = length-hex_text 8 entries in
      let e = length-pointer_text (To table) in omega (arith, a, b, c, d, e)

  abbrev to : NodeParts
  to = record from { table = Some moved }

  abbrev q : Placement
  q = record p { parts = slice_set p.parts s (Some to) }

  abbrev ranges : List Extent
  ranges = extent ExtentKind.Node (from.header + 68) 28 ∷ []

  changes : ChangesIn ranges old new
  changes = written_in ExtentKind.Node (from.header + 68) 28 fields old new w fields_long

  inside : s < length p.parts
  inside = there_inside p.parts s from stands

  abbrev stay : List Extent
  stay = data_parts from

  -- the node's own extents: its header, its table and its data
  own_with : (o : Option TablePart) (b : ℕ) → cover (node_extents tree.wide (record from { table = o })) b ≡ in_range from.header (node_length tree.wide) b + (cover (table_extents o) b + cover stay b)
  own_with o b = parts_with tree.wide from o b

  own_split : (b : ℕ) → cover (node_extents tree.wide from) b ≡ in_range from.header (node_length tree.wide) b + (cover (table_extents from.table) b + cover stay b)
  own_split b = own_with from.table b

  own_live : (b : ℕ) → cover (node_extents tree.wide from) b ≤ cover (live_extents tree.wide p) b
  own_live b = live_part tree.wide p s from stands b

  -- what is written lies in the header
  in_own : (b : ℕ) → cover ranges b ≤ in_range from.header (node_length tree.wide) b
  in_own b = let m = least tree.wide in let y = range_within from.header (node_length tree.wide) (from.header + 68) 28 b (omega arith) (omega (arith, m)) in omega (arith, y)

  abbrev all_taken : List Extent
  all_taken = extent kind table (table_length entries) ∷ taken

  owned : (b : ℕ) → cover all_taken b + (cover head_extents b + cover (live_extents tree.wide p) b + cover p.heap.gaps b) ≤ 1
  owned = once old tree p all_taken h

  held : (b : ℕ) → 0 < cover (live_extents tree.wide p) b → b < length old
  held b some = within old tree p all_taken h b (let all = cover_all tree.wide p b in omega (arith, all, some))

  header_ends : from.header + node_length tree.wide ≤ length old
  header_ends =
      let m = least tree.wide in
      let i = range_in from.header (node_length tree.wide) (from.header + node_length tree.wide - 1) (omega (arith, m)) (omega (arith, m)) in
      let sp = own_split (from.header + node_length tree.wide - 1) in
      let l = own_live (from.header + node_length tree.wide - 1) in
      let lt = held (from.header + node_length tree.wide - 1) (omega (arith, i, sp, l)) in
      omega (arith, lt, m)

  was : HoldsNode old tree p parent from
  was = h.nodes s parent from here stands

  header_long : length (field old from.header (node_length tree.wide)) ≡ node_length tree.wide
  header_long = let e = length-field old from.header (node_length tree.wide) in let k = header_ends in omega (arith, e, k)

  counts : Writes 68 fields (field old from.header (node_length tree.wide)) (field new from.header (node_length tree.wide))
  counts = field_around (from.header + 68) fields old new w from.header 68 (node_length tree.wide) refl (let e = fields_long in let m = least tree.wide in omega (arith, e, m)) header_ends

  said : (k n : ℕ) → k + n ≤ 28 → field (field new from.header (node_length tree.wide)) (68 + k) n ≡ field fields k n
  said k n le = field_written 68 fields (field old from.header (node_length tree.wide)) (field new from.header (node_length tree.wide)) counts k n (let e = fields_long in omega (arith, e, le))

  front_long : length (hex_text 8 (length parent.children) ++ hex_text 8 entries) ≡ 16
  front_long =
      let b = length-append (hex_text 8 (length parent.children)) (hex_text 8 entries) in
      let c = length-hex_text 8 (length parent.children) in
      let d = length-hex_text 8 entries in omega (arith, b, c, d)

  first_is : field fields 0 8 ≡ hex_text 8 (length parent.children)
  first_is =
      field_left (hex_text 8 (length parent.children) ++ hex_text 8 entries) (pointer_text (To table)) 0 8 (let e = front_long in omega (arith, e))
      ∙ field_left (hex_text 8 (length parent.children)) (hex_text 8 entries) 0 8 (let e = length-hex_text 8 (length parent.children) in omega (arith, e))
      ∙ field_whole (hex_text 8 (length parent.children)) 8 (length-hex_text 8 (length parent.children))

  second_is : field fields 8 8 ≡ hex_text 8 entries
  second_is =
      field_left (hex_text 8 (length parent.children) ++ hex_text 8 entries) (pointer_text (To table)) 8 8 (let e = front_long in omega (arith, e))
      ∙ field_right (hex_text 8 (length parent.children)) (hex_text 8 entries) 8 0 8 (let e = length-hex_text 8 (length parent.children) in omega (arith, e))
      ∙ field_whole (hex_text 8 entries) 8 (length-hex_text 8 entries)

  third_is : field fields 16 12 ≡ pointer_text (To table)
  third_is =
      field_right (hex_text 8 (length parent.children) ++ hex_text 8 entries) (pointer_text (To table)) 16 0 12 (let e = front_long in omega (arith, e))
      ∙ field_whole (pointer_text (To table)) 12 (length-pointer_text (To table))

  parent_spelled : SpellsNode tree.wide (field new from.header (node_length tree.wide)) (record (fields_of parent from) { children = length parent.children; entries = entries; table = Some table })
  parent_spelled = counted tree.wide (field old from.header (node_length tree.wide)) (field new from.header (node_length tree.wide)) fields (fields_of parent from)
      (length parent.children) entries (Some table) counts header_long (let e = fields_long in omega (arith, e)) was.header few_dims
      (ap hex_value (said 0 8 (omega arith) ∙ first_is) ∙ hex_value-hex_text 8 (length parent.children) (omega (arith, room, few_entries)))
      (ap hex_value (said 8 8 (omega arith) ∙ second_is) ∙ hex_value-hex_text 8 entries few_entries)
      (ap pointer (said 16 12 (omega arith) ∙ third_is) ∙ pointer-pointer_text table (omega (arith, table_near)))

  used : length (used_entries old from.table (length parent.children)) ≡ 44 * length parent.children
  used = used_long old tree p parent from.table was.table (λ t e. ends t (λ b. ap (λ (o : Option TablePart). cover (table_extents o) b) e))
    where
      ends : (t : TablePart) → ((b : ℕ) → cover (table_extents from.table) b ≡ in_range t.place (table_length t.entries) b + 0) → t.place + table_length t.entries ≤ length old
      ends t own =
          let i = range_in t.place (table_length t.entries) (t.place + table_length t.entries - 1) (omega arith) (omega arith) in
          let o = own (t.place + table_length t.entries - 1) in
          let sp = own_split (t.place + table_length t.entries - 1) in
          let l = own_live (t.place + table_length t.entries - 1) in
          let lt = held (t.place + table_length t.entries - 1) (omega (arith, i, o, sp, l)) in
          omega (arith, lt)

  abbrev rows : List ℕ
  rows = used_entries old from.table (length parent.children) ++ rest

  rows_long : length rows ≡ 44 * entries
  rows_long = let e = length-append (used_entries old from.table (length parent.children)) rest in let u = used in omega (arith, e, u, long, room)

  list_reaches : table + table_length entries ≤ length old
  list_reaches = stand_reaches old table (table_length entries) (omega arith) (ap length list ∙ framed_long SubNodes table rows ∙ ap (λ n. 20 + n) rows_long)

  list_now : field new table (table_length entries) ≡ framed_text SubNodes table rows
  list_now = field_kept (table_length entries) table old new (λ b low high.
      let i = range_in table (table_length entries) b low high in
      let r = list_reaches in
      let o = in_own b in
      let sp = own_split b in
      let l = own_live b in
      let one = owned b in
      changes.others b (omega (arith, r, high)) (omega (arith, i, o, sp, l, one))) ∙ list

  spells : SpellsTable (framed_text SubNodes table rows) table entries
  spells = subst (λ n. IsFramed (framed_text SubNodes table rows) table n (codes "SNTb") (codes "snTE")) (ap (λ n. 20 + n) rows_long) (framed_says SubNodes table rows (let e = rows_long in omega (arith, e, table_near)))

  -- an entry that was in use
  entry_at : (o k n : ℕ) → o ≡ 16 + k → k + n ≤ 44 * length parent.children → field (framed_text SubNodes table rows) o n ≡ field (used_entries old from.table (length parent.children)) k n
  entry_at o k n e le =
      framed_body SubNodes table rows o k n e (let f = rows_long in omega (arith, f, le, room))
      ∙ field_left (used_entries old from.table (length parent.children)) rest k n (let u = used in omega (arith, u, le))

  -- where a node's parts stood before
  before : (k : ℕ) (ms : NodeParts) → parts_of q k ≡ Some ms → (x : NodeParts) × (parts_of p k ≡ Some x) × (x.header ≡ ms.header)
  before k ms e = elim (eqb_tells s k) [
    | inl t ↦ (from, ap (parts_of p) (sym t.1) ∙ stands, ap (λ (x : NodeParts). x.header) (same_Some to ms (sym (get_or-set_same p.parts s (Some to) None inside) ∙ ap (parts_of q) t.1 ∙ e)))
    | inr t ↦ (ms, sym (get_or-set_other p.parts s k (Some to) None (λ same. t.1 (sym same))) ∙ e, refl)
  ]

  names : NamesChildren (field new table (table_length entries)) tree q parent.children
  names i child node ms e f g = one (before child ms g)
    where
      one : (x : NodeParts) × (parts_of p child ≡ Some x) × (x.header ≡ ms.header) → SpellsEntry (field new table (table_length entries)) i node.name ms.header
      one x =
          let lt = slice_get_within parent.children i child e in
          let says = used_says old tree p parent from.table was.table i child node x.0 e f x.1 in
          subst (λ bytes. SpellsEntry bytes i node.name ms.header) (sym list_now) (subst (λ n. SpellsEntry (framed_text SubNodes table rows) i node.name n) x.2 (record {
            named = entry_at (16 + 44 * i) (44 * i) 32 (omega arith) (omega (arith, lt)) ∙ says.0;
            points = ap pointer (entry_at (48 + 44 * i) (44 * i + 32) 12 (omega arith) (omega (arith, lt))) ∙ says.1;
          }))

  table_now : HasTable new tree q parent (Some moved)
  table_now = (omega (arith, room), omega (arith, room), subst (λ bytes. SpellsTable bytes table entries) (sym list_now) spells, names)

  keeps : KeepsBut ranges (length old - 1) old new
  keeps = keeps_but old tree p all_taken h ranges new changes

  far : (xs : List Extent) → ((b : ℕ) → cover xs b ≤ cover stay b) → (b : ℕ) → 0 < cover xs b → (b ≤ length old - 1) × (cover ranges b ≡ 0)
  far xs among b some =
      let a = among b in
      let sp = own_split b in
      let l = own_live b in
      let one = owned b in
      let o = in_own b in
      ((let lt = held b (omega (arith, a, sp, l, some)) in omega (arith, lt)), omega (arith, a, sp, l, one, o, some))

  stay_split : (b : ℕ) → cover stay b ≡ cover (chunk_table_extents from.chunk_table (length from.chunks)) b + cover (chunk_extents from.chunks) b
  stay_split b = cover-append (chunk_table_extents from.chunk_table (length from.chunks)) (chunk_extents from.chunks) b

  table_apart : AllApart ranges (length old - 1) (chunk_table_extents from.chunk_table (length from.chunks))
  table_apart = all_apart ranges (length old - 1) (chunk_table_extents from.chunk_table (length from.chunks)) (long_chunk_table from.chunk_table (length from.chunks))
      (far (chunk_table_extents from.chunk_table (length from.chunks)) (λ b. let e = stay_split b in omega (arith, e)))

  chunks_apart : AllApart ranges (length old - 1) (chunk_extents from.chunks)
  chunks_apart = all_apart ranges (length old - 1) (chunk_extents from.chunks) (long_chunks old from.chunks was.chunks) (far (chunk_extents from.chunks) (λ b. let e = stay_split b in omega (arith, e)))

  parent_held : HoldsNode new tree q parent to
  parent_held = record {
    header = parent_spelled;
    table = table_now;
    chunk_table = chunk_table_kept ranges (length old - 1) old new keeps from.chunks from.chunk_table table_apart was.chunk_table;
    chunks = chunks_kept ranges (length old - 1) old new keeps from.chunks chunks_apart was.chunks;
    bytes = data_kept ranges (length old - 1) old new keeps from.chunks parent.bytes chunks_apart was.bytes;
  }

  -- the whole
  live_now : (b : ℕ) → cover (live_extents tree.wide q) b + cover (table_extents from.table) b ≡ cover (live_extents tree.wide p) b + in_range table (table_length entries) b
  live_now b =
      let swap = cover_set (extents_of tree.wide) p.parts s b (Some to) inside in
      let own : cover (extents_of tree.wide (parts_of p s)) b ≡ cover (node_extents tree.wide from) b = ap (λ (o : Option NodeParts). cover (extents_of tree.wide o) b) stands in
      let was = own_split b in
      let then = own_with (Some moved) b in
      omega (arith, swap, own, was, then)

  pub table_replaced : Holds new tree q (table_extents from.table ++ taken)
  table_replaced = rebuilt ranges (s ∷ []) tree tree p q all_taken (table_extents from.table ++ taken) old new h (record {
    is_tree = h.is_tree;
    wide = refl;
    format = refl;
    same_nodes = map-set_same is_some p.parts s (Some to) None (sym (ap is_some stands)) ∙ h.same_nodes;
    heap = refl;
    root = λ root e. elim (eqb_tells 0 s) [
      | inl z ↦ (
        to,
        ap (parts_of q) z.1 ∙ get_or-set_same p.parts s (Some to) None inside,
        ap (λ (x : NodeParts). x.header) (same_Some from root (sym stands ∙ ap (parts_of p) (sym z.1) ∙ e)),
      )
      | inr z ↦ (root, get_or-set_other p.parts s 0 (Some to) None z.1 ∙ e, refl)
    ];
    changes = changes;
    apart = λ b some.
        let o = in_own b in
        let sp = own_split b in
        let l = own_live b in
        let one = owned b in
        let both = cover-append head_extents p.heap.gaps b in
        omega (arith, o, sp, l, one, both, some);
    owners = λ b.
        let a = cover-append (table_extents from.table ++ taken) (all_extents tree.wide q) b in
        let g = cover-append (table_extents from.table) taken b in
        let c = cover-append taken (all_extents tree.wide p) b in
        let d = cover_all tree.wide q b in
        let e = cover_all tree.wide p b in
        let l = live_now b in
        omega (arith, a, g, c, d, e, l);
    beyond = λ b le.
        let x = changes.longer in
        let none : cover (all_extents tree.wide p) b ≡ 0 = h.beyond b (omega (arith, x, le)) in
        let all = cover_all tree.wide p b in
        let l = live_now b in
        let r2 = list_reaches in
        let z2 = range_out table (table_length entries) b (inr (omega (arith, r2, x, le))) in
        omega (arith, none, all, l, z2);
    others = λ k m ms unheld e f. other k m ms (apart_from k unheld) e f;
    those = λ k m ms among e f. that k m ms (the_one k among) e f;
  })
    where
      apart_from : (k : ℕ) → is_among (s ∷ []) k ≡ false → k ≢ s
      apart_from k e = λ same. clash (eqb_tells s k) same
        where
          one : (a : Bool) → a ≡ true → (a || false) ≡ false → ⊥
          one true p q = cc
          one false p q = cc

          clash : (((s == k) ≡ true) × (s ≡ k)) ⊎ (((s == k) ≡ false) × (s ≢ k)) → k ≡ s → ⊥
          clash (inl t) same = one (s == k) t.0 e
          clash (inr t) same = t.1 (sym same)

      the_one : (k : ℕ) → is_among (s ∷ []) k ≡ true → k ≡ s
      the_one k e = elim (eqb_tells s k) [
        | inl t ↦ sym t.1
        | inr t ↦ absurd (neither (s == k) t.0 e)
      ]
        where
          neither : (a : Bool) → a ≡ false → (a || false) ≡ true → ⊥
          neither true p q = cc
          neither false p q = cc

      other : (k : ℕ) (m : Node) (ms : NodeParts) → k ≢ s → node_at tree k ≡ Some m → parts_of q k ≡ Some ms
          → (node_at tree k ≡ Some m) × (parts_of p k ≡ Some ms) × MeetsNothing ranges (node_extents tree.wide ms) × SameChildren tree p tree q m.children
      other k m ms d e f =
          let at_parts : parts_of p k ≡ Some ms = sym (get_or-set_other p.parts s k (Some to) None d) ∙ f in (
            e,
            at_parts,
            λ b some.
                let two = cover_two (extents_of tree.wide) p.parts s k b inside (there_inside p.parts k ms at_parts) d in
                let its : cover (extents_of tree.wide (parts_of p k)) b ≡ cover (node_extents tree.wide ms) b = ap (λ (o : Option NodeParts). cover (extents_of tree.wide o) b) at_parts in
                let ours : cover (extents_of tree.wide (parts_of p s)) b ≡ cover (node_extents tree.wide from) b = ap (λ (o : Option NodeParts). cover (extents_of tree.wide o) b) stands in
                let o = in_own b in
                let sp = own_split b in
                let one = owned b in
                omega (arith, two, its, ours, o, sp, one, some),
            λ i child now place g n a. (now, (before child place a).0, n, (before child place a).1, refl, (before child place a).2),
          )

      that : (k : ℕ) (m : Node) (ms : NodeParts) → k ≡ s → node_at tree k ≡ Some m → parts_of q k ≡ Some ms → HoldsNode new tree q m ms
      that k m ms same e f =
          let is_node : parent ≡ m = same_Some parent m (sym here ∙ ap (node_at tree) (sym same) ∙ e) in
          let at_parts : to ≡ ms = same_Some to ms (sym (get_or-set_same p.parts s (Some to) None inside) ∙ ap (parts_of q) (sym same) ∙ f) in
          subst (λ (x : Node). HoldsNode new tree q x ms) is_node (subst (λ (x : NodeParts). HoldsNode new tree q parent x) at_parts parent_held)

-- a node has at most twelve dimensions
first_true : (a b : Bool) → (a && b) ≡ true → a ≡ true
first_true true b e = refl
first_true false b e = e

second_true : (a b : Bool) → (a && b) ≡ true → b ≡ true
second_true true b e = e
second_true false b e = cc

pub few_dims : (tree : Tree) (s : ℕ) (node : Node) → IsTree tree → node_at tree s ≡ Some node → length node.dims ≤ 12
few_dims tree s node is e =
    at_most (length node.dims) 12 (second_true (is_rank_of node.kind (length node.dims)) (nat_le (length node.dims) 12)
    (first_true (is_rank_of node.kind (length node.dims) && nat_le (length node.dims) 12) (list_all (is_dimension tree.wide) node.dims) (is.each s node e).shaped))
  where
    at_most : (m n : ℕ) → nat_le m n ≡ true → m ≤ n
    at_most m n e = grind (arith, nat_tests)

pub some_at : {A : Type 0} (xs : List (Option A)) (k : ℕ) → get_or (map is_some xs) k false ≡ is_some (get_or xs k None)
some_at [] k = refl
some_at (x ∷ xs) zero = refl
some_at (x ∷ xs) (suc k) = some_at xs k

pub node_too : (tree : Tree) (p : Placement) (s : ℕ) (from : NodeParts) → map is_some p.parts ≡ map is_some tree.nodes → parts_of p s ≡ Some from → (node : Node) × (node_at tree s ≡ Some node)
node_too tree p s from same e = there (node_at tree s) (sym (some_at tree.nodes s) ∙ ap (λ xs. get_or xs s false) (sym same) ∙ some_at p.parts s ∙ ap is_some e)
  where
    there : (o : Option Node) → is_some o ≡ true → (node : Node) × (o ≡ Some node)
    there None e = absurd (not_true e)
    there (Some node) e = (node, refl)

pub table_is_replaced : TableIsReplaced
table_is_replaced kind old new rest tree p taken s table entries from h stands room few near long list w = by_node (node_too tree p s from h.same_nodes stands)
  where
    by_node : (node : Node) × (node_at tree s ≡ Some node)
        → Holds new tree (record p { parts = slice_set p.parts s (Some (record from { table = Some (record { place = table; entries = entries }) })) }) (table_extents from.table ++ taken)
    by_node node =
        let count : length (children_at tree s) ≡ length node.0.children = ap (λ (o : Option Node). length (children_of o)) node.1 in
        let dims : length node.0.dims ≤ 12 = few_dims tree s node.0 h.is_tree node.1 in
        table_replaced old new rest tree p taken kind s table entries node.0 from h node.1 stands dims
        (subst (λ c. c < entries) count room) few near (subst (λ c. length rest ≡ 44 * (entries - c)) count long)
        (subst (λ c. field old table (table_length entries) ≡ framed_text SubNodes table (used_entries old from.table c ++ rest)) count list)
        (subst (λ c. Writes (from.header + 68) (hex_text 8 c ++ hex_text 8 entries ++ pointer_text (To table)) old new) count w)
