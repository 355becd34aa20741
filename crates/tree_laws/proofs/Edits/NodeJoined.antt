-- A node that stands in ranges that were taken joins the children of another, in an unused entry of its table.
use Rattle.std.proofs.Common.{◌≡◌, ◌≢◌, ◌⊎◌, inl, inr, ℕ, suc, refl, sym, ◌∙◌, ap, subst, arith, List, [], ◌∷◌, ◌++◌, length, length-append, ◌+◌, ◌-◌, ◌*◌, ◌^◌, ◌<◌, ◌≤◌, true}
use Rattle.std.proofs.lemmas.Bool.Decides.{eqb_tells}
use Rattle.std.proofs.lemmas.List.{map-append}
use Rattle.std.proofs.lemmas.Option.{slice_get_within}
use Rattle.std.proofs.Math.Seq.{map-set_same, set-get_or}
use Rattle.std.specs.Prelude.{Option, Some, None, slice_set, is_some, option_map}
use Rattle.adf_format.specs.declared.types.Extent.{Extent}
use Rattle.adf_format.specs.declared.types.ExtentKind.{ExtentKind}
use Rattle.adf_format.specs.Hex.{hex_text, hex_value}
use Rattle.adf_format.specs.Pointer.{To}
use Rattle.adf_format.specs.Fields.{field, text_field}
use Rattle.adf_format.specs.Tree.{Tree, Node, IsTree, node_at, children_of}
use Rattle.adf_format.specs.Tiles.{cover}
use Rattle.adf_format.specs.Parts.{SpellsNode, SpellsTable, SpellsEntry, HasPointer, node_length, table_length}
use Rattle.adf_format.specs.Placement.{Placement, NodeParts, TablePart, parts_of, extent, extents_of, node_extents, live_extents, head_extents, all_extents, table_extents, chunk_table_extents, chunk_extents}
use Rattle.adf_format.specs.LaysOut.{HoldsNode, HasTable, fields_of, entry_count}
use Rattle.adf_format.specs.Changes.{Writes, KeepsBut, AllApart, SameChildren}
use Rattle.adf_format.specs.Records.{entry_text}
use Rattle.adf_format.proofs.HeapSteps.{cover-append}
use Rattle.adf_format.proofs.HeapLaws.{in_range}
use Rattle.adf_format.proofs.HexLaws.{hex_value-hex_text, length-hex_text}
use Rattle.adf_format.proofs.BehindEnd.{long_chunk_table, long_chunks}
use Rattle.adf_format.proofs.FieldLaws.{field_beside, field_around, length-field}
use Rattle.adf_format.proofs.FrameLaws.{field_kept, chunk_table_kept, chunks_kept, data_kept}
use Rattle.adf_format.proofs.SpelledParts.{entry_long}
use Rattle.adf_format.proofs.WrittenParts.{entry_written}
use Rattle.adf_model.specs.Edits.{with_new, given_children}
use Rattle.adf_model.proofs.Basics.{same_Some}
use Rattle.adf_model.proofs.Creation.CreatedNodes.{at_new, at_set, at_other, there_inside, children_stay, names_now, parent_after, tree_after, placed_after, as_many}
use Rattle.adf_model.proofs.Creation.CreatedParts.{counted, pointer_same}
use Rattle.adf_model.proofs.Creation.PartsApart.{range_in, range_within, all_apart, cover_all, cover_two, cover_set, cover_last}
use Rattle.tree_laws.specs.Holding.{Holds, ChangesIn, MeetsNothing}
use Rattle.tree_laws.specs.NodeJoin.{NodeJoins, with_parts_of_new}
use Rattle.tree_laws.proofs.Tables.OwnParts.{least, data_parts, own_live as live_part, own_with, apart_from, one_of_two}
use Rattle.tree_laws.proofs.Holding.Steps.{within, keeps_but, once, rebuilt}
use Rattle.tree_laws.proofs.Holding.OwnRanges.{out, two_written}
use Rattle.tree_laws.proofs.Tables.TableReplaced.{few_dims}
use Rattle.tree_laws.proofs.Edits.NewNode.{node_reach, node_stays}

module _ (old middle new : List ℕ) (tree : Tree) (p : Placement) (taken kept : List Extent) (s : ℕ) (parent child : Node) (from parts : NodeParts) (t : TablePart) (h : Holds old tree p taken)
    (here : node_at tree s ≡ Some parent) (stands : parts_of p s ≡ Some from) (has : from.table ≡ Some t) (free : length parent.children < t.entries) (few : suc (length parent.children) < 16 ^ 8)
    (short : length child.name ≤ 32) (near : parts.header < 2 ^ 44) (childless : child.children ≡ []) (whole : HoldsNode old tree p child parts) (shared : (b : ℕ) → cover (kept ++ node_extents tree.wide parts) b ≡ cover taken b)
    (v : Writes (t.place + 16 + 44 * length parent.children) (entry_text (text_field 32 child.name) (To parts.header)) old middle) (w : Writes (from.header + 68) (hex_text 8 (suc (length parent.children))) middle new) where
  abbrev to : NodeParts
  to = record from { table = Some t }

  abbrev after : Tree
  after = tree_after tree p s parent from to child parts p.heap

  abbrev q : Placement
  q = placed_after tree p s parent from to child parts p.heap

  abbrev now : Node
  now = parent_after tree p s parent from to child parts p.heap

  abbrev ranges : List Extent
  ranges = extent ExtentKind.SubNodes (t.place + 16 + 44 * length parent.children) 44 ∷ extent ExtentKind.Node (from.header + 68) 8 ∷ []

  changes : ChangesIn ranges old new
  changes = two_written ExtentKind.SubNodes ExtentKind.Node (t.place + 16 + 44 * length parent.children) 44 (from.header + 68) 8 (entry_text (text_field 32 child.name) (To parts.header)) (hex_text 8 (suc (length parent.children))) old middle new
      v (entry_long child.name parts.header short) w (length-hex_text 8 (suc (length parent.children)))

  inside : s < length p.parts
  inside = there_inside p.parts s from stands

  abbrev rest : List Extent
  rest = data_parts from

  -- the node's own extents: its header, its table and its data
  own_split : (b : ℕ) → cover (node_extents tree.wide from) b ≡ in_range from.header (node_length tree.wide) b + (in_range t.place (table_length t.entries) b + cover rest b)
  own_split b =
      let e = own_with tree.wide from from.table b in
      let g : cover (table_extents from.table) b ≡ in_range t.place (table_length t.entries) b + 0 = ap (λ (o : Option TablePart). cover (table_extents o) b) has in
      omega (arith, e, g)

  own_live : (b : ℕ) → cover (node_extents tree.wide from) b ≤ cover (live_extents tree.wide p) b
  own_live b = live_part tree.wide p s from stands b

  -- what is written lies in the header and in the table
  in_own : (b : ℕ) → cover ranges b ≤ in_range from.header (node_length tree.wide) b + in_range t.place (table_length t.entries) b
  in_own b =
      let m = least tree.wide in
      let x = range_within t.place (table_length t.entries) (t.place + 16 + 44 * length parent.children) 44 b (omega arith) (omega (arith, free)) in
      let y = range_within from.header (node_length tree.wide) (from.header + 68) 8 b (omega arith) (omega (arith, m)) in
      omega (arith, x, y)

  owned : (b : ℕ) → cover taken b + (cover head_extents b + cover (live_extents tree.wide p) b + cover p.heap.gaps b) ≤ 1
  owned = once old tree p taken h

  held : (b : ℕ) → 0 < cover (live_extents tree.wide p) b → b < length old
  held b some = within old tree p taken h b (let all = cover_all tree.wide p b in omega (arith, all, some))

  header_ends : from.header + node_length tree.wide ≤ length old
  header_ends =
      let m = least tree.wide in
      let i = range_in from.header (node_length tree.wide) (from.header + node_length tree.wide - 1) (omega (arith, m)) (omega (arith, m)) in
      let sp = own_split (from.header + node_length tree.wide - 1) in
      let l = own_live (from.header + node_length tree.wide - 1) in
      let lt = held (from.header + node_length tree.wide - 1) (omega (arith, i, sp, l)) in
      omega (arith, lt, m)

  table_ends : t.place + table_length t.entries ≤ length old
  table_ends =
      let i = range_in t.place (table_length t.entries) (t.place + table_length t.entries - 1) (omega arith) (omega arith) in
      let sp = own_split (t.place + table_length t.entries - 1) in
      let l = own_live (t.place + table_length t.entries - 1) in
      let lt = held (t.place + table_length t.entries - 1) (omega (arith, i, sp, l)) in
      omega (arith, lt)

  abbrev entry : List ℕ
  entry = entry_text (text_field 32 child.name) (To parts.header)

  abbrev count : List ℕ
  count = hex_text 8 (suc (length parent.children))

  longer : length old ≤ length middle
  longer = v.longer

  -- the entry is beside the header, and the count beside the table
  header_same : field middle from.header (node_length tree.wide) ≡ field old from.header (node_length tree.wide)
  header_same = field_kept (node_length tree.wide) from.header old middle (λ b low high.
      let i = range_in from.header (node_length tree.wide) b low high in
      let x = range_within t.place (table_length t.entries) (t.place + 16 + 44 * length parent.children) 44 b (omega arith) (omega (arith, free)) in
      let sp = own_split b in
      let l = own_live b in
      let one = owned b in
      let e = header_ends in
      v.others b (omega (arith, e, high)) (out (t.place + 16 + 44 * length parent.children) 44 b (length entry) (entry_long child.name parts.header short) (omega (arith, i, x, sp, l, one))))

  table_same : field new t.place (table_length t.entries) ≡ field middle t.place (table_length t.entries)
  table_same = field_kept (table_length t.entries) t.place middle new (λ b low high.
      let i = range_in t.place (table_length t.entries) b low high in
      let m = least tree.wide in
      let y = range_within from.header (node_length tree.wide) (from.header + 68) 8 b (omega arith) (omega (arith, m)) in
      let sp = own_split b in
      let l = own_live b in
      let one = owned b in
      let e = table_ends in
      let g = longer in
      w.others b (omega (arith, e, g, high)) (out (from.header + 68) 8 b (length count) (length-hex_text 8 (suc (length parent.children))) (omega (arith, i, y, sp, l, one))))

  was : HoldsNode old tree p parent from
  was = h.nodes s parent from here stands

  spelled_was : SpellsNode tree.wide (field middle from.header (node_length tree.wide)) (fields_of parent from)
  spelled_was = subst (λ bytes. SpellsNode tree.wide bytes (fields_of parent from)) (sym header_same) was.header

  header_long : length (field middle from.header (node_length tree.wide)) ≡ node_length tree.wide
  header_long = let e = length-field middle from.header (node_length tree.wide) in let k = header_ends in let g = longer in omega (arith, e, k, g)

  counts : Writes 68 count (field middle from.header (node_length tree.wide)) (field new from.header (node_length tree.wide))
  counts = field_around (from.header + 68) count middle new w from.header 68 (node_length tree.wide) refl (let e = length-hex_text 8 (suc (length parent.children)) in let m = least tree.wide in omega (arith, e, m))
      (let k = header_ends in let g = longer in omega (arith, k, g))

  stays : (o n : ℕ) → 76 ≤ o → o + n ≤ 96 → field (field new from.header (node_length tree.wide)) o n ≡ field (field middle from.header (node_length tree.wide)) o n
  stays o n low high = field_beside 68 count (field middle from.header (node_length tree.wide)) (field new from.header (node_length tree.wide)) counts o n
      (let e = header_long in let m = least tree.wide in omega (arith, e, m, high)) (inr (let e = length-hex_text 8 (suc (length parent.children)) in omega (arith, e, low)))

  parent_spelled : SpellsNode tree.wide (field new from.header (node_length tree.wide)) (record (fields_of parent from) { children = length (parent.children ++ length tree.nodes ∷ []); entries = t.entries; table = Some t.place })
  parent_spelled = counted tree.wide (field middle from.header (node_length tree.wide)) (field new from.header (node_length tree.wide)) count (fields_of parent from)
      (length (parent.children ++ length tree.nodes ∷ [])) t.entries (Some t.place) counts header_long (let e = length-hex_text 8 (suc (length parent.children)) in omega (arith, e)) spelled_was (few_dims tree s parent h.is_tree here)
      (ap hex_value (ap (field (field new from.header (node_length tree.wide)) 68) (sym (length-hex_text 8 (suc (length parent.children)))) ∙ counts.stands)
      ∙ hex_value-hex_text 8 (suc (length parent.children)) few ∙ ap (λ (k : ℕ). Some k) (let e = length-append parent.children (length tree.nodes ∷ []) in omega (arith, e)))
      (ap hex_value (stays 76 8 (omega arith) (omega arith)) ∙ spelled_was.entries ∙ ap (λ (o : Option TablePart). Some (entry_count o)) has)
      (pointer_same (field middle from.header (node_length tree.wide)) (field new from.header (node_length tree.wide)) 84 (Some t.place) (stays 84 12 (omega arith) (omega arith))
      (subst (λ (o : Option TablePart). HasPointer (field middle from.header (node_length tree.wide)) 84 (option_map (λ (x : TablePart). x.place) o)) has spelled_was.table))

  table_was : HasTable old tree p parent (Some t)
  table_was = subst (λ (o : Option TablePart). HasTable old tree p parent o) has was.table

  table_now : HasTable new after q now (Some t)
  table_now =
      let made = entry_written t.place t.entries (length parent.children) parts.header child.name old middle free near short table_ends v table_was.2 in (
        omega (arith, free),
        (let e = length-append parent.children (length tree.nodes ∷ []) in omega (arith, e, free)),
        subst (λ bytes. SpellsTable bytes t.place t.entries) (sym table_same) made.0,
        names_now tree p s parent from to child parts p.heap h.is_tree h.same_nodes here stands refl (field new t.place (table_length t.entries))
            (λ i c node at e f g.
            let inside = slice_get_within parent.children i c e in
            subst (λ bytes. SpellsEntry bytes i node.name at.header) (sym table_same)
            (made.2 i at.header node.name (omega (arith, inside, free)) (λ same. omega (arith, inside, same)) (table_was.3 i c node at e f g)))
            (subst (λ bytes. SpellsEntry bytes (length parent.children) child.name parts.header) (sym table_same) made.1),
      )

  keeps : KeepsBut ranges (length old - 1) old new
  keeps = keeps_but old tree p taken h ranges new changes

  far : (xs : List Extent) → ((b : ℕ) → cover xs b ≤ cover rest b) → (b : ℕ) → 0 < cover xs b → (b ≤ length old - 1) × (cover ranges b ≡ 0)
  far xs among b some =
      let a = among b in
      let sp = own_split b in
      let l = own_live b in
      let one = owned b in
      let o = in_own b in
      ((let lt = held b (omega (arith, a, sp, l, some)) in omega (arith, lt)), omega (arith, a, sp, l, one, o, some))

  rest_split : (b : ℕ) → cover rest b ≡ cover (chunk_table_extents from.chunk_table (length from.chunks)) b + cover (chunk_extents from.chunks) b
  rest_split b = cover-append (chunk_table_extents from.chunk_table (length from.chunks)) (chunk_extents from.chunks) b

  table_apart : AllApart ranges (length old - 1) (chunk_table_extents from.chunk_table (length from.chunks))
  table_apart = all_apart ranges (length old - 1) (chunk_table_extents from.chunk_table (length from.chunks)) (long_chunk_table from.chunk_table (length from.chunks))
      (far (chunk_table_extents from.chunk_table (length from.chunks)) (λ b. let e = rest_split b in omega (arith, e)))

  chunks_apart : AllApart ranges (length old - 1) (chunk_extents from.chunks)
  chunks_apart = all_apart ranges (length old - 1) (chunk_extents from.chunks) (long_chunks old from.chunks was.chunks) (far (chunk_extents from.chunks) (λ b. let e = rest_split b in omega (arith, e)))

  parent_held : HoldsNode new after q now to
  parent_held = record {
    header = parent_spelled;
    table = table_now;
    chunk_table = chunk_table_kept ranges (length old - 1) old new keeps from.chunks from.chunk_table table_apart was.chunk_table;
    chunks = chunks_kept ranges (length old - 1) old new keeps from.chunks chunks_apart was.chunks;
    bytes = data_kept ranges (length old - 1) old new keeps from.chunks parent.bytes chunks_apart was.bytes;
  }

  -- the new node
  in_taken : (b : ℕ) → cover (node_extents tree.wide parts) b ≤ cover taken b
  in_taken b = let x = shared b in let y = cover-append kept (node_extents tree.wide parts) b in omega (arith, x, y)

  new_held : HoldsNode new after q child parts
  new_held = node_stays ranges old new keeps tree after p q child parts refl childless (λ b some.
      let i = in_taken b in
      let o = in_own b in
      let sp = own_split b in
      let l = own_live b in
      let one = owned b in
      omega (arith, i, o, sp, l, one, some)) whole

  -- the whole
  live_now : (b : ℕ) → cover (live_extents tree.wide q) b ≡ cover (live_extents tree.wide p) b + cover (node_extents tree.wide parts) b
  live_now b =
      let last = cover_last (extents_of tree.wide) (slice_set p.parts s (Some to)) b (Some parts) in
      let swap = cover_set (extents_of tree.wide) p.parts s b (Some to) inside in
      let own : cover (extents_of tree.wide (parts_of p s)) b ≡ cover (node_extents tree.wide from) b = ap (λ (o : Option NodeParts). cover (extents_of tree.wide o) b) stands in
      let same : cover (node_extents tree.wide to) b ≡ cover (node_extents tree.wide from) b = ap (λ (o : Option TablePart). cover (node_extents tree.wide (record from { table = o })) b) (sym has) in
      omega (arith, last, swap, own, same)

  pub node_joined : IsTree after → Holds new after q kept
  node_joined is = rebuilt ranges (s ∷ length tree.nodes ∷ []) tree after p q taken kept old new h (record {
    is_tree = is;
    wide = refl;
    format = refl;
    same_nodes =
        map-append is_some (slice_set p.parts s (Some to)) (Some parts ∷ [])
        ∙ ap (λ xs. xs ++ true ∷ []) (map-set_same is_some p.parts s (Some to) None (sym (ap is_some stands)) ∙ h.same_nodes ∙ sym (map-set_same is_some tree.nodes s (Some now) None (sym (ap is_some here))))
        ∙ sym (map-append is_some (slice_set tree.nodes s (Some now)) (Some child ∷ []));
    heap = refl;
    root = λ root e. elim (eqb_tells 0 s) [
      | inl z ↦ (
        to,
        ap (parts_of q) z.1 ∙ at_set p.parts s (Some to) (Some parts) None inside,
        ap (λ (x : NodeParts). x.header) (same_Some from root (sym stands ∙ ap (parts_of p) (sym z.1) ∙ e)),
      )
      | inr z ↦ (root, at_other p.parts s 0 (Some to) (Some parts) None (λ same. let i = inside in omega (arith, same, i)) z.1 ∙ e, refl)
    ];
    changes = changes;
    apart = λ b some.
        let o = in_own b in
        let sp = own_split b in
        let l = own_live b in
        let one = owned b in
        let both = cover-append head_extents p.heap.gaps b in
        omega (arith, o, sp, l, one, both, some);
    owners = λ b.
        let a = cover-append kept (all_extents tree.wide q) b in
        let x = shared b in
        let y = cover-append kept (node_extents tree.wide parts) b in
        let c = cover-append taken (all_extents tree.wide p) b in
        let d = cover_all tree.wide q b in
        let e = cover_all tree.wide p b in
        let l = live_now b in
        omega (arith, a, x, y, c, d, e, l);
    beyond = λ b le.
        let x = changes.longer in
        let none : cover (all_extents tree.wide p) b ≡ 0 = h.beyond b (omega (arith, x, le)) in
        let all = cover_all tree.wide p b in
        let l = live_now b in
        let z = node_reach old tree p child parts whole b (omega (arith, x, le)) in
        omega (arith, none, all, l, z);
    others = λ k m ms unheld e f. other k m ms (apart_from s (length tree.nodes) k unheld) e f;
    those = λ k m ms among e f. that k m ms (one_of_two s (length tree.nodes) k among) e f;
  })
    where
      other : (k : ℕ) (m : Node) (ms : NodeParts) → (k ≢ s) × (k ≢ length tree.nodes) → node_at after k ≡ Some m → parts_of q k ≡ Some ms
          → (node_at tree k ≡ Some m) × (parts_of p k ≡ Some ms) × MeetsNothing ranges (node_extents tree.wide ms) × SameChildren tree p after q m.children
      other k m ms d e f =
          let at_node : node_at tree k ≡ Some m = sym (at_other tree.nodes s k (Some now) (Some child) None d.1 d.0) ∙ e in
          let at_parts : parts_of p k ≡ Some ms = sym (at_other p.parts s k (Some to) (Some parts) None (λ same. d.1 (same ∙ as_many tree p s parent from to child parts p.heap h.is_tree h.same_nodes here stands refl)) d.0) ∙ f in (
            at_node,
            at_parts,
            λ b some.
                let two = cover_two (extents_of tree.wide) p.parts s k b inside (there_inside p.parts k ms at_parts) d.0 in
                let its : cover (extents_of tree.wide (parts_of p k)) b ≡ cover (node_extents tree.wide ms) b = ap (λ (o : Option NodeParts). cover (extents_of tree.wide o) b) at_parts in
                let ours : cover (extents_of tree.wide (parts_of p s)) b ≡ cover (node_extents tree.wide from) b = ap (λ (o : Option NodeParts). cover (extents_of tree.wide o) b) stands in
                let o = in_own b in
                let sp = own_split b in
                let one = owned b in
                omega (arith, two, its, ours, o, sp, one, some),
            children_stay tree p s parent from to child parts p.heap h.is_tree h.same_nodes here stands refl k m at_node,
          )

      that : (k : ℕ) (m : Node) (ms : NodeParts) → (k ≡ s) ⊎ (k ≡ length tree.nodes) → node_at after k ≡ Some m → parts_of q k ≡ Some ms → HoldsNode new after q m ms
      that k m ms (inl same) e f =
          let is_node : now ≡ m = same_Some now m (sym (at_set tree.nodes s (Some now) (Some child) None (there_inside tree.nodes s parent here)) ∙ ap (node_at after) (sym same) ∙ e) in
          let at_parts : to ≡ ms = same_Some to ms (sym (at_set p.parts s (Some to) (Some parts) None inside) ∙ ap (parts_of q) (sym same) ∙ f) in
          subst (λ (x : Node). HoldsNode new after q x ms) is_node (subst (λ (x : NodeParts). HoldsNode new after q now x) at_parts parent_held)
      that k m ms (inr same) e f =
          let is_node : child ≡ m = same_Some child m (sym (at_new tree.nodes s k (Some now) (Some child) None same) ∙ e) in
          let at_parts : parts ≡ ms = same_Some parts ms
          (sym (at_new p.parts s k (Some to) (Some parts) None (same ∙ sym (as_many tree p s parent from to child parts p.heap h.is_tree h.same_nodes here stands refl))) ∙ f) in
          subst (λ (x : Node). HoldsNode new after q x ms) is_node (subst (λ (x : NodeParts). HoldsNode new after q child x) at_parts new_held)

-- the same in the words of the edit
pub node_joins : NodeJoins
node_joins old middle new tree p taken kept s parent child from parts t h here stands has free few short near childless whole shared v w is =
    subst (λ (x : Placement). Holds new (with_new tree s child) x kept) same_place
    (subst (λ (x : Tree). Holds new x (placed_after tree p s parent from (record from { table = Some t }) child parts p.heap) kept) same_tree
    (node_joined old middle new tree p taken kept s parent child from parts t h here stands has free few short near childless whole shared v w (subst IsTree (sym same_tree) is)))
  where
    same_tree : tree_after tree p s parent from (record from { table = Some t }) child parts p.heap ≡ with_new tree s child
    same_tree = ap (λ (o : Option Node). record tree { nodes = slice_set tree.nodes s (given_children (children_of o ++ length tree.nodes ∷ []) o) ++ Some child ∷ [] }) (sym here)

    same_place : placed_after tree p s parent from (record from { table = Some t }) child parts p.heap ≡ with_parts_of_new p parts
    same_place =
        ap (λ (o : Option TablePart). record p { parts = slice_set p.parts s (Some (record from { table = o })) ++ Some parts ∷ [] }) (sym has)
        ∙ ap (λ (xs : List (Option NodeParts)). record p { parts = xs ++ Some parts ∷ [] }) (ap (slice_set p.parts s) (sym stands) ∙ set-get_or p.parts s None)
