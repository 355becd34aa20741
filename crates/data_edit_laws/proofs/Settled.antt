-- A node whose data stand elsewhere, or are gone: the file lays out the tree with that node.
use Rattle.std.proofs.Common.{◌≡◌, ◌≢◌, ◌⊎◌, inl, inr, ℕ, zero, suc, refl, sym, ◌∙◌, ap, subst, arith, List, [], ◌∷◌, ◌++◌, length, get_or, filter, ◌+◌, ◌-◌, ◌<◌, ◌≤◌}
use Rattle.std.proofs.lemmas.Bool.Decides.{eqb_tells, leb_tells}
use Rattle.std.proofs.Math.Seq.{map-set_same}
use Rattle.std.specs.Prelude.{Option, Some, None, is_some, slice_get}
use Rattle.adf_format.specs.declared.types.Extent.{Extent}
use Rattle.adf_format.specs.declared.fields.TheConstants.{HEADER_END}
use Rattle.adf_format.specs.Changes.{AllApart, SameChildren, KeepsBut, heap_fields}
use Rattle.adf_format.specs.Fields.{field}
use Rattle.adf_format.specs.HeapRule.{data_extents}
use Rattle.adf_format.specs.LaysOut.{LaysOut, HoldsNode}
use Rattle.adf_format.specs.Parts.{SpellsHeader, node_length}
use Rattle.adf_format.specs.Placement.{Placement, NodeParts, ChunkPart, Heap, parts_of, extents_of, node_extents, live_extents, head_extents, all_extents, table_extents}
use Rattle.adf_format.specs.Pointer.{PointsTo, pointer}
use Rattle.adf_format.specs.RecordFields.{field_in}
use Rattle.adf_format.specs.Tiles.{cover, is_filler}
use Rattle.adf_format.specs.Tree.{Tree, Node, IsTree, node_at}
use Rattle.adf_format.proofs.BehindEnd.{long_node}
use Rattle.adf_format.proofs.FrameLaws.{field_of_first, holds_kept}
use Rattle.adf_format.proofs.HeapLaws.{in_range}
use Rattle.adf_format.proofs.HeapSteps.{cover-append}
use Rattle.adf_format.proofs.LayoutLaws.{one_of}
use Rattle.adf_model.specs.Edits.{with_node}
use Rattle.adf_model.specs.NodeData.{grown_range}
use Rattle.adf_model.proofs.Basics.{same_Some}
use Rattle.adf_model.proofs.Creation.CreatedNodes.{there_inside}
use Rattle.adf_model.proofs.Creation.PartsApart.{range_in, range_out, range_within, all_apart, cover_all, cover_part, cover_two, cover_set}
use Rattle.tree_laws.specs.DataSwitch.{with_data}
use Rattle.tree_laws.specs.Holding.{Holds, ChangesIn}
use Rattle.tree_laws.proofs.Data.DataSwitched.{data_reach, own_parts, long_list, list_stays}
use Rattle.tree_laws.proofs.Edits.LabelSet.{set_here, set_there}
use Rattle.tree_laws.proofs.Holding.HeapCalls.{holds_z}
use Rattle.tree_laws.proofs.Holding.HeapMoves.{header_moved, gaps_held, fillers_spelled}
use Rattle.tree_laws.proofs.Holding.Steps.{from_layout, within, up_to_end, keeps_but, once}
use Rattle.tree_laws.proofs.Whole.Mid.{in_old}
use Rattle.tree_laws.specs.MidEdit.{room}
use Rattle.data_edit_laws.specs.Settled.{Settles, settled}

no_more : (n : ℕ) → (0 < n → ⊥) → n ≡ 0
no_more zero h = refl
no_more (suc n) h = absurd (h (omega arith))

-- a byte that is read, and is not 0, stands there
there_of : (xs : List ℕ) (b : ℕ) → get_or xs b 0 ≡ 122 → slice_get xs b ≡ Some 122
there_of [] b e = absurd (omega (arith, e))
there_of (x ∷ xs) zero e = ap Some e
there_of (x ∷ xs) (suc b) e = there_of xs b e

module _ (mine : List Extent) (old new : List ℕ) (tree : Tree) (p : Placement) (s : ℕ) (node now : Node) (from : NodeParts) (chunks : List ChunkPart) (table : Option ℕ) (later : Heap) (l : LaysOut old tree p)
    (here : node_at tree s ≡ Some node) (stands : parts_of p s ≡ Some from) (same_name : now.name ≡ node.name) (same_list : now.children ≡ node.children) (is : IsTree (with_node tree s now)) (w : Settles mine tree.wide now from chunks table p.heap later old new)
    (own : (b : ℕ) → 0 < cover mine b → 0 < in_range from.header (node_length tree.wide) b + cover (data_extents from) b) where
  -- what is written
  abbrev ranges : List Extent
  ranges = heap_fields ++ room mine p.heap later

  abbrev to : NodeParts
  to = with_data from chunks table

  abbrev after : Tree
  after = with_node tree s now

  abbrev q : Placement
  q = settled p s from chunks table later

  h : Holds old tree p []
  h = from_layout old tree p l

  inside : s < length p.parts
  inside = there_inside p.parts s from stands

  changes : ChangesIn ranges old new
  changes = in_old ranges old new w.changes

  -- the bytes of the node's header and of its data, and those of the rest
  abbrev ours : ℕ → ℕ
  ours b = in_range from.header (node_length tree.wide) b + cover (data_extents from) b

  abbrev grown : ℕ → ℕ
  grown b = in_range (p.heap.end + 1) (later.end - p.heap.end) b

  own_split : (b : ℕ) → cover (node_extents tree.wide from) b ≡ in_range from.header (node_length tree.wide) b + (cover (table_extents from.table) b + cover (data_extents from) b)
  own_split b = own_parts tree.wide from b

  at_is : (b : ℕ) → cover (extents_of tree.wide (parts_of p s)) b ≡ cover (node_extents tree.wide from) b
  at_is b = ap (λ (o : Option NodeParts). cover (extents_of tree.wide o) b) stands

  own_live : (b : ℕ) → cover (node_extents tree.wide from) b ≤ cover (live_extents tree.wide p) b
  own_live b = let c = cover_part (extents_of tree.wide) p.parts s b inside in let y = at_is b in omega (arith, c, y)

  one_each : (b : ℕ) → cover head_extents b + cover (live_extents tree.wide p) b + cover p.heap.gaps b ≤ 1
  one_each b = let o = once old tree p [] h b in omega (arith, o)

  all_is : (b : ℕ) → cover (all_extents tree.wide p) b ≡ cover head_extents b + cover (live_extents tree.wide p) b + cover p.heap.gaps b
  all_is b = cover_all tree.wide p b

  held : (b : ℕ) → 0 < cover head_extents b + cover (live_extents tree.wide p) b → b < length old
  held b some = within old tree p [] h b (let all = all_is b in omega (arith, all, some))

  not_grown : (b : ℕ) → b ≤ p.heap.end → grown b ≡ 0
  not_grown b le = range_out (p.heap.end + 1) (later.end - p.heap.end) b (inl (omega (arith, le)))

  few_fields : (b : ℕ) → cover heap_fields b ≤ cover head_extents b
  few_fields b = let w = range_within 0 186 146 12 b (omega arith) (omega arith) in omega (arith, w)

  -- what is written meets nothing else
  clear : (b : ℕ) → ours b + cover heap_fields b + cover p.heap.gaps b + grown b ≡ 0 → cover ranges b ≡ 0
  clear b none =
      let x = cover-append heap_fields (room mine p.heap later) b in
      let y = cover-append p.heap.gaps (grown_range p.heap later ∷ mine) b in
      let z : cover mine b ≡ 0 = no_more (cover mine b) (λ some. let o = own b some in absurd (omega (arith, o, none))) in
      omega (arith, x, y, z, none)

  -- so a byte of the head but the heap's own, and a byte of a live part that is not ours, stay
  clear_live : (b : ℕ) → 0 < cover (live_extents tree.wide p) b → ours b ≡ 0 → cover ranges b ≡ 0
  clear_live b some none =
      let one = one_each b in
      let few = few_fields b in
      let up = up_to_end old tree p [] h b (let all = all_is b in omega (arith, all, some)) in
      let g = not_grown b up in
      clear b (omega (arith, one, few, g, some, none))

  clear_head : (b : ℕ) → b < 186 → (b < 146) ⊎ (158 ≤ b) → cover ranges b ≡ 0
  clear_head b lt out =
      let i = range_in 0 186 b (omega arith) lt in
      let one = one_each b in
      let a = range_out 146 12 b out in
      let k = range_out 186 80 b (inl lt) in
      let own = own_live b in
      let sp = own_split b in
      let up = up_to_end old tree p [] h b (let all = all_is b in omega (arith, all, i)) in
      let g = not_grown b up in
      clear b (omega (arith, i, one, a, k, own, sp, g))

  keeps : KeepsBut ranges (length old - 1) old new
  keeps = keeps_but old tree p [] h ranges new changes

  list_apart : AllApart ranges (length old - 1) (table_extents from.table)
  list_apart = all_apart ranges (length old - 1) (table_extents from.table) (long_list from.table) (λ b some.
      let sp = own_split b in
      let live = own_live b in
      let one = one_each b in
      let lt = held b (omega (arith, sp, live, some)) in
      (omega (arith, lt), clear_live b (omega (arith, sp, live, some)) (omega (arith, sp, live, one, some))))

  -- ---- the nodes

  name_was : (k : ℕ) (m : Node) → node_at after k ≡ Some m → (was : Node) × (node_at tree k ≡ Some was) × (was.name ≡ m.name)
  name_was k m e = elim (eqb_tells k s) [
    | inl t ↦ (
        let is : now ≡ m = same_Some now m (sym (set_here tree.nodes s (Some now) None (there_inside tree.nodes s node here)) ∙ ap (node_at after) (sym t.1) ∙ e) in
        (node, ap (node_at tree) t.1 ∙ here, sym same_name ∙ ap (λ (x : Node). x.name) is))
    | inr t ↦ (m, sym (set_there tree.nodes s k (Some now) None t.1) ∙ e, refl)
  ]

  header_was : (k : ℕ) (ms : NodeParts) → parts_of q k ≡ Some ms → (x : NodeParts) × (parts_of p k ≡ Some x) × (x.header ≡ ms.header)
  header_was k ms e = elim (eqb_tells k s) [
    | inl t ↦ (from, ap (parts_of p) t.1 ∙ stands, ap (λ (x : NodeParts). x.header) (same_Some to ms (sym (set_here p.parts s (Some to) None inside) ∙ ap (parts_of q) (sym t.1) ∙ e)))
    | inr t ↦ (ms, sym (set_there p.parts s k (Some to) None t.1) ∙ e, refl)
  ]

  same_children : (children : List ℕ) → SameChildren tree p after q children
  same_children children i child m ms e f g = let x = name_was child m f in let y = header_was child ms g in (x.0, y.0, x.1, y.1, x.2, y.2)

  node_held : HoldsNode new after q now to
  node_held = record {
    header = w.header;
    table = list_stays ranges (length old - 1) old new keeps tree after p q node now from.table same_list list_apart (same_children node.children) (h.nodes s node from here stands).table;
    chunk_table = w.holds.chunk_table;
    chunks = w.holds.chunks;
    bytes = w.holds.begins;
  }

  other_held : (k : ℕ) (m : Node) (ms : NodeParts) → k ≢ s → node_at after k ≡ Some m → parts_of q k ≡ Some ms → HoldsNode new after q m ms
  other_held k m ms other e f =
      let at_node : node_at tree k ≡ Some m = sym (set_there tree.nodes s k (Some now) None other) ∙ e in
      let at_parts : parts_of p k ≡ Some ms = sym (set_there p.parts s k (Some to) None other) ∙ f in
      holds_kept ranges (length old - 1) old new keeps tree after p q m ms refl
      (all_apart ranges (length old - 1) (node_extents tree.wide ms) (long_node old tree p m ms (h.nodes k m ms at_node at_parts)) (λ b some.
      let live = one_of tree.wide p.parts k b ms at_parts in
      let lt = held b (omega (arith, live, some)) in
      let two = cover_two (extents_of tree.wide) p.parts s k b inside (there_inside p.parts k ms at_parts) other in
      let its : cover (extents_of tree.wide (parts_of p k)) b ≡ cover (node_extents tree.wide ms) b = ap (λ (o : Option NodeParts). cover (extents_of tree.wide o) b) at_parts in
      let mine = at_is b in
      let sp = own_split b in
      let one = one_each b in
      (omega (arith, lt), clear_live b (omega (arith, live, some)) (omega (arith, two, its, mine, sp, one, some)))))
      (same_children m.children)
      (h.nodes k m ms at_node at_parts)

  nodes_held : (k : ℕ) (m : Node) (ms : NodeParts) → node_at after k ≡ Some m → parts_of q k ≡ Some ms → HoldsNode new after q m ms
  nodes_held k m ms e f = elim (eqb_tells k s) [
    | inl t ↦ (
        let same : now ≡ m = same_Some now m (sym (set_here tree.nodes s (Some now) None (there_inside tree.nodes s node here)) ∙ ap (node_at after) (sym t.1) ∙ e) in
        let at : to ≡ ms = same_Some to ms (sym (set_here p.parts s (Some to) None inside) ∙ ap (parts_of q) (sym t.1) ∙ f) in
        subst (λ (x : Node). HoldsNode new after q x ms) same (subst (λ (x : NodeParts). HoldsNode new after q now x) at node_held))
    | inr t ↦ other_held k m ms t.1 e f
  ]

  -- ---- the heap

  live_now : (b : ℕ) → cover (live_extents tree.wide q) b + cover (data_extents from) b ≡ cover (live_extents tree.wide p) b + cover (data_extents to) b
  live_now b =
      let swap = cover_set (extents_of tree.wide) p.parts s b (Some to) inside in
      let own = at_is b in
      let was = own_split b in
      let then = own_parts tree.wide to b in
      omega (arith, swap, own, was, then)

  all_now : (b : ℕ) → cover (all_extents tree.wide q) b ≡ cover (all_extents tree.wide p) b + grown b
  all_now b =
      let x = all_is b in
      let y = cover_all tree.wide q b in
      let live = live_now b in
      let share = w.share b in
      let a = cover-append (data_extents to) later.gaps b in
      let c = cover-append (data_extents from) p.heap.gaps b in
      omega (arith, x, y, live, share, a, c)

  pointed : PointsTo (field_in old HEADER_END) p.heap.end
  pointed = ap pointer (sym (field_of_first 12 146 186 old (omega arith))) ∙ h.header.2.end_pointer

  filled : (b : ℕ) → 0 < cover (filter is_filler later.gaps) b → slice_get new b ≡ Some 122
  filled b some = there_of new b (w.fillers (holds_z old new tree p later [] h) b some)

  none_behind : (b : ℕ) → length new ≤ b → cover (all_extents tree.wide q) b ≡ 0
  none_behind b le =
      let longer = changes.longer in
      let was = h.beyond b (omega (arith, longer, le)) in
      let x = all_is b in
      let y = cover_all tree.wide q b in
      let live = live_now b in
      let data' = data_reach new to now.bytes w.holds b le in
      let gaps : cover later.gaps b ≡ 0 = no_more (cover later.gaps b) (λ some. let lt = gaps_held new later.gaps w.order w.threads filled b some in absurd (omega (arith, lt, le))) in
      omega (arith, was, x, y, live, data', gaps)

  root_is : (root : NodeParts) → parts_of p 0 ≡ Some root → (to' : NodeParts) × (parts_of q 0 ≡ Some to') × (root.header ≡ to'.header)
  root_is root e = elim (eqb_tells 0 s) [
    | inl z ↦ (
      to,
      ap (parts_of q) z.1 ∙ set_here p.parts s (Some to) None inside,
      sym (ap (λ (x : NodeParts). x.header) (same_Some from root (sym stands ∙ ap (parts_of p) (sym z.1) ∙ e))),
    )
    | inr z ↦ (root, set_there p.parts s 0 (Some to) None z.1 ∙ e, refl)
  ]

  pub settled_holds : Holds new after q []
  settled_holds =
      let root = root_is h.header.0 h.header.1 in
      record {
        is_tree = is;
        beyond = none_behind;
        header = (
          root.0,
          root.1,
          header_moved tree.wide tree.format root.0.header p.heap.end later.end old new (λ b lt out. changes.others b (held b (let i = range_in 0 186 b (omega arith) lt in omega (arith, i))) (clear_head b lt out)) (w.end pointed)
              (subst (λ (k : ℕ). SpellsHeader (field old 0 186) tree.wide tree.format k p.heap.end) root.2 h.header.2),
        );
        same_nodes = map-set_same is_some p.parts s (Some to) None (sym (ap is_some stands)) ∙ h.same_nodes ∙ sym (map-set_same is_some tree.nodes s (Some now) None (sym (ap is_some here)));
        nodes = nodes_held;
        tiles = record {
          once = λ b le. elim (leb_tells b p.heap.end) [
            | inl up ↦ (let was = h.tiles.once b up.1 in let x = all_now b in let g = not_grown b up.1 in omega (arith, was, x, g))
            | inr past ↦ (
                let was = h.tiles.inside b past.1 in
                let x = all_now b in
                let g = range_in (p.heap.end + 1) (later.end - p.heap.end) b (let lt = past.1 in omega (arith, lt)) (let r = w.rise in let lt = past.1 in omega (arith, r, le, lt)) in
                omega (arith, was, x, g))
          ];
          inside = λ b lt.
              let r = w.rise in
              let was = h.tiles.inside b (omega (arith, r, lt)) in
              let x = all_now b in
              let g = range_out (p.heap.end + 1) (later.end - p.heap.end) b (inr (omega (arith, r, lt))) in
              omega (arith, was, x, g);
        };
        gaps = w.order;
        fillers = fillers_spelled new later.gaps filled;
        threads = w.threads;
      }
