-- A node whose header says another shape and other chunks, which stand in ranges that were taken or in its own: the file holds the tree with that node.
use Rattle.std.proofs.Common.{◌≡◌, ◌≢◌, ◌⊎◌, inl, inr, ℕ, zero, suc, refl, sym, ◌∙◌, ap, subst, arith, List, [], ◌∷◌, ◌++◌, length, ◌+◌, ◌-◌, ◌<◌, ◌≤◌, Bool, true, false}
use Rattle.std.proofs.lemmas.Bool.Decides.{eqb_tells}
use Rattle.std.proofs.Math.Seq.{map-set_same}
use Rattle.std.specs.Prelude.{Option, Some, None, is_some, ◌||◌}
use Rattle.std.specs.List.{AllByRecursion}
use Rattle.adf_format.specs.declared.types.Extent.{Extent}
use Rattle.adf_format.specs.declared.types.ExtentKind.{ExtentKind}
use Rattle.adf_format.specs.Fields.{field, text_field}
use Rattle.adf_format.specs.Pointer.{To}
use Rattle.adf_format.specs.Tree.{Tree, Node, IsTree, node_at, is_among}
use Rattle.adf_format.specs.Tiles.{cover}
use Rattle.adf_format.specs.Parts.{IsFramed, SpellsTable, SpellsChunk, node_length, table_length, chunk_table_length}
use Rattle.adf_format.specs.Placement.{Placement, NodeParts, TablePart, ChunkPart, parts_of, extent, extents_of, node_extents, live_extents, head_extents, all_extents, table_extents, chunk_table_extents, chunk_extents}
use Rattle.adf_format.specs.LaysOut.{HoldsNode, HasTable, HasChunkTable, NamesChildren}
use Rattle.adf_format.specs.Changes.{KeepsBut, AllApart, SameChildren}
use Rattle.adf_format.specs.HeapRule.{data_extents, with_parts}
use Rattle.adf_format.proofs.HeapSteps.{cover-append}
use Rattle.adf_format.proofs.HeapLaws.{in_range}
use Rattle.adf_format.proofs.BehindEnd.{AllLong}
use Rattle.adf_format.proofs.FieldLaws.{length-field}
use Rattle.adf_format.proofs.FrameLaws.{whole}
use Rattle.adf_model.specs.Edits.{with_node}
use Rattle.adf_model.specs.NodeData.{HoldsData}
use Rattle.adf_model.proofs.Basics.{same_Some}
use Rattle.adf_model.proofs.Creation.CreatedNodes.{there_inside}
use Rattle.adf_model.proofs.Writes.Reaches.{stand_reaches}
use Rattle.adf_model.proofs.Creation.PartsApart.{range_out, all_apart, cover_all, cover_part, cover_two, cover_set}
use Rattle.tree_laws.specs.Holding.{Holds, MeetsNothing}
use Rattle.tree_laws.specs.DataSwitch.{Switches, DataSwitches, with_data}
use Rattle.tree_laws.proofs.Holding.Steps.{within, keeps_but, once, rebuilt}
use Rattle.tree_laws.proofs.Edits.LabelSet.{set_here, set_there, one_among}

-- ---- parts that are spelled end by the end of the bytes

pub frame_reaches : (image : List ℕ) (place n : ℕ) (opening closing : List ℕ) → 4 ≤ n → length closing ≡ 4 → IsFramed (field image place n) place n opening closing → place + n ≤ length image
frame_reaches image place n opening closing some four f =
    stand_reaches image place n (omega (arith, some)) (
    let last : length (field (field image place n) (n - 4) 4) ≡ 4 = ap length f.end_tag ∙ four in
    let inner = length-field (field image place n) (n - 4) 4 in
    let outer = length-field image place n in
    omega (arith, last, inner, outer, some))

pub chunks_reach : (image : List ℕ) (chunks : List ChunkPart) → AllByRecursion (λ (c : ChunkPart). SpellsChunk (field image c.place c.length) c.place c.length) chunks → (b : ℕ) → length image ≤ b → cover (chunk_extents chunks) b ≡ 0
chunks_reach image [] h b le = refl
chunks_reach image (c ∷ cs) h b le =
    let long : 21 ≤ c.length = h.0.long in
    let r = frame_reaches image c.place c.length _ _ (omega (arith, long)) refl h.0.framed in
    let z = range_out c.place c.length b (inr (omega (arith, r, le))) in
    let ih = chunks_reach image cs h.1 b le in omega (arith, z, ih)

pub chunk_table_reaches : (image : List ℕ) (chunks : List ChunkPart) (table : Option ℕ) → HasChunkTable image chunks table → (b : ℕ) → length image ≤ b → cover (chunk_table_extents table (length chunks)) b ≡ 0
chunk_table_reaches image chunks None h b le = refl
chunk_table_reaches image chunks (Some place) h b le =
    let r = frame_reaches image place (chunk_table_length (length chunks)) _ _ (omega arith) refl h.1 in
    let z = range_out place (chunk_table_length (length chunks)) b (inr (omega (arith, r, le))) in omega (arith, z)

pub data_reach : (image : List ℕ) (parts : NodeParts) (bytes : Option (List ℕ)) → HoldsData image parts bytes → (b : ℕ) → length image ≤ b → cover (data_extents parts) b ≡ 0
data_reach image parts bytes h b le =
    let a = chunk_table_reaches image parts.chunks parts.chunk_table h.chunk_table b le in
    let c = chunks_reach image parts.chunks h.chunks b le in
    let e = cover-append (chunk_table_extents parts.chunk_table (length parts.chunks)) (chunk_extents parts.chunks) b in omega (arith, a, c, e)

-- a node's own extents: its header, its table and its data
pub own_parts : (wide : Bool) (x : NodeParts) (b : ℕ) → cover (node_extents wide x) b ≡ in_range x.header (node_length wide) b + (cover (table_extents x.table) b + cover (data_extents x) b)
own_parts wide x b =
    let e = cover-append (extent ExtentKind.Node x.header (node_length wide) ∷ table_extents x.table ++ chunk_table_extents x.chunk_table (length x.chunks)) (chunk_extents x.chunks) b in
    let f = cover-append (table_extents x.table) (chunk_table_extents x.chunk_table (length x.chunks)) b in
    let k = cover-append (chunk_table_extents x.chunk_table (length x.chunks)) (chunk_extents x.chunks) b in
    omega (arith, e, f, k)

pub long_list : (o : Option TablePart) → AllLong (table_extents o)
long_list None = tt
long_list (Some t) = (omega arith, tt)

-- ---- the table of a node stays, where its children keep names and headers

module _ (ranges : List Extent) (end : ℕ) (old new : List ℕ) (keeps : KeepsBut ranges end old new) where
  names_stay : (bytes : List ℕ) (tree after : Tree) (p q : Placement) (children : List ℕ) → SameChildren tree p after q children → NamesChildren bytes tree p children → NamesChildren bytes after q children
  names_stay bytes tree after p q children same named i child now at e f g =
      let s = same i child now at e f g in
      let h = named i child s.0 s.1 e s.2 s.3 in
      record { named = h.named ∙ ap (text_field 32) s.4; points = h.points ∙ ap (λ place. Some (To place)) s.5 }

  pub list_stays : (tree after : Tree) (p q : Placement) (node now : Node) (table : Option TablePart) → now.children ≡ node.children → AllApart ranges end (table_extents table) → SameChildren tree p after q node.children → HasTable old tree p node table → HasTable new after q now table
  list_stays tree after p q node now None children apart same h = children ∙ h
  list_stays tree after p q node now (Some t) children apart same h =
      let e = whole ranges end old new keeps (extent ExtentKind.SubNodes t.place (table_length t.entries)) apart.0 in (
        h.0,
        subst (λ (xs : List ℕ). length xs ≤ t.entries) (sym children) h.1,
        subst (λ bytes. SpellsTable bytes t.place t.entries) (sym e) h.2,
        subst (λ (xs : List ℕ). NamesChildren (field new t.place (table_length t.entries)) after q xs) (sym children)
            (subst (λ bytes. NamesChildren bytes after q node.children) (sym e) (names_stay (field old t.place (table_length t.entries)) tree after p q node.children same h.3)),
      )

-- ---- the switch

module _ (ranges : List Extent) (old new : List ℕ) (tree : Tree) (p : Placement) (taken kept : List Extent) (s : ℕ) (node now : Node) (from : NodeParts) (chunks : List ChunkPart) (table : Option ℕ) (h : Holds old tree p taken)
    (here : node_at tree s ≡ Some node) (stands : parts_of p s ≡ Some from) (same_name : now.name ≡ node.name) (same_list : now.children ≡ node.children) (w : Switches ranges tree.wide now from chunks table taken kept old new) where
  abbrev to : NodeParts
  to = with_data from chunks table

  abbrev after : Tree
  after = with_node tree s now

  abbrev q : Placement
  q = with_parts p s (with_data from chunks table)

  inside : s < length p.parts
  inside = there_inside p.parts s from stands

  own_split : (b : ℕ) → cover (node_extents tree.wide from) b ≡ in_range from.header (node_length tree.wide) b + (cover (table_extents from.table) b + cover (data_extents from) b)
  own_split b = own_parts tree.wide from b

  at_is : (b : ℕ) → cover (extents_of tree.wide (parts_of p s)) b ≡ cover (node_extents tree.wide from) b
  at_is b = ap (λ (o : Option NodeParts). cover (extents_of tree.wide o) b) stands

  own_live : (b : ℕ) → cover (node_extents tree.wide from) b ≤ cover (live_extents tree.wide p) b
  own_live b = let c = cover_part (extents_of tree.wide) p.parts s b inside in let y = at_is b in omega (arith, c, y)

  owned : (b : ℕ) → cover taken b + (cover head_extents b + cover (live_extents tree.wide p) b + cover p.heap.gaps b) ≤ 1
  owned = once old tree p taken h

  held : (b : ℕ) → 0 < cover (live_extents tree.wide p) b → b < length old
  held b some = within old tree p taken h b (let all = cover_all tree.wide p b in omega (arith, all, some))

  -- what is written meets nothing but the header, the data and what was taken
  clear : (b : ℕ) → in_range from.header (node_length tree.wide) b + (cover (data_extents from) b + cover taken b) ≡ 0 → cover ranges b ≡ 0
  clear b none = decide (cover ranges b) (w.within b)
    where
      decide : (n : ℕ) → (0 < n → 0 < cover (extent ExtentKind.Node from.header (node_length tree.wide) ∷ data_extents from ++ taken) b) → n ≡ 0
      decide zero k = refl
      decide (suc n) k = absurd (let some = k (omega arith) in let e = cover-append (data_extents from) taken b in omega (arith, some, e, none))

  keeps : KeepsBut ranges (length old - 1) old new
  keeps = keeps_but old tree p taken h ranges new w.changes

  list_apart : AllApart ranges (length old - 1) (table_extents from.table)
  list_apart = all_apart ranges (length old - 1) (table_extents from.table) (long_list from.table) (λ b some.
      let sp = own_split b in
      let l = own_live b in
      let one = owned b in
      ((let lt = held b (omega (arith, sp, l, some)) in omega (arith, lt)), clear b (omega (arith, sp, l, one, some))))

  name_was : (k : ℕ) (m : Node) → node_at after k ≡ Some m → (was : Node) × (node_at tree k ≡ Some was) × (was.name ≡ m.name)
  name_was k m e = elim (eqb_tells k s) [
    | inl t ↦ (
        let is : now ≡ m = same_Some now m (sym (set_here tree.nodes s (Some now) None (there_inside tree.nodes s node here)) ∙ ap (node_at after) (sym t.1) ∙ e) in
        (node, ap (node_at tree) t.1 ∙ here, sym same_name ∙ ap (λ (x : Node). x.name) is))
    | inr t ↦ (m, sym (set_there tree.nodes s k (Some now) None t.1) ∙ e, refl)
  ]

  header_was : (k : ℕ) (ms : NodeParts) → parts_of q k ≡ Some ms → (x : NodeParts) × (parts_of p k ≡ Some x) × (x.header ≡ ms.header)
  header_was k ms e = elim (eqb_tells k s) [
    | inl t ↦ (from, ap (parts_of p) t.1 ∙ stands, ap (λ (x : NodeParts). x.header) (same_Some to ms (sym (set_here p.parts s (Some to) None inside) ∙ ap (parts_of q) (sym t.1) ∙ e)))
    | inr t ↦ (ms, sym (set_there p.parts s k (Some to) None t.1) ∙ e, refl)
  ]

  same_children : (children : List ℕ) → SameChildren tree p after q children
  same_children children i child m ms e f g = let x = name_was child m f in let y = header_was child ms g in (x.0, y.0, x.1, y.1, x.2, y.2)

  node_held : HoldsNode new after q now to
  node_held = record {
    header = w.header;
    table = list_stays ranges (length old - 1) old new keeps tree after p q node now from.table same_list list_apart (same_children node.children) (h.nodes s node from here stands).table;
    chunk_table = w.holds.chunk_table;
    chunks = w.holds.chunks;
    bytes = w.holds.begins;
  }

  live_now : (b : ℕ) → cover (live_extents tree.wide q) b + cover (data_extents from) b ≡ cover (live_extents tree.wide p) b + cover (data_extents to) b
  live_now b =
      let swap = cover_set (extents_of tree.wide) p.parts s b (Some to) inside in
      let own = at_is b in
      let was = own_split b in
      let then = own_parts tree.wide to b in
      omega (arith, swap, own, was, then)

  pub data_switched : IsTree after → Holds new after q kept
  data_switched is = rebuilt ranges (s ∷ []) tree after p q taken kept old new h (record {
    is_tree = is;
    wide = refl;
    format = refl;
    same_nodes = map-set_same is_some p.parts s (Some to) None (sym (ap is_some stands)) ∙ h.same_nodes ∙ sym (map-set_same is_some tree.nodes s (Some now) None (sym (ap is_some here)));
    heap = refl;
    root = λ root e. elim (eqb_tells 0 s) [
      | inl z ↦ (
        to,
        ap (parts_of q) z.1 ∙ set_here p.parts s (Some to) None inside,
        ap (λ (x : NodeParts). x.header) (same_Some from root (sym stands ∙ ap (parts_of p) (sym z.1) ∙ e)),
      )
      | inr z ↦ (root, set_there p.parts s 0 (Some to) None z.1 ∙ e, refl)
    ];
    changes = w.changes;
    apart = λ b some. clear b (
        let sp = own_split b in
        let l = own_live b in
        let one = owned b in
        let both = cover-append head_extents p.heap.gaps b in
        omega (arith, sp, l, one, both, some));
    owners = λ b.
        let a = cover-append kept (all_extents tree.wide q) b in
        let c = cover-append taken (all_extents tree.wide p) b in
        let d = cover_all tree.wide q b in
        let e = cover_all tree.wide p b in
        let l = live_now b in
        let o = w.owners b in
        let x = cover-append kept (data_extents to) b in
        let y = cover-append taken (data_extents from) b in
        omega (arith, a, c, d, e, l, o, x, y);
    beyond = λ b le.
        let g = w.changes.longer in
        let none : cover (all_extents tree.wide p) b ≡ 0 = h.beyond b (omega (arith, g, le)) in
        let all = cover_all tree.wide p b in
        let l = live_now b in
        let z = data_reach new to now.bytes w.holds b le in
        omega (arith, none, all, l, z);
    others = λ k m ms unheld e f. other k m ms (one_among s k false unheld) e f;
    those = λ k m ms among e f. that k m ms (one_among s k true among) e f;
  })
    where
      other : (k : ℕ) (m : Node) (ms : NodeParts) → ((false ≡ true) × (k ≡ s)) ⊎ ((false ≡ false) × (k ≢ s)) → node_at after k ≡ Some m → parts_of q k ≡ Some ms
          → (node_at tree k ≡ Some m) × (parts_of p k ≡ Some ms) × MeetsNothing ranges (node_extents tree.wide ms) × SameChildren tree p after q m.children
      other k m ms (inl c) e f = cc
      other k m ms (inr c) e f =
          let at_parts : parts_of p k ≡ Some ms = sym (set_there p.parts s k (Some to) None c.1) ∙ f in (
            sym (set_there tree.nodes s k (Some now) None c.1) ∙ e,
            at_parts,
            λ b some. clear b (
                let two = cover_two (extents_of tree.wide) p.parts s k b inside (there_inside p.parts k ms at_parts) c.1 in
                let its : cover (extents_of tree.wide (parts_of p k)) b ≡ cover (node_extents tree.wide ms) b = ap (λ (o : Option NodeParts). cover (extents_of tree.wide o) b) at_parts in
                let ours = at_is b in
                let sp = own_split b in
                let one = owned b in
                omega (arith, two, its, ours, sp, one, some)),
            same_children m.children,
          )

      that : (k : ℕ) (m : Node) (ms : NodeParts) → ((true ≡ true) × (k ≡ s)) ⊎ ((true ≡ false) × (k ≢ s)) → node_at after k ≡ Some m → parts_of q k ≡ Some ms → HoldsNode new after q m ms
      that k m ms (inr c) e f = cc
      that k m ms (inl c) e f =
          let is : now ≡ m = same_Some now m (sym (set_here tree.nodes s (Some now) None (there_inside tree.nodes s node here)) ∙ ap (node_at after) (sym c.1) ∙ e) in
          let at : to ≡ ms = same_Some to ms (sym (set_here p.parts s (Some to) None inside) ∙ ap (parts_of q) (sym c.1) ∙ f) in
          subst (λ (x : Node). HoldsNode new after q x ms) is (subst (λ (x : NodeParts). HoldsNode new after q now x) at node_held)

pub data_switches : DataSwitches
data_switches ranges old new tree p taken kept s node now from chunks table h here stands name list w is =
    data_switched ranges old new tree p taken kept s node now from chunks table h here stands name list w is
