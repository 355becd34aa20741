-- The steps of an edit, from one state of a file in its midst to the next.
use Rattle.std.proofs.Common.{◌≡◌, ◌⊎◌, inl, inr, ℕ, refl, sym, ◌∙◌, ap, subst, arith, List, [], ◌++◌, length, ◌+◌, ◌-◌, ◌<◌, ◌≤◌, Bool, true, false}
use Rattle.std.proofs.lemmas.Bool.Decides.{leb_tells}
use Rattle.std.specs.Prelude.{Some, slice_get, IsTrue}
use Rattle.adf_format.specs.declared.types.Extent.{Extent}
use Rattle.adf_format.specs.Fields.{field}
use Rattle.adf_format.specs.Tree.{Tree, Node, node_at, is_among}
use Rattle.adf_format.specs.Tiles.{Tiles, cover, is_filler}
use Rattle.adf_format.specs.Parts.{SpellsHeader, IsFiller}
use Rattle.adf_format.specs.Placement.{Placement, NodeParts, Heap, parts_of, node_extents, live_extents, head_extents, all_extents}
use Rattle.adf_format.specs.LaysOut.{LaysOut, HoldsNode, AreGapsInOrder, ThreadsFreeChunks}
use Rattle.adf_format.specs.Changes.{KeepsBut, AllApart}
use Rattle.adf_format.proofs.HeapSteps.{cover-append}
use Rattle.adf_format.proofs.BehindEnd.{long_node}
use Rattle.adf_format.proofs.LayoutLaws.{one_of}
use Rattle.adf_format.proofs.FrameLaws.{field_kept, holds_kept}
use Rattle.adf_model.proofs.Creation.PartsApart.{range_in, all_apart, cover_all}
use Rattle.tree_laws.specs.Holding.{Holds, Rebuilds, ChangesIn, MeetsNothing}
use Rattle.tree_laws.proofs.Holding.Frames.{threads_stay, fillers_stay}

less_or : (a b : ℕ) → (a < b) ⊎ (b ≤ a)
less_or a b = elim (leb_tells b a) [ inl h ↦ inr h.1 | inr h ↦ inl h.1 ]

-- ---- a layout is a file with nothing taken

pub from_layout : (image : List ℕ) (tree : Tree) (p : Placement) → LaysOut image tree p → Holds image tree p []
from_layout image tree p l = record {
  is_tree = l.is_tree;
  beyond = λ b le. l.tiles.inside b (let e = l.end in omega (arith, e, le));
  header = l.header;
  same_nodes = l.same_nodes;
  nodes = l.nodes;
  tiles = l.tiles;
  gaps = l.gaps;
  fillers = l.fillers;
  threads = l.threads;
}

pub to_layout : (image : List ℕ) (tree : Tree) (p : Placement) → Holds image tree p [] → LaysOut image tree p
to_layout image tree p h = record {
  is_tree = h.is_tree;
  end = long (less_or p.heap.end (length image));
  header = h.header;
  same_nodes = h.same_nodes;
  nodes = h.nodes;
  tiles = h.tiles;
  gaps = h.gaps;
  fillers = h.fillers;
  threads = h.threads;
}
  where
    long : (p.heap.end < length image) ⊎ (length image ≤ p.heap.end) → p.heap.end < length image
    long (inl lt) = lt
    long (inr le) = absurd (
        let one : cover (all_extents tree.wide p) p.heap.end ≡ 1 = h.tiles.once p.heap.end (omega arith) in
        let none : cover (all_extents tree.wide p) p.heap.end ≡ 0 = h.beyond p.heap.end le in omega (arith, one, none))

-- ---- what the tiling says

module _ (image : List ℕ) (tree : Tree) (p : Placement) (taken : List Extent) (h : Holds image tree p taken) where
  pub split : (b : ℕ) → cover (taken ++ all_extents tree.wide p) b ≡ cover taken b + (cover head_extents b + cover (live_extents tree.wide p) b + cover p.heap.gaps b)
  split b = cover-append taken (all_extents tree.wide p) b ∙ ap (λ n. cover taken b + n) (cover_all tree.wide p b)

  -- a byte of a part, of a gap or of the head lies up to the end, and within the bytes
  pub up_to_end : (b : ℕ) → 0 < cover (all_extents tree.wide p) b → b ≤ p.heap.end
  up_to_end b some = by_place (less_or p.heap.end b)
    where
      by_place : (p.heap.end < b) ⊎ (b ≤ p.heap.end) → b ≤ p.heap.end
      by_place (inr le) = le
      by_place (inl past) = absurd (
          let none : cover (taken ++ all_extents tree.wide p) b ≡ 0 = h.tiles.inside b past in
          let e = cover-append taken (all_extents tree.wide p) b in omega (arith, none, e, some))

  pub within : (b : ℕ) → 0 < cover (all_extents tree.wide p) b → b < length image
  within b some = by_place (less_or b (length image))
    where
      by_place : (b < length image) ⊎ (length image ≤ b) → b < length image
      by_place (inl lt) = lt
      by_place (inr le) = absurd (let none : cover (all_extents tree.wide p) b ≡ 0 = h.beyond b le in omega (arith, none, some))

  pub some_bytes : 0 < length image
  some_bytes = within 0 (let all = cover_all tree.wide p 0 in omega (arith, all))

  pub keeps_but : (ranges : List Extent) (new : List ℕ) → ChangesIn ranges image new → KeepsBut ranges (length image - 1) image new
  keeps_but ranges new c b le none = c.others b (let some = some_bytes in omega (arith, le, some)) none

  -- no byte has two owners
  pub once : (b : ℕ) → cover taken b + (cover head_extents b + cover (live_extents tree.wide p) b + cover p.heap.gaps b) ≤ 1
  once b = by_place (less_or p.heap.end b)
    where
      by_place : (p.heap.end < b) ⊎ (b ≤ p.heap.end) → cover taken b + (cover head_extents b + cover (live_extents tree.wide p) b + cover p.heap.gaps b) ≤ 1
      by_place (inr le) = let one : cover (taken ++ all_extents tree.wide p) b ≡ 1 = h.tiles.once b le in let e = split b in omega (arith, one, e)
      by_place (inl past) = let none : cover (taken ++ all_extents tree.wide p) b ≡ 0 = h.tiles.inside b past in let e = split b in omega (arith, none, e)

-- ---- some nodes change

module _ (ranges : List Extent) (touched : List ℕ) (tree after : Tree) (p q : Placement) (taken kept : List Extent) (old new : List ℕ) (h : Holds old tree p taken) (r : Rebuilds ranges touched tree after p q taken kept old new) where
  head_or_gap : (b : ℕ) → 0 < cover head_extents b + cover p.heap.gaps b → slice_get new b ≡ slice_get old b
  head_or_gap b some =
      let all = cover_all tree.wide p b in
      let both = cover-append head_extents p.heap.gaps b in
      r.changes.others b (within old tree p taken h b (omega (arith, all, some))) (r.apart b (omega (arith, both, some)))

  in_head : (b : ℕ) → b < 186 → 0 < cover head_extents b
  in_head b lt = let held = range_in 0 186 b (omega arith) (omega (arith, lt)) in omega (arith, held)

  in_table : (b : ℕ) → 186 ≤ b → b < 266 → 0 < cover head_extents b
  in_table b low high = let held = range_in 186 80 b low (omega (arith, high)) in omega (arith, held)

  same_header : field new 0 186 ≡ field old 0 186
  same_header = field_kept 186 0 old new (λ b low high. head_or_gap b (let i = in_head b (omega (arith, high)) in omega (arith, i)))

  root_now : (root : NodeParts) × (parts_of q 0 ≡ Some root) × SpellsHeader (field new 0 186) after.wide after.format root.header q.heap.end
  root_now =
      let to = r.root h.header.0 h.header.1 in (
        to.0,
        to.1,
        subst (λ (w : Bool). SpellsHeader (field new 0 186) w after.format to.0.header q.heap.end) (sym r.wide)
            (subst (λ f. SpellsHeader (field new 0 186) tree.wide f to.0.header q.heap.end) (sym r.format)
            (subst (λ (k : ℕ). SpellsHeader (field new 0 186) tree.wide tree.format k q.heap.end) (sym to.2)
            (subst (λ (x : Heap). SpellsHeader (field new 0 186) tree.wide tree.format h.header.0.header x.end) (sym r.heap)
            (subst (λ bytes. SpellsHeader bytes tree.wide tree.format h.header.0.header p.heap.end) (sym same_header) h.header.2)))),
      )

  node_apart : (serial : ℕ) (node : Node) (parts : NodeParts) → node_at tree serial ≡ Some node → parts_of p serial ≡ Some parts → MeetsNothing ranges (node_extents tree.wide parts) → AllApart ranges (length old - 1) (node_extents tree.wide parts)
  node_apart serial node parts at placed meets = all_apart ranges (length old - 1) (node_extents tree.wide parts) (long_node old tree p node parts (h.nodes serial node parts at placed))
      (λ b some. (
        (let live = one_of tree.wide p.parts serial b parts placed in let all = cover_all tree.wide p b in let lt = within old tree p taken h b (omega (arith, live, all, some)) in omega (arith, lt)),
        meets b some,
      ))

  nodes_now : (serial : ℕ) (node : Node) (parts : NodeParts) → node_at after serial ≡ Some node → parts_of q serial ≡ Some parts → HoldsNode new after q node parts
  nodes_now serial node parts at placed = by_touch (is_among touched serial) refl
    where
      by_touch : (t : Bool) → is_among touched serial ≡ t → HoldsNode new after q node parts
      by_touch true e = r.those serial node parts e at placed
      by_touch false e =
          let o = r.others serial node parts e at placed in
          holds_kept ranges (length old - 1) old new (keeps_but old tree p taken h ranges new r.changes) tree after p q node parts r.wide (node_apart serial node parts o.0 o.1 o.2) o.3 (h.nodes serial node parts o.0 o.1)

  pub rebuilt : Holds new after q kept
  rebuilt = record {
    is_tree = r.is_tree;
    beyond = λ b le.
        let was : cover (all_extents tree.wide p) b ≡ 0 = h.beyond b (let l = r.changes.longer in omega (arith, l, le)) in
        let before = cover_all tree.wide p b in
        let now = cover_all after.wide q b in
        let same : cover q.heap.gaps b ≡ cover p.heap.gaps b = ap (λ (x : Heap). cover x.gaps b) r.heap in
        let live = r.beyond b le in
        omega (arith, was, before, now, same, live);
    header = root_now;
    same_nodes = r.same_nodes;
    nodes = nodes_now;
    tiles = subst (λ (x : Heap). Tiles (kept ++ all_extents after.wide q) x.end) (sym r.heap) (record { once = λ b le. r.owners b ∙ h.tiles.once b le; inside = λ b lt. r.owners b ∙ h.tiles.inside b lt });
    gaps = subst (λ (x : Heap). AreGapsInOrder x.gaps) (sym r.heap) h.gaps;
    fillers = subst (λ (x : Heap). (k : ℕ) (g : Extent) → slice_get x.gaps k ≡ Some g → IsTrue (is_filler g) → IsFiller (field new g.place g.length)) (sym r.heap)
        (fillers_stay old new p.heap.gaps (λ b some. head_or_gap b (omega (arith, some))) h.fillers);
    threads = subst (λ (x : Heap). ThreadsFreeChunks new x.gaps) (sym r.heap)
        (threads_stay old new p.heap.gaps (λ b some. head_or_gap b (omega (arith, some))) (λ b low high. head_or_gap b (let i = in_table b low high in omega (arith, i))) h.threads);
  }
