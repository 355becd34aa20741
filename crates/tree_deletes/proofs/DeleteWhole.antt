-- A node is deleted with all below it, whole, where the parts of each node are given together.
use Rattle.std.proofs.Common.{◌≡◌, inl, ℕ, suc, refl, sym, ◌∙◌, ap, subst, arith, List, [], ◌∷◌, ◌++◌, length, ◌+◌, ◌-◌, ◌*◌, ◌≤◌, Bool}
use Rattle.std.specs.Prelude.{Some, Ok, slice_get}
use Rattle.adf_format.specs.declared.types.Extent.{Extent}
use Rattle.adf_format.specs.declared.types.ExtentKind.{ExtentKind}
use Rattle.adf_format.specs.Fields.{field}
use Rattle.adf_format.specs.Hex.{hex_text}
use Rattle.adf_format.specs.Tree.{Tree, Node, children_at, parent_of}
use Rattle.adf_format.specs.Tiles.{Tiles, cover, MeetsNone}
use Rattle.adf_format.specs.Placement.{Placement, Heap, all_extents, head_extents, live_extents, NodeParts, TablePart, parts_of}
use Rattle.adf_format.specs.LaysOut.{LaysOut, AreGapsInOrder, ThreadsFreeChunks}
use Rattle.adf_format.specs.HeapRule.{after_gives, heap_give, give_all}
use Rattle.adf_format.specs.declared.fields.TheConstants.{HEADER_END}
use Rattle.adf_format.specs.Changes.{heap_fields}
use Rattle.adf_format.specs.HeapBytes.{ChangesOnly, HoldsFillers}
use Rattle.adf_format.specs.Pointer.{PointsTo, pointer}
use Rattle.adf_format.specs.RecordFields.{field_in}
use Rattle.adf_format.proofs.BehindEnd.{AllLong}
use Rattle.adf_format.proofs.FrameLaws.{field_of_first}
use Rattle.adf_model.proofs.Creation.PartsApart.{range_in, range_out, range_within, cover_all}
use Rattle.adf_model.proofs.Writes.DataRoom.{cover-give_all, end-give_all}
use Rattle.adf_data.proofs.GiveLaws.{given_covers}
use Rattle.file_heap.specs.Heap.{FreeSpace}
use Rattle.file_heap.proofs.Chunks.{threads_chunks}
use Rattle.tree_deletes.specs.Given.{GivesTogether}
use Rattle.adf_format.proofs.HeapSteps.{cover-append, give_keeps_order}
use Rattle.adf_model.specs.declared.tree.Edit.{Edit}
use Rattle.adf_model.specs.declared.tree.NodeId.{NodeId}
use Rattle.adf_model.specs.Edits.{file_step}
use Rattle.tree_laws.specs.Holding.{Holds}
use Rattle.tree_laws.specs.MidEdit.{IsMidEdit, Puts}
use Rattle.tree_laws.specs.Plans.{plan_deleted}
use Rattle.tree_laws.specs.Spared.{IsEditWhole}
use Rattle.tree_laws.specs.WholeEdits.{closing_ranges}
use Rattle.tree_laws.proofs.Holding.Steps.{once}
use Rattle.tree_laws.proofs.Holding.HeapCalls.{holds_z}
use Rattle.tree_laws.proofs.Holding.HeapMoves.{moved}
use Rattle.tree_laws.proofs.Whole.Mid.{mid_goes_on, in_old, owned_by}
use Rattle.tree_laws.proofs.Whole.Deletes as deletes

-- ---- ranges that were taken are given together

order_all : (given : List Extent) (heap : Heap) → AllLong given → AreGapsInOrder heap.gaps → ((b : ℕ) → cover given b + cover heap.gaps b ≤ 1) → AreGapsInOrder (give_all given heap).gaps
order_all [] heap long order once' = order
order_all (e ∷ es) heap long order once' =
    order_all es (heap_give e.place e.length heap) long.1 (give_keeps_order e.place e.length heap long.0 order meets).0 (λ b. let o = once' b in let g = given_covers e.place e.length b heap in omega (arith, o, g))
  where
    meets : MeetsNone e.place e.length heap.gaps
    meets b low high = let held = range_in e.place e.length b low high in let o = once' b in omega (arith, held, o)

module _ (given : List Extent) (old new : List ℕ) (tree : Tree) (p : Placement) (taken : List Extent) (long : AllLong given) (h : Holds old tree p (given ++ taken)) (was now : FreeSpace) (same : p.heap ≡ was.heap) (g : GivesTogether given was now old new) where
  abbrev after : Placement
  after = after_gives p given

  now_is : now.heap ≡ give_all given p.heap
  now_is = g.heap ∙ ap (give_all given) (sym same)

  one_each : (b : ℕ) → cover given b + cover taken b + (cover head_extents b + cover (live_extents tree.wide p) b + cover p.heap.gaps b) ≤ 1
  one_each b = let o = once old tree p (given ++ taken) h b in let s = cover-append given taken b in omega (arith, o, s)

  pointed : PointsTo (field_in old HEADER_END) p.heap.end
  pointed = ap pointer (sym (field_of_first 12 146 186 old (omega arith))) ∙ h.header.2.end_pointer

  changed : ChangesOnly (heap_fields ++ given ++ p.heap.gaps) old new
  changed = subst (λ (x : Heap). ChangesOnly (heap_fields ++ given ++ x.gaps) old new) (sym same) g.changes

  split : (b : ℕ) → cover (heap_fields ++ given ++ p.heap.gaps) b ≡ cover heap_fields b + (cover given b + cover p.heap.gaps b)
  split b = let s = cover-append heap_fields (given ++ p.heap.gaps) b in let t = cover-append given p.heap.gaps b in omega (arith, s, t)

  same_cover : (b : ℕ) → cover (taken ++ all_extents tree.wide after) b ≡ cover ((given ++ taken) ++ all_extents tree.wide p) b
  same_cover b =
      let x = cover-append taken (all_extents tree.wide after) b in
      let y = cover-append (given ++ taken) (all_extents tree.wide p) b in
      let z = cover-append given taken b in
      let u = cover_all tree.wide after b in
      let v = cover_all tree.wide p b in
      let w = cover-give_all given p.heap b in
      omega (arith, x, y, z, u, v, w)

  tiled : Tiles (taken ++ all_extents tree.wide after) after.heap.end
  tiled =
      subst (Tiles (taken ++ all_extents tree.wide after)) (sym (end-give_all given p.heap))
      (record { once = λ b le. same_cover b ∙ h.tiles.once b le; inside = λ b lt. same_cover b ∙ h.tiles.inside b lt })

  pub gave_all : Holds new tree after taken
  gave_all = moved (heap_fields ++ given ++ p.heap.gaps) tree p after (given ++ taken) taken old new h (record {
    parts = refl;
    changes = in_old (heap_fields ++ given ++ p.heap.gaps) old new changed;
    apart = λ b some.
        let one = one_each b in
        let s = split b in
        let w = range_within 0 186 146 12 b (omega arith) (omega arith) in
        omega (arith, one, some, s, w);
    head = λ b lt out.
        let one = one_each b in
        let s = split b in
        let a = range_out 146 12 b out in
        let k = range_out 186 80 b (inl lt) in
        let i = range_in 0 186 b (omega arith) lt in
        omega (arith, one, s, a, k, i);
    end = subst (λ (x : Heap). PointsTo (field_in new HEADER_END) x.end) now_is (g.end (subst (λ (x : Heap). PointsTo (field_in old HEADER_END) x.end) same pointed));
    tiles = tiled;
    gaps = order_all given p.heap long h.gaps (λ b. let o = one_each b in omega (arith, o));
    fillers = subst (λ (x : Heap). HoldsFillers new x.gaps) now_is (g.fillers (subst (λ (x : Heap). HoldsFillers old x.gaps) same (holds_z old new tree p p.heap (given ++ taken) h)));
    threads = subst (λ (x : Heap). ThreadsFreeChunks new x.gaps) now_is (threads_chunks now new g.threads);
  })

-- ---- the deletion

module _ (limit : ℕ) (writable : Bool) (old a middle : List ℕ) (tree after : Tree) (p : Placement) (node : NodeId) (parent i : ℕ) (at : NodeParts) (t : TablePart)
    (l : LaysOut old tree p) (made : file_step writable tree (Edit.Delete node) ≡ Ok after) (above : parent_of tree node.serial ≡ Some parent) (listed : slice_get (children_at tree parent) i ≡ Some node.serial)
    (placed : parts_of p parent ≡ Some at) (has : at.table ≡ Some t)
    (v : Puts ExtentKind.SubNodes (t.place + 16 + 44 * i) (44 * (length (children_at tree parent) - suc i)) (field old (t.place + 16 + 44 * (i + 1)) (44 * (length (children_at tree parent) - suc i))) old a)
    (w : Puts ExtentKind.Node (at.header + 68) 8 (hex_text 8 (length (children_at tree parent) - 1)) a middle) where
  abbrev pub given : List Extent
  given = (plan_deleted after p).given

  abbrev r : Placement
  r = (plan_deleted after p).placed

  abbrev q : Placement
  q = after_gives r given

  abbrev ranges : List Extent
  ranges = closing_ranges at t (length (children_at tree parent)) i ++ given

  pub taken : AllLong given × Holds middle after r (given ++ [])
  taken = deletes.taken limit writable old a middle tree after p node parent i at t l made above listed placed has v w

  joined : IsMidEdit ranges p old after r (given ++ []) middle
  joined = deletes.joined limit writable old a middle tree after p node parent i at t l made above listed placed has v w

  module _ (new : List ℕ) (was now : FreeSpace) (same_heap : p.heap ≡ was.heap) (g : GivesTogether given was now middle new) where
    held : Holds new after q []
    held = let x = taken in gave_all given middle new after r [] x.0 x.1 was now same_heap g

    ended : IsMidEdit ranges p old after q [] new
    ended =
        let x = taken in
        mid_goes_on ranges p old after after r q (given ++ []) [] middle new (given ++ r.heap.gaps) joined held (let e = end-give_all given r.heap in omega (arith, e))
        (subst (λ (x : Heap). ChangesOnly (heap_fields ++ given ++ x.gaps) middle new) (sym same_heap) (let c = g in c.changes))
        (λ k one.
        let s = cover-append (given ++ []) r.heap.gaps k in
        let u = cover-append given [] k in
        let y = cover-append given r.heap.gaps k in
        let z = cover-append ((given ++ []) ++ r.heap.gaps) ranges k in omega (arith, one, s, u, y, z))
        (owned_by middle new after r q (given ++ []) [] x.1 held refl (let e = end-give_all given r.heap in omega (arith, e)) ranges)

    pub delete_whole : IsEditWhole limit writable (Edit.Delete node) tree p after q old new
    delete_whole = deletes.delete_ends limit writable old a middle tree after p node parent i at t l made above listed placed has v w new ended
