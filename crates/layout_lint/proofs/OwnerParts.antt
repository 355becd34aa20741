-- The nodes of a layout, each looked at by itself: what its place names are its parts, and it keeps its rules.
use Rattle.std.proofs.Common.{◌≡◌, inl, inr, ℕ, zero, suc, refl, sym, ◌∙◌, ap, subst, arith, List, [], ◌∷◌, ◌++◌, length, get_or, ◌+◌, ◌<◌, ◌≤◌, Bool, true, false}
use Rattle.std.proofs.lemmas.List.{length-map}
use Rattle.std.proofs.lemmas.List.Elements.{All-nil, All-append, All-from_recursion}
use Rattle.std.proofs.lemmas.Option.{slice_get_within, slice_get-get_or}
use Rattle.std.specs.Prelude.{Option, Some, None, IsSome, is_some, slice_get, ◌==◌}
use Rattle.std.specs.List.{All, AllByRecursion, list_any}
use Rattle.adf_format.specs.declared.types.Extent.{Extent}
use Rattle.adf_format.specs.declared.types.ExtentKind.{ExtentKind}
use Rattle.adf_format.specs.Fields.{field}
use Rattle.adf_format.specs.Parts.{SpellsChunk, node_length}
use Rattle.adf_format.specs.Tiles.{total_length}
use Rattle.adf_format.specs.Tree.{Tree, Node, next_serial, node_at, tree_order, renumbered_node, IsNumbered}
use Rattle.adf_format.specs.Placement.{Placement, extent, NodeParts, TablePart, ChunkPart, parts_of, node_extents, table_extents, chunk_table_extents, chunk_extents}
use Rattle.adf_format.specs.LaysOut.{LaysOut, HoldsNode}
use Rattle.adf_format.specs.Checks.{first_broken}
use Rattle.adf_format.specs.FirstFault.{Visit, found_extents, is_wide, end_in, node_rows_at}
use Rattle.adf_format.specs.Verdict.{NodePlace, ListsNodes}
use Rattle.adf_format.proofs.ClosureLaws.{IsIn}
use Rattle.adf_format.proofs.LayoutLaws.{live_parts}
use Rattle.adf_format.proofs.SameLayout.{end_recorded, wide_recorded}
use Rattle.adf_model.proofs.Basics.{same_Some, not_there}
use Rattle.adf_model.proofs.Trees.Renumbered.{among_get, live_listed, at_pos, node_new, pos}
use Rattle.adf_model.proofs.Walks.WalkRows.{Passed, walk_passes}
use Rattle.layout_laws.specs.FoundLayout.{parts_at}
use Rattle.layout_laws.proofs.HeldParts.{parts_held}
use Rattle.layout_laws.proofs.NodesStand.{Stands, AreStanding, nodes_stand, something}
use Rattle.layout_laws.proofs.VisitExtents.{visit_parts}
use Rattle.layout_lint.specs.Nodes.{extents_at}
use Rattle.layout_lint.proofs.OwnerRows.{alone_kept}

abbrev pub HasLength : Extent → Type 0
HasLength e = 0 < e.length

-- it keeps its rules by itself, wherever there is room for it
abbrev pub Keeps : List ℕ → Bool → ℕ → ℕ → Type 0
Keeps image wide end place = (used : ℕ) → used + total_length (extents_at image wide place) ≤ end + 1 → first_broken (node_rows_at image wide end false used place None 0) ≡ None

-- ---- no part is empty

long_chunks : (image : List ℕ) (cs : List ChunkPart) → AllByRecursion (λ (c : ChunkPart). SpellsChunk (field image c.place c.length) c.place c.length) cs → AllByRecursion HasLength (chunk_extents cs)
long_chunks image [] h = tt
long_chunks image (c ∷ cs) h = ((let long = h.0.long in omega (arith, long)), long_chunks image cs h.1)

long_node : (wide : Bool) → 0 < node_length wide
long_node false = omega arith
long_node true = omega arith

long_table : (t : Option TablePart) → All HasLength (table_extents t)
long_table None = All-nil HasLength
long_table (Some t) = All-from_recursion HasLength (table_extents (Some t)) (omega arith, tt)

long_chunk_table : (t : Option ℕ) (n : ℕ) → All HasLength (chunk_table_extents t n)
long_chunk_table None n = All-nil HasLength
long_chunk_table (Some place) n = All-from_recursion HasLength (chunk_table_extents (Some place) n) (omega arith, tt)

module _ (image : List ℕ) (tree : Tree) (p : Placement) (l : LaysOut image tree p) where
  pub long_parts : (node : Node) (parts : NodeParts) → HoldsNode image tree p node parts → All HasLength (node_extents tree.wide parts)
  long_parts node parts h =
      All-append HasLength (extent ExtentKind.Node parts.header (node_length tree.wide) ∷ []) (table_extents parts.table ++ chunk_table_extents parts.chunk_table (length parts.chunks) ++ chunk_extents parts.chunks)
      (All-from_recursion HasLength (extent ExtentKind.Node parts.header (node_length tree.wide) ∷ []) (long_node tree.wide, tt))
      (All-append HasLength (table_extents parts.table ++ chunk_table_extents parts.chunk_table (length parts.chunks)) (chunk_extents parts.chunks)
      (All-append HasLength (table_extents parts.table) (chunk_table_extents parts.chunk_table (length parts.chunks)) (long_table parts.table) (long_chunk_table parts.chunk_table (length parts.chunks)))
      (All-from_recursion HasLength (chunk_extents parts.chunks) (long_chunks image parts.chunks h.chunks)))

  -- ---- one node keeps its rules

  met_keeps : (v : Visit) → Passed image (is_wide image) (end_in image) v → Keeps image (is_wide image) (end_in image) v.place
  met_keeps v passed used room =
      alone_kept image (is_wide image) (end_in image) (list_any (λ (w : Visit). w.place == v.place) passed.0) (266 + total_length (found_extents image (is_wide image) passed.0)) v.place v.entry (length v.path) used
      passed.1 room

  visit_at : (vs : List Visit) (ss : List ℕ) (k s : ℕ) → AreStanding image tree p l vs ss → slice_get ss k ≡ Some s → (v : Visit) × IsIn v vs × Stands image tree p l v s
  visit_at [] [] k s h e = absurd (not_there s e)
  visit_at [] (t ∷ ss) k s h e = absurd h
  visit_at (v ∷ vs) [] k s h e = absurd h
  visit_at (v ∷ vs) (t ∷ ss) zero s h e = (v, inl refl, subst (Stands image tree p l v) (same_Some t s e) h.0)
  visit_at (v ∷ vs) (t ∷ ss) (suc k) s h e = let r = visit_at vs ss k s h.1 e in (r.0, inr r.1, r.2)

  pub keeps_at : (s : ℕ) (parts : NodeParts) → IsSome (node_at tree s) → parts_of p s ≡ Some parts → Keeps image tree.wide p.heap.end parts.header
  keeps_at s parts live has =
      let walk = nodes_stand image tree p l in
      let met = visit_at walk.0 (tree_order tree) (pos tree l.is_tree s) s walk.2 (at_pos tree l.is_tree s live) in
      let place : met.0.place ≡ parts.header = met.2.place ∙ ap (λ (q : NodeParts). q.header) (same_Some met.2.parts parts (sym met.2.has ∙ has)) in
      subst (Keeps image tree.wide p.heap.end) place
      (subst (λ e. Keeps image tree.wide e met.0.place) (end_recorded image tree p l)
      (subst (λ w. Keeps image w (end_in image) met.0.place) (wide_recorded image tree p l)
      (met_keeps met.0 (walk_passes image walk.0 walk.1 met.0 met.1))))

  -- ---- the numbers of a numbered tree are all live

  module _ (in_order : IsNumbered tree) where
    many : next_serial tree ≡ length (tree_order tree)
    many = ap (λ (t : Tree). length t.nodes) (sym in_order) ∙ length-map (tree_order tree) (λ s. renumbered_node (tree_order tree) (node_at tree s))

    pub as_many : length p.parts ≡ next_serial tree
    as_many = sym (length-map p.parts is_some) ∙ ap length l.same_nodes ∙ length-map tree.nodes is_some

    pub all_live : (k : ℕ) → k < next_serial tree → IsSome (node_at tree k)
    all_live k lt =
        let here : slice_get (tree_order tree) k ≡ Some (get_or (tree_order tree) k 0) = slice_get-get_or (tree_order tree) k 0 (let m = many in omega (arith, lt, m)) in
        let same : node_at tree k ≡ renumbered_node (tree_order tree) (node_at tree (get_or (tree_order tree) k 0)) = ap (λ (t : Tree). node_at t k) (sym in_order) ∙ node_new tree l.is_tree k (get_or (tree_order tree) k 0) here in
        ap is_some same ∙ kept (node_at tree (get_or (tree_order tree) k 0)) ∙ live_listed tree l.is_tree (get_or (tree_order tree) k 0) (among_get (tree_order tree) k (get_or (tree_order tree) k 0) here)
      where
        kept : (o : Option Node) → is_some (renumbered_node (tree_order tree) o) ≡ is_some o
        kept None = refl
        kept (Some node) = refl

    module _ (ns : List NodePlace) (listed : ListsNodes tree p ns) where
      -- a node of the list, with its parts
      pub record HasParts (k : ℕ) (n : NodePlace) : Type 0 where
        pub node : Node
        pub parts : NodeParts
        pub at : node_at tree k ≡ Some node
        pub has : parts_of p k ≡ Some parts
        pub place : n.place ≡ parts.header
        pub extents : extents_at image tree.wide n.place ≡ node_extents tree.wide parts

      pub has_parts : (k : ℕ) (n : NodePlace) → slice_get ns k ≡ Some n → HasParts k n
      has_parts k n e =
          let within = slice_get_within ns k n e in
          let count = listed.count in
          let live = all_live k (omega (arith, within, count)) in
          let node = something (node_at tree k) live in
          let parts = something (parts_of p k) (live_parts image tree p l k ∙ live) in
          let place : n.place ≡ parts.0.header = listed.places k n parts.0 e parts.1 in
          let held : parts.0 ≡ parts_at image tree.wide parts.0.header = parts_held image tree p node.0 parts.0 (l.nodes k node.0 parts.0 node.1 parts.1) in
          record {
            node = node.0;
            parts = parts.0;
            at = node.1;
            has = parts.1;
            place = place;
            extents = visit_parts image tree.wide (record { place = n.place; entry = None; path = [] }) ∙ ap (λ q. node_extents tree.wide (parts_at image tree.wide q)) place ∙ ap (node_extents tree.wide) (sym held);
          }
