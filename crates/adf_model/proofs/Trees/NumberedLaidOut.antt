-- A file in which a tree is laid out lays out the tree that is numbered in tree order.
use Rattle.std.proofs.Common.{◌≡◌, ℕ, zero, suc, ◌+◌, ◌<◌, ◌≤◌, Bool, true, false, cond, List, [], ◌∷◌, length, map, get_or, refl, sym, ◌∙◌, ap, subst, arith, inl, inr, add_assoc}
use Rattle.std.proofs.lemmas.List.{length-map}
use Rattle.std.proofs.lemmas.Bool.Decides.{nat_tests, eqb_tells}
use Rattle.std.specs.Prelude.{Option, Some, None, IsSome, is_some, ◌==◌, nat_lt, slice_get, if◌then◌else◌}
use Rattle.std.specs.List.{flat_map}
use Rattle.adf_format.specs.declared.types.Extent.{Extent}
use Rattle.adf_format.specs.Fields.{field}
use Rattle.adf_format.specs.Tiles.{cover}
use Rattle.adf_format.specs.Parts.{SpellsNode, SpellsEntry, node_length, table_length}
use Rattle.adf_format.specs.Tree.{Tree, Node, IsAmong, node_at, is_live, children_of, is_among, tree_order, position_of, renumbered_node, numbered}
use Rattle.adf_format.specs.Placement.{Placement, NodeParts, TablePart, parts_of, extents_of, head_extents, live_extents, all_extents}
use Rattle.adf_format.specs.LaysOut.{LaysOut, HoldsNode, HasTable, NamesChildren, fields_of}
use Rattle.adf_format.proofs.CountLaws.{sum_below, sum_zero, sum_add}
use Rattle.adf_format.proofs.HeapSteps.{cover-append}
use Rattle.adf_format.proofs.LayoutLaws.{live_parts}
use Rattle.adf_model.specs.Placing.{numbered_placement}
use Rattle.adf_model.proofs.Basics.{not_true, not_there, same_Some, or_right, among_head}
use Rattle.adf_model.proofs.Creation.PartsApart.{cover_all}
use Rattle.adf_model.proofs.Trees.TreeOrder.{times, total, listed_times}
use Rattle.adf_model.proofs.Trees.Renumbered.{numbered_is_tree, index_map, among_get, live_within, came, live_listed, root_first, at_pos, node_new, Came}

-- ---- a sum over the numbers of a list, as one over all numbers

-- so many times a number
abbrev scaled : ℕ → ℕ → ℕ
scaled zero v = 0
scaled (suc n) v = v + scaled n v

scaled_more : (t : Bool) (n v : ℕ) → scaled (cond t 1 0 + n) v ≡ cond t v 0 + scaled n v
scaled_more true n v = ap (λ k. scaled k v) (one n)
  where
    one : (n : ℕ) → 1 + n ≡ suc n
    one n = omega arith
scaled_more false n v = ap (λ k. scaled k v) (none n) ∙ sym (none (scaled n v))
  where
    none : (n : ℕ) → 0 + n ≡ n
    none n = omega arith

sum_same : (f g : ℕ → ℕ) (m : ℕ) → ((q : ℕ) → q < m → f q ≡ g q) → sum_below f m ≡ sum_below g m
sum_same f g zero same = refl
sum_same f g (suc m) same = ap (λ n. n + f m) (sum_same f g m (λ q lt. same q (omega (arith, lt)))) ∙ ap (λ n. sum_below g m + n) (same m (omega arith))

-- one number of those below m
one_point : (w : ℕ → ℕ) (x m : ℕ) → sum_below (λ q. cond (x == q) (w q) 0) m ≡ cond (nat_lt x m) (w x) 0
one_point w x zero = none (w x)
  where
    none : (v : ℕ) → 0 ≡ cond {A = ℕ} (nat_lt x 0) v 0
    none v = grind (arith, nat_tests)
one_point w x (suc m) = ap (λ n. n + cond (x == m) (w m) 0) (one_point w x m) ∙ elim (eqb_tells x m) [
  | inl e ↦ ap (λ y. cond {A = ℕ} (nat_lt x m) (w x) 0 + cond (x == m) (w y) 0) (sym e.1) ∙ step (w x) x m
  | inr e ↦ ap (λ t. cond {A = ℕ} (nat_lt x m) (w x) 0 + cond t (w m) 0) e.0 ∙ other (w x) x m e.1
]
  where
    step : (v x m : ℕ) → cond {A = ℕ} (nat_lt x m) v 0 + cond (x == m) v 0 ≡ cond (nat_lt x (suc m)) v 0
    step v x m = grind (arith, nat_tests)

    other : (v x m : ℕ) → (x ≡ m → ⊥) → cond {A = ℕ} (nat_lt x m) v 0 + 0 ≡ cond (nat_lt x (suc m)) v 0
    other v x m differ = grind (arith, nat_tests)

total_sum : (w : ℕ → ℕ) (xs : List ℕ) (m : ℕ) → ((s : ℕ) → IsAmong xs s → s < m) → total w xs ≡ sum_below (λ q. scaled (times q xs) (w q)) m
total_sum w [] m below = sym (sum_zero m)
total_sum w (x ∷ xs) m below =
    ap (λ n. w x + n) (total_sum w xs m (λ s h. below s (or_right (x == s) (is_among xs s) h)))
    ∙ ap (λ n. n + sum_below (λ q. scaled (times q xs) (w q)) m) (sym (one_point w x m ∙ inside (w x) x m (below x (among_head x xs))))
    ∙ sym (sum_add (λ q. cond (x == q) (w q) 0) (λ q. scaled (times q xs) (w q)) m)
    ∙ sum_same _ _ m (λ q lt. sym (scaled_more (x == q) (times q xs) (w q)))
  where
    inside : (v x m : ℕ) → x < m → cond {A = ℕ} (nat_lt x m) v 0 ≡ v
    inside v x m lt = grind (arith, nat_tests)

-- ---- what the parts of the listed nodes cover

module _ {A : Type 0} (f : Option A → List Extent) (b : ℕ) where
  cover_listed : (xs : List (Option A)) (order : List ℕ) → cover (flat_map f (map (λ s. get_or xs s None) order)) b ≡ total (λ s. cover (f (get_or xs s None)) b) order
  cover_listed xs [] = refl
  cover_listed xs (s ∷ order) = cover-append (f (get_or xs s None)) (flat_map f (map (λ s. get_or xs s None) order)) b ∙ ap (λ n. cover (f (get_or xs s None)) b + n) (cover_listed xs order)

  sum_front : (g : ℕ → ℕ) (m : ℕ) → sum_below g (suc m) ≡ g 0 + sum_below (λ q. g (suc q)) m
  sum_front g zero = turn (g 0)
    where
      turn : (n : ℕ) → 0 + n ≡ n + 0
      turn n = omega arith
  sum_front g (suc m) = ap (λ n. n + g (suc m)) (sum_front g m) ∙ add_assoc (g 0) (sum_below (λ q. g (suc q)) m) (g (suc m))

  cover_each : (xs : List (Option A)) → cover (flat_map f xs) b ≡ sum_below (λ s. cover (f (get_or xs s None)) b) (length xs)
  cover_each [] = refl
  cover_each (x ∷ xs) =
      cover-append (f x) (flat_map f xs) b ∙ ap (λ n. cover (f x) b + n) (cover_each xs)
      ∙ sym (sum_front (λ s. cover (f (get_or (x ∷ xs) s None)) b) (length xs))

-- ---- a node, by the new numbers

got : (xs : List ℕ) (f : ℕ → ℕ) (i c : ℕ) → slice_get (map f xs) i ≡ Some c → (d : ℕ) × (slice_get xs i ≡ Some d) × (f d ≡ c)
got [] f i c e = absurd (not_there c e)
got (x ∷ xs) f zero c e = (x, refl, same_Some (f x) c e)
got (x ∷ xs) f (suc i) c e = got xs f i c e

module _ (image : List ℕ) (tree : Tree) (p : Placement) (l : LaysOut image tree p) where
  abbrev placed : Placement
  placed = numbered_placement tree p

  abbrev pos : ℕ → ℕ
  pos s = position_of (tree_order tree) s

  parts_new : (k s : ℕ) → slice_get (tree_order tree) k ≡ Some s → parts_of placed k ≡ parts_of p s
  parts_new k s e = index_map (parts_of p) (tree_order tree) k s e

  -- the parts at each number are there where its node is
  same_live : (order : List ℕ) → map is_some (map (parts_of p) order) ≡ map is_some (map (λ s. renumbered_node (tree_order tree) (node_at tree s)) order)
  same_live [] = refl
  same_live (s ∷ order) = ap (λ t. t ∷ map is_some (map (parts_of p) order)) (live_parts image tree p l s ∙ sym (kept (node_at tree s))) ∙ ap (λ ts. is_some (renumbered_node (tree_order tree) (node_at tree s)) ∷ ts) (same_live order)
    where
      kept : (o : Option Node) → is_some (renumbered_node (tree_order tree) o) ≡ is_some o
      kept None = refl
      kept (Some node) = refl

  -- the entries name the children under their new numbers
  names_new : (bytes : List ℕ) (children : List ℕ) → ((c : ℕ) → IsAmong children c → IsSome (node_at tree c)) → NamesChildren bytes tree p children → NamesChildren bytes (numbered tree) placed (map pos children)
  names_new bytes children live names i child node parts e f g =
      let old = got children pos i child e in
      let at : slice_get (tree_order tree) (pos old.0) ≡ Some old.0 = at_pos tree l.is_tree old.0 (live old.0 (among_get children i old.0 old.1)) in
      by_node old.0 old.1 (node_at tree old.0) refl
      (sym (node_new tree l.is_tree (pos old.0) old.0 at) ∙ ap (node_at (numbered tree)) old.2 ∙ f)
      (sym (parts_new (pos old.0) old.0 at) ∙ ap (parts_of placed) old.2 ∙ g)
    where
      by_node : (c : ℕ) → slice_get children i ≡ Some c → (o : Option Node) → node_at tree c ≡ o → renumbered_node (tree_order tree) o ≡ Some node → parts_of p c ≡ Some parts → SpellsEntry bytes i node.name parts.header
      by_node c here None is made stands = absurd (not_there node made)
      by_node c here (Some old) is made stands =
          subst (λ (n : Node). SpellsEntry bytes i n.name parts.header) (same_Some (record old { children = map pos old.children }) node made) (names i c old parts here is stands)

  table_new : (node : Node) → ((c : ℕ) → IsAmong node.children c → IsSome (node_at tree c)) → (table : Option TablePart) → HasTable image tree p node table
      → HasTable image (numbered tree) placed (record node { children = map pos node.children }) table
  table_new node live None none = ap (map pos) none
  table_new node live (Some t) has = (has.0, subst (λ n. n ≤ t.entries) (sym (length-map node.children pos)) has.1, has.2, names_new (field image t.place (table_length t.entries)) node.children live has.3)

  holds_new : (s : ℕ) (node : Node) (parts : NodeParts) → node_at tree s ≡ Some node → HoldsNode image tree p node parts → HoldsNode image (numbered tree) placed (record node { children = map pos node.children }) parts
  holds_new s node parts here h = record {
    header = subst (λ n. SpellsNode tree.wide (field image parts.header (node_length tree.wide)) (record (fields_of node parts) { children = n })) (sym (length-map node.children pos)) h.header;
    table = table_new node (λ c k. (l.is_tree.live s c (subst (λ (o : Option Node). IsAmong (children_of o) c) (sym here) k)).0) parts.table h.table;
    chunk_table = h.chunk_table;
    chunks = h.chunks;
    bytes = h.bytes;
  }

  nodes_new : (k : ℕ) (node : Node) (parts : NodeParts) → node_at (numbered tree) k ≡ Some node → parts_of placed k ≡ Some parts → HoldsNode image (numbered tree) placed node parts
  nodes_new k node parts e f = by_node (node_at tree from.0) refl
    where
      from : Came tree l.is_tree k
      from = came tree l.is_tree k (ap is_some e)

      by_node : (o : Option Node) → node_at tree from.0 ≡ o → HoldsNode image (numbered tree) placed node parts
      by_node None is = absurd (not_true (sym (ap is_some is) ∙ from.1))
      by_node (Some old) is =
          let same : record old { children = map pos old.children } ≡ node = same_Some (record old { children = map pos old.children }) node (sym (ap (renumbered_node (tree_order tree)) is) ∙ sym (node_new tree l.is_tree k from.0 from.3) ∙ e) in
          subst (λ (n : Node). HoldsNode image (numbered tree) placed n parts) same
          (holds_new from.0 old parts is (l.nodes from.0 old parts is (sym (parts_new k from.0 from.3) ∙ f)))

  -- ---- the extents

  cover_new : (b : ℕ) → cover (live_extents tree.wide placed) b ≡ cover (live_extents tree.wide p) b
  cover_new b =
      cover_listed (extents_of tree.wide) b p.parts (tree_order tree)
      ∙ total_sum (λ s. cover (extents_of tree.wide (parts_of p s)) b) (tree_order tree) (length p.parts) inside
      ∙ sum_same _ _ (length p.parts) (λ q lt. each q)
      ∙ sym (cover_each (extents_of tree.wide) b p.parts)
    where
      as_many : length p.parts ≡ length tree.nodes
      as_many = sym (length-map p.parts is_some) ∙ ap length l.same_nodes ∙ length-map tree.nodes is_some

      inside : (s : ℕ) → IsAmong (tree_order tree) s → s < length p.parts
      inside s h = subst (λ n. s < n) (sym as_many) (live_within tree.nodes s (live_listed tree l.is_tree s h))

      once : (o : Option NodeParts) (t : Bool) → is_some o ≡ t → scaled (if t then 1 else 0) (cover (extents_of tree.wide o) b) ≡ cover (extents_of tree.wide o) b
      once None true e = absurd (not_true e)
      once None false e = refl
      once (Some parts) true e = plain (cover (extents_of tree.wide (Some parts)) b)
        where
          plain : (n : ℕ) → n + 0 ≡ n
          plain n = omega arith
      once (Some parts) false e = absurd (not_true (sym e))

      each : (q : ℕ) → scaled (times q (tree_order tree)) (cover (extents_of tree.wide (parts_of p q)) b) ≡ cover (extents_of tree.wide (parts_of p q)) b
      each q = ap (λ n. scaled n (cover (extents_of tree.wide (parts_of p q)) b)) (listed_times tree l.is_tree q) ∙ once (parts_of p q) (is_live tree q) (live_parts image tree p l q)

  same_cover : (b : ℕ) → cover (all_extents tree.wide placed) b ≡ cover (all_extents tree.wide p) b
  same_cover b = cover_all tree.wide placed b ∙ ap (λ n. cover head_extents b + n + cover p.heap.gaps b) (cover_new b) ∙ sym (cover_all tree.wide p b)

  pub numbered_laid_out : LaysOut image (numbered tree) (numbered_placement tree p)
  numbered_laid_out = record {
    is_tree = numbered_is_tree tree l.is_tree;
    end = l.end;
    header = (l.header.0, parts_new 0 0 (root_first tree l.is_tree) ∙ l.header.1, l.header.2);
    same_nodes = same_live (tree_order tree);
    nodes = nodes_new;
    tiles = record { once = λ b le. same_cover b ∙ l.tiles.once b le; inside = λ b gt. same_cover b ∙ l.tiles.inside b gt };
    gaps = l.gaps;
    fillers = l.fillers;
    threads = l.threads;
  }
