-- What a verdict names of an image that breaks no rule is its layout.
use Rattle.std.proofs.Common.{◌≡◌, ◌⊎◌, inl, inr, ℕ, zero, suc, refl, sym, ◌∙◌, ap, subst, arith, List, [], ◌∷◌, length, map, length-append, ◌+◌, ◌<◌}
use Rattle.std.proofs.lemmas.List.{length-map}
use Rattle.std.specs.Prelude.{Option, Some, None, slice_get, option_map}
use Rattle.std.specs.List.{range_with_len}
use Rattle.adf_format.specs.declared.types.Extent.{Extent}
use Rattle.adf_format.specs.Tree.{Tree, children_at, children_of, depth_of, lineage, IsAmong, IsTree}
use Rattle.adf_format.specs.Placement.{NodeParts, parts_of}
use Rattle.adf_format.specs.FirstFault.{Visit, FreeVisit, HasNoFault, root_visit, child_visits, children_in, is_wide, end_in}
use Rattle.adf_format.specs.SoundPart.{format_in, children_among, node_of_visit, tree_of, visit_number}
use Rattle.adf_format.specs.Verdict.{NodePlace, ListsNodes, IsLaidOutAs}
use Rattle.adf_format.proofs.ClosureLaws.{IsIn}
use Rattle.adf_format.proofs.PathLaws.{IsWalked, is_walked, child_of}
use Rattle.adf_format.proofs.TreeLaws.{number_of-path, number_in, at_in, node_at-tree_of}
use Rattle.adf_model.proofs.Trees.AncestorLemmas.{lineage_root}
use Rattle.adf_model.proofs.Basics.{same_Some, not_there}
use Rattle.adf_model.proofs.Trees.SubtreeLemmas.{lineage_child}
use Rattle.adf_model.proofs.Walks.WalkNames.{walk_sound}
use Rattle.layout_laws.specs.FoundLayout.{parts_at, placement_of, FillGaps, ListsVisits}
use Rattle.layout_laws.proofs.FoundLayoutLaws.{laid_out}
use Rattle.layout_laws.proofs.FoundNodes.{parts_found, child_found, child_listed}
use Rattle.layout_laws.proofs.NodesStand.{among_at}

of_counted : {A : Type 0} (f : ℕ → A) (a n : ℕ) (x : A) → IsIn x (map f (range_with_len a n)) → (i : ℕ) × (i < n) × (x ≡ f (a + i))
of_counted f a zero x h = absurd h
of_counted f a (suc n) x (inl e) = (0, omega arith, e ∙ ap f (same a))
  where
    same : (a : ℕ) → a ≡ a + 0
    same a = omega arith
of_counted f a (suc n) x (inr h) = let k = of_counted f (a + 1) n x h in (suc k.0, suc_below k.0 n k.1, k.2 ∙ ap f (shift a k.0))
  where
    suc_below : (i n : ℕ) → i < n → suc i < suc n
    suc_below i n h = omega (arith, h)

    shift : (a i : ℕ) → a + 1 + i ≡ a + suc i
    shift a i = omega arith

module _ (image : List ℕ) (nodes : List Visit) (frees : List FreeVisit) (gaps : List Extent) (h : HasNoFault image nodes frees) where
  abbrev tree : Tree
  tree = tree_of image nodes

  walked : IsWalked image nodes
  walked = is_walked image nodes h.node_walk

  is_tree : IsTree (tree_of image nodes)
  is_tree = (walk_sound image nodes frees h).0

  children_there : (k : ℕ) (v : Visit) → slice_get nodes k ≡ Some v → children_at (tree_of image nodes) k ≡ children_among image nodes v
  children_there k v e = ap children_of (node_at-tree_of image nodes k ∙ ap (option_map (node_of_visit image (is_wide image) nodes)) e)

  -- a visit stands as deep as its path is long
  pub deep : (m k : ℕ) (w : Visit) → length w.path < m → slice_get nodes k ≡ Some w → length (lineage (tree_of image nodes) k) ≡ length w.path + 1
  deep zero k w lt e = absurd (omega (arith, lt))
  deep (suc m) k w lt e = by_origin (deep m) (walked.reached w (at_in nodes k w e))
    where
      at_root : w ≡ root_visit image → length (lineage (tree_of image nodes) k) ≡ length w.path + 1
      at_root s =
          let first : visit_number nodes [] ≡ Some k = ap (λ (v : Visit). visit_number nodes v.path) (sym s) ∙ number_of-path nodes k w walked.ordered e in
          let zero_is : k ≡ 0 = same_Some k 0 (sym first ∙ number_of-path nodes 0 (root_visit image) walked.ordered walked.root) in
          let none : length w.path ≡ 0 = ap (λ (v : Visit). length v.path) s in
          let one : length (lineage (tree_of image nodes) k) ≡ 1 = ap (λ j. length (lineage (tree_of image nodes) j)) zero_is ∙ ap length (lineage_root (tree_of image nodes) is_tree) in
          omega (arith, none, one)

      below : ((j : ℕ) (u : Visit) → length u.path < m → slice_get nodes j ≡ Some u → length (lineage (tree_of image nodes) j) ≡ length u.path + 1) → (u : Visit) → IsIn u nodes → (i : ℕ) → i < children_in image u.place → w ≡ child_of image u i → length (lineage (tree_of image nodes) k) ≡ length w.path + 1
      below ih u there i inside s =
          let j = number_in nodes u there in
          let listed : slice_get (children_among image nodes u) i ≡ Some k = child_listed image nodes gaps h.head h.node_walk j.0 u j.1 i k inside (e ∙ ap Some s) in
          let among : IsAmong (children_at (tree_of image nodes) j.0) k = subst (λ xs. IsAmong xs k) (sym (children_there j.0 u j.1)) (among_at (children_among image nodes u) i k listed) in
          let longer : length (lineage (tree_of image nodes) k) ≡ suc (length (lineage (tree_of image nodes) j.0)) = ap length (lineage_child (tree_of image nodes) is_tree j.0 k among) in
          let path : length w.path ≡ length u.path + 1 = ap (λ (v : Visit). length v.path) s ∙ length-append u.path (i ∷ []) in
          let up = ih j.0 u (omega (arith, path, lt)) j.1 in
          omega (arith, longer, path, up)

      by_origin : ((j : ℕ) (u : Visit) → length u.path < m → slice_get nodes j ≡ Some u → length (lineage (tree_of image nodes) j) ≡ length u.path + 1) → (w ≡ root_visit image) ⊎ ((u : Visit) × IsIn u nodes × IsIn w (child_visits image u)) → length (lineage (tree_of image nodes) k) ≡ length w.path + 1
      by_origin ih (inl s) = at_root s
      by_origin ih (inr r) = let i = of_counted (child_of image r.0) 0 (children_in image r.0.place) w r.2 in below ih r.0 r.1 i.0 i.1 (i.2 ∙ ap (child_of image r.0) (front i.0))
        where
          front : (i : ℕ) → 0 + i ≡ i
          front i = omega arith

  -- the list of a verdict names the nodes of the tree
  pub listed : (places : List NodePlace) → ListsVisits nodes places → ListsNodes (tree_of image nodes) (placement_of image nodes gaps) places
  listed places l = record { count = l.count ∙ sym (length-map nodes _); places = headers; root = at_root; others = below }
    where
      headers : (k : ℕ) (n : NodePlace) (parts : NodeParts) → slice_get places k ≡ Some n → parts_of (placement_of image nodes gaps) k ≡ Some parts → n.place ≡ parts.header
      headers k n parts e f = by_visit (slice_get nodes k) refl
        where
          by_visit : (o : Option Visit) → slice_get nodes k ≡ o → n.place ≡ parts.header
          by_visit None g = absurd (not_there parts (sym (parts_found image nodes gaps h.head h.node_walk k ∙ ap (option_map (λ (v : Visit). parts_at image (is_wide image) v.place)) g) ∙ f))
          by_visit (Some v) g =
              let q : parts_at image (is_wide image) v.place ≡ parts = same_Some (parts_at image (is_wide image) v.place) parts (sym (parts_found image nodes gaps h.head h.node_walk k ∙ ap (option_map (λ (v : Visit). parts_at image (is_wide image) v.place)) g) ∙ f) in
              (l.each k v n g e).0 ∙ ap (λ (q : NodeParts). q.header) q

      at_root : (n : NodePlace) → slice_get places 0 ≡ Some n → (n.parent ≡ 0) × (n.position ≡ 0) × (n.depth ≡ 0)
      at_root n e = let r = l.root n e in (r.0, r.1, (l.each 0 (root_visit image) n walked.root e).1)

      below : (parent i child : ℕ) (n : NodePlace) → slice_get (children_at (tree_of image nodes) parent) i ≡ Some child → slice_get places child ≡ Some n → (n.parent ≡ parent) × (n.position ≡ i) × (n.depth ≡ depth_of (tree_of image nodes) child)
      below parent i child n e f = by_visit (slice_get nodes parent) refl
        where
          by_visit : (o : Option Visit) → slice_get nodes parent ≡ o → (n.parent ≡ parent) × (n.position ≡ i) × (n.depth ≡ depth_of (tree_of image nodes) child)
          by_visit None g = absurd (not_there child (sym (ap (λ xs. slice_get xs i) (ap children_of (node_at-tree_of image nodes parent ∙ ap (option_map (node_of_visit image (is_wide image) nodes)) g))) ∙ e))
          by_visit (Some v) g =
              let c = child_found image nodes gaps h.head h.node_walk parent v g i child (ap (λ xs. slice_get xs i) (sym (children_there parent v g)) ∙ e) in
              let r = l.others parent child i v (child_of image v i) n g c.1 f refl in
              let d = deep (length (child_of image v i).path + 1) child (child_of image v i) (omega arith) c.1 in
              let depth = (l.each child (child_of image v i) n c.1 f).1 in
              (r.0, r.1, omega (arith, d, depth))

  pub verdict : FillGaps image nodes frees gaps → (places : List NodePlace) → ListsVisits nodes places → IsLaidOutAs image places gaps (end_in image) (format_in image) (is_wide image)
  verdict fill places l = record {
    tree = tree_of image nodes;
    placement = placement_of image nodes gaps;
    laid_out = laid_out image nodes frees gaps h fill;
    in_order = (walk_sound image nodes frees h).1;
    listed = listed places l;
    same_gaps = refl;
    same_end = refl;
    same_format = refl;
    same_width = refl;
  }
