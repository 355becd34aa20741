-- All layouts of an image are one.
use Rattle.std.proofs.Common.{◌≡◌, ◌⊎◌, inl, inr, ℕ, refl, sym, ◌∙◌, ap, subst, arith, List, [], ◌∷◌, ◌++◌, map, filter, ◌+◌, ◌<◌, ◌≤◌, true, false, cond}
use Rattle.std.proofs.lemmas.Bool.Decides.{leb_tells}
use Rattle.std.specs.Prelude.{Result, Ok, Some, nat_le, ◌&&◌, ◌==◌}
use Rattle.adf_format.specs.declared.types.Extent.{Extent}
use Rattle.adf_format.specs.Tiles.{cover, is_free}
use Rattle.adf_format.specs.Tree.{Tree, tree_order, numbered}
use Rattle.adf_format.specs.Placement.{Placement, live_extents, all_extents, parts_of}
use Rattle.adf_format.specs.LaysOut.{LaysOut, HasSameRanges, count_of}
use Rattle.adf_format.specs.Checks.{Fault}
use Rattle.adf_format.specs.FirstFault.{Visit, FreeVisit, FreeWalk, free_extent, chunk_length, found_extents, is_wide}
use Rattle.adf_format.specs.SoundPart.{tree_of}
use Rattle.adf_format.proofs.CheckLaws.{one_outcome}
use Rattle.adf_format.proofs.HeapSteps.{cover-append}
use Rattle.adf_format.proofs.SameLayout.{same_end, wide_recorded}
use Rattle.layout_laws.specs.FoundLayout.{parts_at, IsSameLayout}
use Rattle.layout_laws.proofs.FreeStand.{AreFree, frees_stand}
use Rattle.layout_laws.proofs.NodesStand.{AreStanding, nodes_stand, found_sum, order_live, cover_all}
use Rattle.layout_laws.proofs.OneHeap.{one_list}
use Rattle.layout_laws.proofs.OneLayout.{tree_again, parts_named}

same_ok : {A : Type 0} (a b : A) → ◌≡◌ {A = Result A Fault} (Ok a) (Ok b) → a ≡ b
same_ok a b e = cc

free_counts : (image : List ℕ) (vs : List FreeVisit) (fs : List Extent) (place length : ℕ) → AreFree image vs fs → count_of place length (map (free_extent image) vs) ≡ count_of place length fs
free_counts image [] [] place length h = refl
free_counts image [] (f ∷ fs) place length h = absurd h
free_counts image (v ∷ vs) [] place length h = absurd h
free_counts image (v ∷ vs) (f ∷ fs) place length h =
    ap (λ n. (cond ((n == place) && (chunk_length image v.place == length)) 1 0) + count_of place length (map (free_extent image) vs)) h.0
    ∙ ap (λ n. (cond ((f.place == place) && (n == length)) 1 0) + count_of place length (map (free_extent image) vs)) h.1
    ∙ ap (λ n. (cond ((f.place == place) && (f.length == length)) 1 0) + n) (free_counts image vs fs place length h.2)

module _ (image : List ℕ) (tree : Tree) (p : Placement) (l : LaysOut image tree p) (nodes : List Visit) (stand : AreStanding image tree p l nodes (tree_order tree)) where
  -- the nodes cover what the visits found
  pub live_found : (b : ℕ) → cover (live_extents tree.wide p) b ≡ cover (found_extents image (is_wide image) nodes) b
  live_found b = sym (ap (λ w. cover (found_extents image w nodes) b) (wide_recorded image tree p l) ∙ found_sum image tree p l (λ xs. cover xs b) refl (λ xs ys. cover-append xs ys b) nodes (tree_order tree) stand ∙ order_live image tree p l (λ xs. cover xs b) refl (λ xs ys. cover-append xs ys b))

  -- the free chunks are those of the walk
  pub frees_found : (frees : List FreeVisit) → AreFree image frees (l.threads.small ++ l.threads.medium ++ l.threads.large) → HasSameRanges (map (free_extent image) frees) (filter is_free p.heap.gaps)
  frees_found frees h place length = free_counts image frees (l.threads.small ++ l.threads.medium ++ l.threads.large) place length h ∙ l.threads.all place length

module _ (image : List ℕ) (t u : Tree) (p q : Placement) (l : LaysOut image t p) (m : LaysOut image u q) where
  abbrev one : List Visit
  one = (nodes_stand image t p l).0

  abbrev other : List Visit
  other = (nodes_stand image u q m).0

  same_nodes : one ≡ other
  same_nodes = same_ok one other (one_outcome (nodes_stand image t p l).1 (nodes_stand image u q m).1)

  trees : numbered t ≡ numbered u
  trees =
      tree_again image t p l one (nodes_stand image t p l).1 (nodes_stand image t p l).2 ∙ ap (tree_of image) same_nodes
      ∙ sym (tree_again image u q m other (nodes_stand image u q m).1 (nodes_stand image u q m).2)

  parts : map (parts_of p) (tree_order t) ≡ map (parts_of q) (tree_order u)
  parts =
      parts_named image t p l one (nodes_stand image t p l).1 (nodes_stand image t p l).2 ∙ ap (λ (nodes : List Visit). map (λ (v : Visit). Some (parts_at image (is_wide image) v.place)) nodes) same_nodes
      ∙ sym (parts_named image u q m other (nodes_stand image u q m).1 (nodes_stand image u q m).2)

  ends : p.heap.end ≡ q.heap.end
  ends = same_end image t u p q l m

  lives : (b : ℕ) → cover (live_extents t.wide p) b ≡ cover (live_extents u.wide q) b
  lives b = live_found image t p l one (nodes_stand image t p l).2 b ∙ ap (λ (nodes : List Visit). cover (found_extents image (is_wide image) nodes) b) same_nodes ∙ sym (live_found image u q m other (nodes_stand image u q m).2 b)

  covers : (b : ℕ) → cover p.heap.gaps b ≡ cover q.heap.gaps b
  covers b = by_end (leb_tells b p.heap.end)
    where
      cancel : (all whole head live part x y : ℕ) → all ≡ head + live + x → whole ≡ head + part + y → live ≡ part → all ≡ whole → x ≡ y
      cancel all whole head live part x y a c d e = omega (arith, a, c, d, e)

      gaps : cover (all_extents t.wide p) b ≡ cover (all_extents u.wide q) b → cover p.heap.gaps b ≡ cover q.heap.gaps b
      gaps e = cancel _ _ _ _ _ _ _ (cover_all image t p l b) (cover_all image u q m b) (lives b) e

      by_end : ((nat_le b p.heap.end ≡ true) × (b ≤ p.heap.end)) ⊎ ((nat_le b p.heap.end ≡ false) × (p.heap.end < b)) → cover p.heap.gaps b ≡ cover q.heap.gaps b
      by_end (inl k) = gaps (l.tiles.once b k.1 ∙ sym (m.tiles.once b (subst (λ n. b ≤ n) ends k.1)))
      by_end (inr k) = gaps (l.tiles.inside b k.1 ∙ sym (m.tiles.inside b (subst (λ n. n < b) ends k.1)))

  ranges : HasSameRanges (filter is_free p.heap.gaps) (filter is_free q.heap.gaps)
  ranges place length =
      sym (frees_found image t p l one (nodes_stand image t p l).2 f.0 f.2 place length)
      ∙ ap (λ (vs : List FreeVisit). count_of place length (map (free_extent image) vs)) (same_ok f.0 g.0 (one_outcome (subst (λ (nodes : List Visit). FreeWalk image nodes (Ok f.0)) same_nodes f.1) g.1))
      ∙ frees_found image u q m other (nodes_stand image u q m).2 g.0 g.2 place length
    where
      f : (frees : List FreeVisit) × FreeWalk image one (Ok frees) × AreFree image frees (l.threads.small ++ l.threads.medium ++ l.threads.large)
      f = frees_stand image t p l one (nodes_stand image t p l).2

      g : (frees : List FreeVisit) × FreeWalk image other (Ok frees) × AreFree image frees (m.threads.small ++ m.threads.medium ++ m.threads.large)
      g = frees_stand image u q m other (nodes_stand image u q m).2

  heaps : p.heap ≡ q.heap
  heaps = ap (λ gs. record { gaps = gs; end = p.heap.end }) (one_list p.heap.gaps q.heap.gaps l.gaps m.gaps covers ranges) ∙ ap (λ e. record { gaps = q.heap.gaps; end = e }) ends

  pub one_layout : IsSameLayout t p u q
  one_layout = record { tree = trees; parts = parts; heap = heaps }
