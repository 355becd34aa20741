-- An image that breaks no rule lays out the tree that its walk makes, at the parts that its visits name, with any gaps that fill what they leave.
use Rattle.std.proofs.Common.{◌≡◌, ◌⊎◌, inl, inr, ℕ, zero, suc, refl, sym, ◌∙◌, ap, subst, arith, List, [], ◌∷◌, ◌++◌, length, map, filter, replicate, ◌+◌, ◌<◌, ◌≤◌, Bool, true, false, not}
use Rattle.std.proofs.lemmas.Bool.Decides.{nat_tests, leb_tells}
use Rattle.std.proofs.lemmas.List.{length-replicate}
use Rattle.std.specs.Prelude.{Option, Some, None, IsTrue, is_some, slice_get, option_map, nat_le, nat_lt, ◌&&◌, ◌||◌, ◌==◌, codes}
use Rattle.std.specs.List.{flat_map}
use Rattle.adf_format.specs.Fields.{field, holds}
use Rattle.adf_format.specs.declared.types.Extent.{Extent}
use Rattle.adf_format.specs.declared.types.ExtentKind.{ExtentKind}
use Rattle.adf_format.specs.Tiles.{Tiles, cover, holds_byte, is_free, is_free_kind, is_filler, is_filler_kind}
use Rattle.adf_format.specs.Tree.{Node, node_at}
use Rattle.adf_format.specs.Parts.{IsFiller}
use Rattle.adf_format.specs.Placement.{Placement, NodeParts, parts_of, extents_of, head_extents, all_extents}
use Rattle.adf_format.specs.LaysOut.{LaysOut, HoldsNode}
use Rattle.adf_format.specs.FirstFault.{Visit, FreeVisit, HasNoFault, root_visit, free_extent, found_extents, extents_found, is_misplaced, is_wide, end_in, visit_extents}
use Rattle.adf_format.specs.SoundPart.{node_of_visit, tree_of}
use Rattle.adf_format.proofs.FrameLaws.{field_step, put_first}
use Rattle.adf_format.proofs.HeapSteps.{cover-append}
use Rattle.adf_format.proofs.PathLaws.{is_walked}
use Rattle.adf_format.proofs.RowLaws.{holds_tells}
use Rattle.adf_format.proofs.TreeLaws.{node_at-tree_of}
use Rattle.adf_model.proofs.Basics.{not_true, same_Some, not_there}
use Rattle.adf_model.proofs.Walks.WalkNames.{walk_sound}
use Rattle.adf_model.proofs.Walks.WalkNodes.{end_inside}
use Rattle.layout_laws.specs.FoundLayout.{parts_at, placement_of, FillGaps}
use Rattle.layout_laws.proofs.FoundLists.{header_found, threads_found}
use Rattle.layout_laws.proofs.FoundNodes.{node_held, parts_found}
use Rattle.layout_laws.proofs.Ranges.{same_cover, cover-filter}
use Rattle.layout_laws.proofs.VisitExtents.{visit_parts}

-- ---- a filler and the free chunks

clash : {P : Type 0} (t : Bool) → t ≡ true → t ≡ false → P
clash t p q = cc

pub filler_is_not_free : (g : Extent) → is_filler g ≡ true → is_free g ≡ false
filler_is_not_free g e = by_kind g.kind refl
  where
    by_kind : (k : ExtentKind) → g.kind ≡ k → is_free g ≡ false
    by_kind k f = kinds k (subst (λ k. is_filler_kind k ≡ true) f e) (ap is_free_kind f)
      where
        kinds : (k : ExtentKind) → is_filler_kind k ≡ true → is_free_kind g.kind ≡ is_free_kind k → is_free_kind g.kind ≡ false
        kinds ExtentKind.FreeChunk h s = cc
        kinds ExtentKind.Filler h s = s
        kinds ExtentKind.Header h s = s
        kinds ExtentKind.FreeTable h s = s
        kinds ExtentKind.Node h s = s
        kinds ExtentKind.SubNodes h s = s
        kinds ExtentKind.DataChunk h s = s
        kinds ExtentKind.ChunkTable h s = s

-- a byte of a filler counts among the gaps, and not among the free chunks
filler_counts : (gaps : List Extent) (k : ℕ) (g : Extent) (b : ℕ) → slice_get gaps k ≡ Some g → is_filler g ≡ true → holds_byte g b ≡ true → cover (filter is_free gaps) b + 1 ≤ cover gaps b
filler_counts [] k g b e f h = absurd (not_there g e)
filler_counts (x ∷ xs) zero g b e f h =
    let same : x ≡ g = same_Some x g e in
    let held : holds_byte x b ≡ true = ap (λ (y : Extent). holds_byte y b) same ∙ h in
    let not_free : is_free x ≡ false = filler_is_not_free x (ap is_filler same ∙ f) in
    let fewer = cover-filter is_free xs b in
    rw (not_free, held) (omega (arith, fewer))
filler_counts (x ∷ xs) (suc k) g b e f h = by_test (is_free x) refl (filler_counts xs k g b e f h)
  where
    by_test : (t : Bool) → is_free x ≡ t → cover (filter is_free xs) b + 1 ≤ cover xs b → cover (filter is_free (x ∷ xs)) b + 1 ≤ cover (x ∷ xs) b
    by_test true t ih = rw t (omega (arith, ih))
    by_test false t ih = rw t (omega (arith, ih))

-- bytes that are all `z`
all_z : (image : List ℕ) (n place : ℕ) → ((b : ℕ) → place ≤ b → b < place + n → slice_get image b ≡ Some 122) → field image place n ≡ replicate n 122
all_z image zero place h = refl
all_z image (suc n) place h =
    field_step image place n ∙ ap (λ o. put_first o (field image (suc place) n)) (h place (omega arith) (omega arith))
    ∙ ap (λ xs. 122 ∷ xs) (all_z image n (suc place) (λ b low high. h b (omega (arith, low)) (omega (arith, high))))

z_there : (o : Option ℕ) (rest : List ℕ) → put_first o rest ≡ 122 ∷ [] → rest ≡ [] → o ≡ Some 122
z_there None rest e f = absurd (no_list (sym f ∙ e))
  where
    no_list : ◌≡◌ {A = List ℕ} [] (122 ∷ []) → ⊥
    no_list e = cc
z_there (Some b) rest e f = ap (λ (xs : List ℕ). slice_get xs 0) e

-- ---- the extents

same_lives : (image : List ℕ) (wide : Bool) (nodes : List Visit) → flat_map (extents_of wide) (map (λ (v : Visit). Some (parts_at image wide v.place)) nodes) ≡ found_extents image wide nodes
same_lives image wide [] = refl
same_lives image wide (v ∷ vs) = ap (λ xs. xs ++ flat_map (extents_of wide) (map (λ (v : Visit). Some (parts_at image wide v.place)) vs)) (sym (visit_parts image wide v)) ∙ ap (λ xs. visit_extents image wide v ++ xs) (same_lives image wide vs)

both_there : {A B : Type 0} (f : Visit → A) (g : Visit → B) (vs : List Visit) → map is_some (map (λ v. Some (f v)) vs) ≡ map is_some (map (λ v. Some (g v)) vs)
both_there f g [] = refl
both_there f g (v ∷ vs) = ap (λ xs. true ∷ xs) (both_there f g vs)

module _ (image : List ℕ) (nodes : List Visit) (frees : List FreeVisit) (gaps : List Extent) (h : HasNoFault image nodes frees) (fill : FillGaps image nodes frees gaps) where
  abbrev wide : Bool
  wide = is_wide image

  abbrev placement : Placement
  placement = placement_of image nodes gaps

  same_extents : all_extents (is_wide image) placement ≡ head_extents ++ found_extents image (is_wide image) nodes ++ gaps
  same_extents = ap (λ xs. head_extents ++ xs ++ gaps) (same_lives image (is_wide image) nodes)

  cover_all : (b : ℕ) → cover (head_extents ++ found_extents image (is_wide image) nodes ++ gaps) b ≡ cover (head_extents ++ found_extents image (is_wide image) nodes) b + cover gaps b
  cover_all b = cover-append (head_extents ++ found_extents image (is_wide image) nodes) gaps b

  cover_found : (b : ℕ) → cover (extents_found image nodes frees) b ≡ cover (head_extents ++ found_extents image (is_wide image) nodes) b + cover (filter is_free gaps) b
  cover_found b = cover-append (head_extents ++ found_extents image (is_wide image) nodes) (map (free_extent image) frees) b
      ∙ ap (λ n. cover (head_extents ++ found_extents image (is_wide image) nodes) b + n) (same_cover (map (free_extent image) frees) (filter is_free gaps) b fill.same_frees)

  -- a byte of a filler is `z`
  filler_byte : (k : ℕ) (g : Extent) (b : ℕ) → slice_get gaps k ≡ Some g → is_filler g ≡ true → holds_byte g b ≡ true → slice_get image b ≡ Some 122
  filler_byte k g b e f held = by_end (leb_tells b (end_in image))
    where
      counts : cover (filter is_free gaps) b + 1 ≤ cover gaps b
      counts = filler_counts gaps k g b e f held

      one_gap : (whole front free gap found : ℕ) → whole ≡ front + gap → whole ≡ 1 → found ≡ front + free → free + 1 ≤ gap → found ≡ 0
      one_gap whole front free gap found a c d e = omega (arith, a, c, d, e)

      no_cover : b ≤ end_in image → cover (extents_found image nodes frees) b ≡ 0
      no_cover le = one_gap _ _ _ _ _ (cover_all b) (fill.tiles.once b le) (cover_found b) counts

      blank : (t : Bool) → holds image b (codes "z") ≡ t → is_misplaced image (extents_found image nodes frees) b ≡ false → cover (extents_found image nodes frees) b ≡ 0 → holds image b (codes "z") ≡ true
      blank true e m n = e
      blank false e m n = absurd (not_true (sym (sym (ap (λ k. nat_lt 1 k || (k == 0) && not (holds image b (codes "z"))) n ∙ ap not e) ∙ m)))

      z_byte : holds image b (codes "z") ≡ true → slice_get image b ≡ Some 122
      z_byte t = z_there (slice_get image b) (field image (suc b) 0) (sym (field_step image b 0) ∙ holds_tells image b (codes "z") t) refl

      by_end : ((nat_le b (end_in image) ≡ true) × (b ≤ end_in image)) ⊎ ((nat_le b (end_in image) ≡ false) × (end_in image < b)) → slice_get image b ≡ Some 122
      by_end (inl le) = z_byte (blank (holds image b (codes "z")) refl (h.tiled b le.1) (no_cover le.1))
      by_end (inr gt) = absurd (let none = fill.tiles.inside b gt.1 in let c = cover_all b in let d = counts in omega (arith, none, c, d))

  fillers : (k : ℕ) (g : Extent) → slice_get gaps k ≡ Some g → IsTrue (is_filler g) → IsFiller (field image g.place g.length)
  fillers k g e f =
      let z : field image g.place g.length ≡ replicate g.length 122 = all_z image g.length g.place (λ b low high. filler_byte k g b e f (in_range g b low high)) in
      z ∙ ap (λ n. replicate n 122) (sym (ap length z ∙ length-replicate g.length 122))
    where
      in_range : (g : Extent) (b : ℕ) → g.place ≤ b → b < g.place + g.length → holds_byte g b ≡ true
      in_range g b low high = grind (arith, nat_tests)

  nodes_held : (serial : ℕ) (node : Node) (parts : NodeParts) → node_at (tree_of image nodes) serial ≡ Some node → parts_of placement serial ≡ Some parts → HoldsNode image (tree_of image nodes) placement node parts
  nodes_held serial node parts e f = by_visit (slice_get nodes serial) refl
    where
      by_visit : (o : Option Visit) → slice_get nodes serial ≡ o → HoldsNode image (tree_of image nodes) placement node parts
      by_visit None g = absurd (not_there node (sym (node_at-tree_of image nodes serial ∙ ap (option_map (node_of_visit image (is_wide image) nodes)) g) ∙ e))
      by_visit (Some v) g =
          let n : node_of_visit image (is_wide image) nodes v ≡ node = same_Some (node_of_visit image (is_wide image) nodes v) node (sym (node_at-tree_of image nodes serial ∙ ap (option_map (node_of_visit image (is_wide image) nodes)) g) ∙ e) in
          let q : parts_at image (is_wide image) v.place ≡ parts = same_Some (parts_at image (is_wide image) v.place) parts (sym (parts_found image nodes gaps h.head h.node_walk serial ∙ ap (option_map (λ (v : Visit). parts_at image (is_wide image) v.place)) g) ∙ f) in
          subst (λ q. HoldsNode image (tree_of image nodes) placement node q) q (subst (λ n. HoldsNode image (tree_of image nodes) placement n (parts_at image (is_wide image) v.place)) n (node_held image nodes gaps h.head h.node_walk serial v g))

  pub laid_out : LaysOut image (tree_of image nodes) (placement_of image nodes gaps)
  laid_out = record {
    is_tree = (walk_sound image nodes frees h).0;
    end = end_inside image h.head;
    header = (
      parts_at image (is_wide image) (root_visit image).place,
      parts_found image nodes gaps h.head h.node_walk 0 ∙ ap (option_map (λ (v : Visit). parts_at image (is_wide image) v.place)) (is_walked image nodes h.node_walk).root,
      header_found image h.head,
    );
    same_nodes = both_there (λ (v : Visit). parts_at image (is_wide image) v.place) (node_of_visit image (is_wide image) nodes) nodes;
    nodes = nodes_held;
    tiles = subst (λ xs. Tiles xs (end_in image)) (sym same_extents) fill.tiles;
    gaps = fill.in_order;
    fillers = fillers;
    threads = threads_found image h.head nodes frees gaps h.free_walk fill.same_frees;
  }
