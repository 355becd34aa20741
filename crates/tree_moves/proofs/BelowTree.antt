-- Who stands below whom in the tree that the rows are the table of.
use Rattle.std.proofs.Common.{◌≡◌, ◌⊎◌, inl, inr, ℕ, zero, suc, refl, sym, ◌∙◌, ap, subst, arith, List, [], ◌∷◌, length, ◌-◌, ◌<◌, ◌≤◌, Bool, true, false, Option, None, Some}
use Rattle.std.proofs.lemmas.Bool.Decides.{eqb_tells, nat_tests}
use Rattle.std.specs.Prelude.{slice_get, nat_lt, ◌==◌, is_some, if◌then◌else◌, IsSome}
use Rattle.adf_format.specs.Tree.{Tree, IsTree, IsAmong, is_among, node_at, children_at, parent_of, parent_from, families, climb, lineage, depth_of, is_within}
use Rattle.adf_format.specs.Placement.{Placement}
use Rattle.adf_model.proofs.Basics.{not_true, or_parts, equal}
use Rattle.adf_model.proofs.Creation.CreatedNodes.{among_get}
use Rattle.adf_model.proofs.Trees.SubtreeLemmas.{lineage_child}
use Rattle.adf_model.proofs.Trees.AncestorLemmas.{parent_tells, live_with_child, lineage_root, root_or_child}
use Rattle.tree_edits.specs.declared.rows.Row.{Row}
use Rattle.tree_edits.specs.Rows.{IsTable, IsRowOf, row_of}
use Rattle.tree_edits.proofs.Parents.{same_test}
use Rattle.tree_moves.specs.Below.{above_of, climb_rows, is_there, is_below}
use Rattle.tree_moves.proofs.Climbs.{below_of_some}

-- a lineage begins with the node itself, and is short
pub long_lineage : (tree : Tree) (k : ℕ) → 0 < length (lineage tree k)
unfolding lineage
long_lineage tree k = omega arith

climb_short : (n : ℕ) (fs : List (List ℕ)) (o : Option ℕ) → length (climb n fs o) ≤ n
climb_short n fs None = omega arith
climb_short zero fs (Some k) = omega arith
climb_short (suc n) fs (Some k) = let rest = climb_short n fs (parent_from 0 fs k) in omega (arith, rest)

pub small_depth : (tree : Tree) (k : ℕ) → depth_of tree k ≤ 255
unfolding lineage
small_depth tree k = let few = climb_short 256 (families tree) (Some k) in omega (arith, few)

starts_with : (tree : Tree) (k : ℕ) → slice_get (lineage tree k) 0 ≡ Some k
unfolding lineage
starts_with tree k = refl

no_some : {A : Type 0} (o : Option A) → o ≡ None → is_some o ≡ true → ⊥
no_some o e h = not_true (sym (ap is_some e) ∙ h)

module _ (tree : Tree) (is : IsTree tree) where
  no_parent : (s : ℕ) → node_at tree s ≡ None → parent_of tree s ≡ None
  no_parent s dead = by_parent (parent_of tree s) refl
    where
      by_parent : (o : Option ℕ) → parent_of tree s ≡ o → parent_of tree s ≡ None
      by_parent None e = e
      by_parent (Some j) e = absurd (no_some (node_at tree s) dead (is.live j s (parent_tells tree is s j e)).0)

  -- one that stands above another is in its lineage, by the difference of the depths
  up_to : (n s top : ℕ) → IsSome (node_at tree s) → length (lineage tree s) ≤ n → IsAmong (lineage tree s) top → (depth_of tree top ≤ depth_of tree s) × (slice_get (lineage tree s) (depth_of tree s - depth_of tree top) ≡ Some top)
  up_to zero s top live few among = absurd (let long = long_lineage tree s in omega (arith, long, few))
  up_to (suc n) s top live few among = elim (eqb_tells s top) [
    | inl same ↦ itself same.1
    | inr differ ↦ by_parent (λ j l f a. up_to n j top l f a) differ.0 (root_or_child tree is s live)
  ]
    where
      itself : s ≡ top → (depth_of tree top ≤ depth_of tree s) × (slice_get (lineage tree s) (depth_of tree s - depth_of tree top) ≡ Some top)
      itself same =
          let own : depth_of tree s ≡ depth_of tree top = ap (depth_of tree) same in
          let none : depth_of tree s - depth_of tree top ≡ 0 = omega (arith, own) in
          (omega (arith, own), ap (slice_get (lineage tree s)) none ∙ starts_with tree s ∙ ap (λ k. Some k) same)

      behind : (xs : List ℕ) → lineage tree s ≡ s ∷ xs → (s == top) ≡ false → IsAmong xs top
      behind xs e differ = elim (or_parts (s == top) (is_among xs top) (sym (ap (λ ys. is_among ys top) e) ∙ among)) [ inl same ↦ absurd (not_true (sym differ ∙ same)) | inr rest ↦ rest ]

      by_parent : ((j : ℕ) → IsSome (node_at tree j) → length (lineage tree j) ≤ n → IsAmong (lineage tree j) top → (depth_of tree top ≤ depth_of tree j) × (slice_get (lineage tree j) (depth_of tree j - depth_of tree top) ≡ Some top))
          → (s == top) ≡ false → (s ≡ 0) ⊎ ((j : ℕ) × IsAmong (children_at tree j) s) → (depth_of tree top ≤ depth_of tree s) × (slice_get (lineage tree s) (depth_of tree s - depth_of tree top) ≡ Some top)
      by_parent again differ (inl root) = absurd (not_true (behind [] (ap (lineage tree) root ∙ lineage_root tree is ∙ ap (λ k. k ∷ []) (sym root)) differ))
      by_parent again differ (inr c) =
          let line = lineage_child tree is c.0 s c.1 in
          let long : length (lineage tree s) ≡ suc (length (lineage tree c.0)) = ap length line in
          let some = long_lineage tree c.0 in
          let up = again c.0 (live_with_child tree c.0 s c.1) (omega (arith, long, few)) (behind (lineage tree c.0) line differ) in
          let le = up.0 in
          let step : depth_of tree s - depth_of tree top ≡ suc (depth_of tree c.0 - depth_of tree top) = omega (arith, long, some, le) in
          (omega (arith, long, some, le), ap (slice_get (lineage tree s)) step ∙ ap (λ xs. slice_get xs (suc (depth_of tree c.0 - depth_of tree top))) line ∙ up.1)

  module _ (p : Placement) (rows : List (Option Row)) (t : IsTable tree p rows) where
    pub above_is : (s : ℕ) → above_of (row_of rows s) ≡ parent_of tree s
    above_is s = by_row (row_of rows s) (t.each s)
      where
        by_row : (o : Option Row) → IsRowOf tree p s o → above_of o ≡ parent_of tree s
        by_row None dead = sym (no_parent s dead)
        by_row (Some r) h = h.parent

    climbs : (n m : ℕ) (o : Option ℕ) → n < m → slice_get (climb m (families tree) o) n ≡ climb_rows n rows o
    climbs n zero o lt = absurd (omega (arith, lt))
    climbs zero (suc m) None lt = refl
    climbs zero (suc m) (Some s) lt = refl
    climbs (suc n) (suc m) None lt = refl
    climbs (suc n) (suc m) (Some s) lt = climbs n m (parent_of tree s) (omega (arith, lt)) ∙ ap (climb_rows n rows) (sym (above_is s))

    in_lineage : (n s : ℕ) → n < 256 → slice_get (lineage tree s) n ≡ climb_rows n rows (Some s)
    unfolding lineage
    in_lineage n s lt = climbs n 256 (Some s) lt

    there_is : (top : ℕ) (o : Option ℕ) → is_there top o ≡ true → o ≡ Some top
    there_is top None e = absurd (not_true e)
    there_is top (Some s) e = ap (λ k. Some k) (equal s top e)

    same_there : (top : ℕ) → is_there top (Some top) ≡ true
    same_there top = elim (eqb_tells top top) [ inl e ↦ e.0 | inr e ↦ absurd (e.1 refl) ]

    less_not : (a b : ℕ) → b ≤ a → nat_lt a b ≡ false
    less_not a b le = grind (arith, nat_tests)

    -- the rows tell who stands below whom
    pub below_is : (s : ℕ) (row : Row) → row_of rows s ≡ Some row → (top depth : ℕ) → depth ≡ depth_of tree top → is_below rows top depth s ≡ is_within tree top s
    below_is s row found top depth deep = below_of_some rows top depth s row found ∙ same_test (if nat_lt row.depth depth then false else is_there top (climb_rows (row.depth - depth) rows (Some s))) (is_within tree top s) to from
      where
        says : IsRowOf tree p s (Some row)
        says = subst (IsRowOf tree p s) found (t.each s)

        few : row.depth - depth < 256
        few = let d = says.depth in let small = small_depth tree s in omega (arith, d, small)

        by_test : (b : Bool) → (if b then false else is_there top (climb_rows (row.depth - depth) rows (Some s))) ≡ true → is_within tree top s ≡ true
        by_test true e = absurd (not_true e)
        by_test false e = among_get (lineage tree s) (row.depth - depth) top (in_lineage (row.depth - depth) s few ∙ there_is top (climb_rows (row.depth - depth) rows (Some s)) e)

        to : (if nat_lt row.depth depth then false else is_there top (climb_rows (row.depth - depth) rows (Some s))) ≡ true → is_within tree top s ≡ true
        to e = by_test (nat_lt row.depth depth) e

        from : is_within tree top s ≡ true → (if nat_lt row.depth depth then false else is_there top (climb_rows (row.depth - depth) rows (Some s))) ≡ true
        from among =
            let up = up_to (length (lineage tree s)) s top says.live (omega arith) among in
            let le = up.0 in
            let d = says.depth in
            let same : row.depth - depth ≡ depth_of tree s - depth_of tree top = omega (arith, d, deep) in
            ap (λ b. if b then false else is_there top (climb_rows (row.depth - depth) rows (Some s))) (less_not row.depth depth (omega (arith, le, d, deep)))
            ∙ ap (is_there top) (sym (in_lineage (row.depth - depth) s few) ∙ ap (slice_get (lineage tree s)) same ∙ up.1)
            ∙ same_there top
