-- What a move leaves of the tree: serials, parents, lineages, depths, lists and the other nodes.
use Rattle.std.proofs.Common.{◌≡◌, ◌≢◌, inl, inr, ℕ, zero, suc, refl, sym, ◌∙◌, ap, subst, arith, List, [], ◌∷◌, ◌++◌, length, ◌+◌, ◌-◌, ◌<◌, ◌≤◌, true, false}
use Rattle.std.proofs.lemmas.Bool.Decides.{eqb_tells}
use Rattle.std.specs.Prelude.{Option, Some, None, IsSome}
use Rattle.adf_format.specs.Tree.{Tree, IsTree, IsAmong, is_among, node_at, children_at, parent_of, parent_from, families, climb, depth_of, lineage, is_within}
use Rattle.adf_model.specs.Edits.{moved, other_children}
use Rattle.adf_model.proofs.Basics.{not_true, not_there, false_of, same_Some}
use Rattle.adf_model.proofs.Trees.DifferLemmas.{among-others}
use Rattle.adf_model.proofs.Trees.LineageLemmas.{among-append, among-append_same}
use Rattle.adf_model.proofs.Trees.SubtreeLemmas.{parent_is, lineage_child, within_child, within_parent}
use Rattle.adf_model.proofs.Trees.AncestorLemmas.{above_is_shorter, parent_tells, live_with_child, lineage_root, root_or_child, within_itself, root_outside}
use Rattle.adf_model.proofs.Keeping.MoveKeeps.{move_keeps}
use Rattle.tree_laws.specs.Moving.{MovedInItsTree, IsMoved}
use Rattle.tree_laws.proofs.Moves.MovedNodes.{is_or_not, others_of_none, moved_name, moved_live, moved_serials, moved_other, list_other, list_rest, list_from, list_to, move_made, rest}

-- a lineage begins with the node itself
long_lineage : (tree : Tree) (k : ℕ) → 0 < length (lineage tree k)
unfolding lineage
long_lineage tree k = omega arith

climb_short : (n : ℕ) (fs : List (List ℕ)) (o : Option ℕ) → length (climb n fs o) ≤ n
climb_short n fs None = omega arith
climb_short zero fs (Some k) = omega arith
climb_short (suc n) fs (Some k) = let rest = climb_short n fs (parent_from 0 fs k) in omega (arith, rest)

small_depth : (tree : Tree) (k : ℕ) → depth_of tree k ≤ 255
unfolding lineage
small_depth tree k = let few = climb_short 256 (families tree) (Some k) in omega (arith, few)

module _ (tree : Tree) (is : IsTree tree) (from to s : ℕ) (sound : IsTree (moved tree from to s)) (child : IsAmong (children_at tree from) s) (there : IsSome (node_at tree to)) (apart : is_within tree s to ≡ false) where
  abbrev after : Tree
  after = moved tree from to s

  from_live : IsSome (node_at tree from)
  from_live = live_with_child tree from s child

  s_live : IsSome (node_at tree s)
  s_live = (is.live from s child).0

  -- ---- lists of children

  elsewhere : (q : ℕ) → q ≢ from → is_among (children_at tree q) s ≡ false
  elsewhere q differ = false_of (is_among (children_at tree q) s) (λ h. differ (is.one_parent q from s h child))

  rest_is : (q : ℕ) → children_at (rest tree from to s) q ≡ other_children tree q s
  rest_is q = elim (is_or_not q from) [
    | inl e ↦ ap (children_at (rest tree from to s)) e ∙ list_from tree from to s from_live ∙ ap (λ i. other_children tree i s) (sym e)
    | inr e ↦ list_rest tree from to s q e ∙ sym (others_of_none (children_at tree q) s (elsewhere q e))
  ]

  list_now : (q : ℕ) → q ≢ to → children_at after q ≡ other_children tree q s
  list_now q differ = list_other tree from to s q differ ∙ rest_is q

  list_of_to : children_at after to ≡ other_children tree to s ++ s ∷ []
  list_of_to = list_to tree from to s there ∙ ap (λ xs. xs ++ s ∷ []) (rest_is to)

  new_child : IsAmong (children_at after to) s
  new_child = subst (λ xs. IsAmong xs s) (sym list_of_to) (among-append_same (other_children tree to s) s)

  still_child : (q c : ℕ) → IsAmong (children_at tree q) c → c ≢ s → IsAmong (children_at after q) c
  still_child q c h differ = elim (is_or_not q to) [
    | inl e ↦ subst (λ xs. IsAmong xs c) (sym (ap (children_at after) e ∙ list_of_to))
        (among-append (other_children tree to s) s c differ ∙ among-others (children_at tree to) s c (subst (λ i. IsAmong (children_at tree i) c) e h) differ)
    | inr e ↦ subst (λ xs. IsAmong xs c) (sym (list_now q e)) (among-others (children_at tree q) s c h differ)
  ]

  -- ---- parents

  new_parent : parent_of after s ≡ Some to
  new_parent = parent_is after sound to s new_child

  parent_stays : (k : ℕ) → k ≢ s → parent_of after k ≡ parent_of tree k
  parent_stays k differ = by_parent (parent_of tree k) refl
    where
      none_now : parent_of tree k ≡ None → (o : Option ℕ) → parent_of after k ≡ o → o ≡ None
      none_now none None e = refl
      none_now none (Some j) e =
          let l = sound.live j k (parent_tells after sound k j e) in
          absurd (elim (root_or_child tree is k (sym (moved_live tree from to s k) ∙ l.0)) [
            | inl z ↦ (let pos = l.1 in omega (arith, pos, z))
            | inr c ↦ not_there c.0 (sym none ∙ parent_is tree is c.0 k c.1)
          ])

      by_parent : (o : Option ℕ) → parent_of tree k ≡ o → parent_of after k ≡ parent_of tree k
      by_parent None e = none_now e (parent_of after k) refl ∙ sym e
      by_parent (Some j) e = parent_is after sound j k (still_child j k (parent_tells tree is k j e) differ) ∙ sym e

  -- ---- lineages

  not_itself : (k : ℕ) → is_within tree s k ≡ false → k ≢ s
  not_itself k e same = not_true (sym e ∙ ap (is_within tree s) same ∙ within_itself tree is s s_live)

  root_same : (k : ℕ) → k ≡ 0 → lineage after k ≡ lineage tree k
  root_same k e = ap (lineage after) e ∙ lineage_root after sound ∙ sym (ap (lineage tree) e ∙ lineage_root tree is)

  outside : (n k : ℕ) → IsSome (node_at tree k) → length (lineage tree k) ≤ n → is_within tree s k ≡ false → lineage after k ≡ lineage tree k
  outside zero k live few e = absurd (let long = long_lineage tree k in omega (arith, long, few))
  outside (suc n) k live few e = elim (root_or_child tree is k live) [
    | inl z ↦ root_same k z
    | inr c ↦ (
        let long : length (lineage tree k) ≡ suc (length (lineage tree c.0)) = ap length (lineage_child tree is c.0 k c.1) in
        let up = outside n c.0 (live_with_child tree c.0 k c.1) (omega (arith, long, few)) (false_of (is_within tree s c.0) (λ t. not_true (sym e ∙ within_child tree is s c.0 k c.1 t))) in
        lineage_child after sound c.0 k (still_child c.0 k c.1 (not_itself k e)) ∙ ap (λ ks. k ∷ ks) up ∙ sym (lineage_child tree is c.0 k c.1)
        )
  ]

  lineage_stays : (k : ℕ) → IsSome (node_at tree k) → is_within tree s k ≡ false → lineage after k ≡ lineage tree k
  lineage_stays k live e = outside (length (lineage tree k)) k live (omega arith) e

  top_lineage : lineage after s ≡ s ∷ lineage tree to
  top_lineage = lineage_child after sound to s new_child ∙ ap (λ ks. s ∷ ks) (lineage_stays to there apart)

  inside : (n k : ℕ) → IsSome (node_at tree k) → length (lineage tree k) ≤ n → is_within tree s k ≡ true → length (lineage after k) + length (lineage tree s) ≡ length (lineage tree k) + length (lineage tree to) + 1
  inside zero k live few e = absurd (let long = long_lineage tree k in omega (arith, long, few))
  inside (suc n) k live few e = elim (eqb_tells k s) [
    | inl same ↦ (
        let top : length (lineage after k) ≡ suc (length (lineage tree to)) = ap length (ap (lineage after) same.1 ∙ top_lineage) in
        let own : length (lineage tree k) ≡ length (lineage tree s) = ap (λ i. length (lineage tree i)) same.1 in
        omega (arith, top, own)
        )
    | inr differ ↦ elim (root_or_child tree is k live) [
      | inl z ↦ absurd (not_true (sym (root_outside tree is from s child) ∙ ap (is_within tree s) (sym z) ∙ e))
      | inr c ↦ (
          let long : length (lineage tree k) ≡ suc (length (lineage tree c.0)) = ap length (lineage_child tree is c.0 k c.1) in
          let now : length (lineage after k) ≡ suc (length (lineage after c.0)) = ap length (lineage_child after sound c.0 k (still_child c.0 k c.1 differ.1)) in
          let up = inside n c.0 (live_with_child tree c.0 k c.1) (omega (arith, long, few)) (within_parent tree is s c.0 k c.1 differ.0 e) in
          omega (arith, long, now, up)
          )
    ]
  ]

  depth_moves : (k : ℕ) → IsSome (node_at tree k) → is_within tree s k ≡ true → depth_of after k + depth_of tree s ≡ depth_of tree k + depth_of tree to + 1
  depth_moves k live e =
      let sum = inside (length (lineage tree k)) k live (omega arith) e in
      let a = long_lineage after k in let b = long_lineage tree s in let c = long_lineage tree k in let d = long_lineage tree to in
      omega (arith, sum, a, b, c, d)

  pub is_moved : IsMoved tree after from s to
  is_moved = record {
    wide = refl;
    format = refl;
    serials = moved_serials tree from to s;
    sound = sound;
    live = moved_live tree from to s;
    names = moved_name tree from to s;
    parent = new_parent;
    parents = parent_stays;
    joined = list_of_to;
    lists = list_now;
    others = moved_other tree from to s;
    outside = lineage_stays;
    top = top_lineage;
    depths = λ k live e. ap (λ ks. length ks - 1) (lineage_stays k live e);
    below = λ k live e. (let few = above_is_shorter tree is (length (lineage tree k)) k s live (omega arith) e in omega (arith, few));
    shifted = depth_moves;
    small = small_depth after;
  }

pub moved_in_its_tree : MovedInItsTree
moved_in_its_tree tree after node to from is reached e up =
    let made = move_made tree after node to e in
    let live : IsSome (node_at tree to.serial) = reached.live to refl in
    let sound : IsTree after = move_keeps tree after node to is live reached.no_link e in
    let child = parent_tells tree is node.serial made.0 made.1 in
    let same : made.0 ≡ from = same_Some made.0 from (sym made.1 ∙ up) in
    subst (λ (x : ℕ). IsMoved tree after x node.serial to.serial) same
    (subst (λ (x : Tree). IsMoved tree x made.0 node.serial to.serial) made.3
    (is_moved tree is made.0 to.serial node.serial (subst IsTree (sym made.3) sound) child live made.2))
