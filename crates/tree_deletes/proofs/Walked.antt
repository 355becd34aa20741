-- A walk down from a node, level by level: it meets each node of the subtree once, and no other.
use Rattle.std.proofs.Common.{◌≡◌, ◌⊎◌, inl, inr, ℕ, zero, suc, refl, sym, ◌∙◌, ap, subst, arith, List, ◌∷◌, length, ◌+◌, ◌<◌, ◌≤◌, Bool, true, false, cond}
use Rattle.std.specs.Prelude.{◌==◌, is_some, IsSome, if◌then◌else◌}
use Rattle.std.specs.List.{flat_map}
use Rattle.std.specs.List.Sorted.{IsPermutation, IsNonDecreasing}
use Rattle.std.proofs.lemmas.Bool.Decides.{eqb_tells}
use Rattle.adf_format.specs.Tree.{Tree, IsTree, IsAmong, is_among, node_at, is_live, children_at, name_at, is_within, lineage, descend, subtree, next_serial}
use Rattle.adf_model.proofs.Basics.{not_true, false_of, or_parts}
use Rattle.adf_model.proofs.Creation.CreatedNodes.{there_inside}
use Rattle.adf_model.proofs.Trees.AncestorLemmas.{root_or_child, within_itself, parent_outside, live_with_child}
use Rattle.adf_model.proofs.Trees.SubtreeLemmas.{within_child, within_parent}
use Rattle.adf_model.proofs.Trees.TreeOrder.{times, times-count_by, times-flat, times_none, sum_one, sum_none, sum_is, differ_once, among_flat, only_itself, too_long, shorter}
use Rattle.tree_laws.proofs.Deletes.SerialOrdered.{sorted_walk_is_subtree}
use Rattle.tree_laws.proofs.Deletes.SubtreeWalked.{walks_list_subtrees, within_lives}
use Rattle.tree_edits.proofs.Tables.{there}
use Rattle.tree_deletes.proofs.Times.{permuted_by_times, few_below}
use Rattle.std.proofs.lemmas.List.Sorted.{IsPermutation-trans}

module _ (tree : Tree) (is : IsTree tree) (top : ℕ) (live : is_live tree top ≡ true) where
  abbrev kids : List ℕ → List ℕ
  kids ds = flat_map (children_at tree) ds

  -- a child stands below its parent alone
  child_times : (j q : ℕ) → IsAmong (children_at tree j) q → (ds : List ℕ) → times q (kids ds) ≡ times j ds
  child_times j q h ds = times-flat q (children_at tree) ds ∙ sum_one (λ x. times q (children_at tree x)) j ds (λ x k. elim (eqb_tells x j) [
    | inl e ↦ ap (λ s. times q (children_at tree s)) e.1 ∙ differ_once (name_at tree) (children_at tree j) q (is.siblings j) h ∙ ap (λ b. cond b 1 0) (sym e.0)
    | inr e ↦ times_none q (children_at tree x) (false_of (is_among (children_at tree x) q) (λ t. e.1 (is.one_parent x j q t h))) ∙ ap (λ b. cond b 1 0) (sym e.0)
  ])

  none_times : (q : ℕ) → ((x : ℕ) → IsAmong (children_at tree x) q → ⊥) → (ds : List ℕ) → times q (kids ds) ≡ 0
  none_times q none ds = times-flat q (children_at tree) ds ∙ sum_none (λ x. times q (children_at tree x)) ds (λ x k. times_none q (children_at tree x) (false_of (is_among (children_at tree x) q) (none x)))

  root_times : (q : ℕ) → q ≡ 0 → (ds : List ℕ) → times q (kids ds) ≡ 0
  root_times q r ds = none_times q (λ x t. let p = (is.live x q t).1 in absurd (omega (arith, p, r))) ds

  dead_times : (q : ℕ) → is_live tree q ≡ false → (ds : List ℕ) → times q (kids ds) ≡ 0
  dead_times q dead ds = none_times q (λ x t. not_true (sym dead ∙ (is.live x q t).0)) ds

  abbrev own : ℕ → ℕ
  own q = if is_within tree top q then 1 else 0

  abbrev first : ℕ → ℕ
  first q = cond (top == q) 1 0

  own_top : (q : ℕ) → IsSome (node_at tree q) → top ≡ q → own q ≡ 1
  own_top q alive e = ap (λ (b : Bool). if b then 1 else 0) (ap (λ t. is_within tree t q) e ∙ within_itself tree is q alive)

  -- of a child: it is the top one, or below it as its parent is
  own_child : (j q : ℕ) → IsAmong (children_at tree j) q → IsSome (node_at tree q) → own q ≡ first q + own j
  own_child j q h alive = elim (eqb_tells top q) [
    | inl e ↦ own_top q alive e.1 ∙ sum_is true (top == q) 0 (own j) (sym e.0) (sym (ap (λ (b : Bool). if b then 1 else 0) (ap (λ t. is_within tree t j) e.1 ∙ parent_outside tree is j q h)))
    | inr e ↦ ap (λ (b : Bool). if b then 1 else 0) (same (is_within tree top q) (is_within tree top j) (within_parent tree is top j q h (differs e.1)) (within_child tree is top j q h)) ∙ plain (own j) ∙ ap (λ (b : Bool). cond b 1 0 + own j) (sym e.0)
  ]
    where
      differs : (top ≡ q → ⊥) → (q == top) ≡ false
      differs ne = elim (eqb_tells q top) [ inl e ↦ absurd (ne (sym e.1)) | inr e ↦ e.0 ]

      plain : (n : ℕ) → n ≡ 0 + n
      plain n = omega arith

      same : (a b : Bool) → (a ≡ true → b ≡ true) → (b ≡ true → a ≡ true) → a ≡ b
      same true b to from = sym (to refl)
      same false b to from = sym (false_of b (λ t. not_true (from t)))

  own_root : (q : ℕ) → q ≡ 0 → IsSome (node_at tree q) → own q ≡ first q
  own_root q r alive = elim (eqb_tells top q) [
    | inl e ↦ own_top q alive e.1 ∙ ap (λ (b : Bool). cond b 1 0) (sym e.0)
    | inr e ↦ ap (λ (b : Bool). if b then 1 else 0) (false_of (is_within tree top q) (λ t. only_itself tree is q top r t (differs e.1))) ∙ ap (λ (b : Bool). cond b 1 0) (sym e.0)
  ]
    where
      differs : (top ≡ q → ⊥) → (q == top) ≡ false
      differs ne = elim (eqb_tells q top) [ inl e ↦ absurd (ne (sym e.1)) | inr e ↦ e.0 ]

  not_top : (q : ℕ) → is_live tree q ≡ false → first q ≡ 0
  not_top q dead = ap (λ (b : Bool). cond b 1 0) (false_of (top == q) (λ t. elim (eqb_tells top q) [ inl e ↦ not_true (sym dead ∙ ap (is_live tree) (sym e.1) ∙ live) | inr e ↦ not_true (sym e.0 ∙ t) ]))

  own_dead : (q : ℕ) → is_live tree q ≡ false → own q ≡ 0
  own_dead q dead = ap (λ (b : Bool). if b then 1 else 0) (false_of (is_within tree top q) (λ t. not_true (sym dead ∙ within_lives tree is top q live t)))

  -- ---- on the way

  module _ (found ds : List ℕ) (walk : found ≡ top ∷ kids ds) where
    split : (q : ℕ) → times q found ≡ first q + times q (kids ds)
    split q = ap (times q) walk

    module _ (part : (q : ℕ) → times q ds ≤ times q found) where
      at_most : (n q : ℕ) → IsSome (node_at tree q) → length (lineage tree q) ≤ n → times q found ≤ own q
      at_most zero q alive le = elim (root_or_child tree is q alive) [
        | inl r ↦ (let s = split q in let t = root_times q r ds in let o = own_root q r alive in omega (arith, s, t, o))
        | inr c ↦ too_long tree is q c.0 c.1 le
      ]
      at_most (suc n) q alive le = elim (root_or_child tree is q alive) [
        | inl r ↦ (let s = split q in let t = root_times q r ds in let o = own_root q r alive in omega (arith, s, t, o))
        | inr c ↦ (
            let s = split q in
            let t = child_times c.0 q c.1 ds in
            let o = own_child c.0 q c.1 alive in
            let p = part c.0 in
            let ih = at_most n c.0 (live_with_child tree c.0 q c.1) (shorter tree is q c.0 n c.1 le) in
            omega (arith, s, t, o, p, ih))
      ]

      pub once : (q : ℕ) → times q found ≤ 1
      once q = by_live (is_live tree q) refl
        where
          few : (b : Bool) → (if b then 1 else 0) ≤ 1
          few true = omega arith
          few false = omega arith

          by_live : (b : Bool) → is_live tree q ≡ b → times q found ≤ 1
          by_live true e = let a = at_most (length (lineage tree q)) q e (omega arith) in let f = few (is_within tree top q) in omega (arith, a, f)
          by_live false e = let s = split q in let t = dead_times q e ds in let n = not_top q e in omega (arith, s, t, n)

    pub drawn : (q : ℕ) → IsAmong found q → q < next_serial tree
    drawn q h = let n = there (node_at tree q) (alive (or_parts (top == q) (is_among (kids ds) q) (subst (λ xs. IsAmong xs q) walk h))) in there_inside tree.nodes q n.0 n.1
      where
        alive : ((top == q) ≡ true) ⊎ (is_among (kids ds) q ≡ true) → is_some (node_at tree q) ≡ true
        alive (inl t) = elim (eqb_tells top q) [ inl e ↦ subst (λ k. is_live tree k ≡ true) e.1 live | inr e ↦ absurd (not_true (sym e.0 ∙ t)) ]
        alive (inr t) = let x = among_flat q (children_at tree) ds t in (is.live x.0 q x.2).0

    -- not more nodes are found than serials were drawn
    pub few : ((q : ℕ) → times q ds ≤ times q found) → length found ≤ next_serial tree
    few part = few_below (next_serial tree) found (once part) drawn

  -- ---- at its end

  module _ (ds : List ℕ) (walk : ds ≡ top ∷ kids ds) where
    split_end : (q : ℕ) → times q ds ≡ first q + times q (kids ds)
    split_end q = ap (times q) walk

    exact : (n q : ℕ) → IsSome (node_at tree q) → length (lineage tree q) ≤ n → times q ds ≡ own q
    exact zero q alive le = elim (root_or_child tree is q alive) [
      | inl r ↦ (let s = split_end q in let t = root_times q r ds in let o = own_root q r alive in omega (arith, s, t, o))
      | inr c ↦ too_long tree is q c.0 c.1 le
    ]
    exact (suc n) q alive le = elim (root_or_child tree is q alive) [
      | inl r ↦ (let s = split_end q in let t = root_times q r ds in let o = own_root q r alive in omega (arith, s, t, o))
      | inr c ↦ (
          let s = split_end q in
          let t = child_times c.0 q c.1 ds in
          let o = own_child c.0 q c.1 alive in
          let ih = exact n c.0 (live_with_child tree c.0 q c.1) (shorter tree is q c.0 n c.1 le) in
          omega (arith, s, t, o, ih))
    ]

    counted : (q : ℕ) → times q ds ≡ own q
    counted q = by_live (is_live tree q) refl
      where
        by_live : (b : Bool) → is_live tree q ≡ b → times q ds ≡ own q
        by_live true e = exact (length (lineage tree q)) q e (omega arith)
        by_live false e = let s = split_end q in let t = dead_times q e ds in let n = not_top q e in let o = own_dead q e in omega (arith, s, t, n, o)

    -- sorted, it is the subtree
    pub walk_is_subtree : (serials : List ℕ) → IsPermutation ds serials → IsNonDecreasing serials → serials ≡ subtree tree top
    walk_is_subtree serials perm up =
        sorted_walk_is_subtree tree top serials is live
        (IsPermutation-trans (descend 256 tree top) ds serials
        (permuted_by_times (descend 256 tree top) ds (λ q. times-count_by q (descend 256 tree top) ∙ walks_list_subtrees tree top is live q ∙ sym (counted q)))
        perm) up
