-- In a sound tree each live node but the root is a child, and none stands above itself.
use Rattle.std.proofs.Common.{◌≡◌, ℕ, zero, suc, ◌+◌, ◌≤◌, Bool, true, false, List, [], ◌∷◌, length, get_or, refl, sym, ◌∙◌, ap, subst, arith, ◌⊎◌, inl, inr}
use Rattle.std.specs.Prelude.{Option, Some, None, IsSome, ◌==◌, ◌||◌, if◌then◌else◌}
use Rattle.std.proofs.lemmas.Bool.Decides.{eqb_tells}
use Rattle.adf_format.specs.Tree.{Node, Tree, node_at, children_of, children_at, is_among, IsAmong, families, parent_from, parent_of, climb, lineage, is_within, IsTree}
use Rattle.adf_model.proofs.Basics.{not_true, or_parts, among_head, same_Some, not_there, false_of}
use Rattle.adf_model.proofs.Trees.SubtreeLemmas.{child_list, root_has_none, lineage_child}

-- a parent that is found has the child
parent_tells_from : (k : ℕ) (fs : List (List ℕ)) (q j : ℕ) → parent_from k fs q ≡ Some j → (i : ℕ) × (j ≡ k + i) × (is_among (get_or fs i []) q ≡ true)
parent_tells_from k [] q j e = absurd (not_there j e)
parent_tells_from k (f ∷ fs) q j e = by_case (is_among f q) refl e (parent_tells_from (suc k) fs q j)
  where
    later : (k j i : ℕ) → j ≡ suc k + i → j ≡ k + suc i
    later k j i e = omega (arith, e)

    here : (k j : ℕ) → k ≡ j → j ≡ k + 0
    here k j e = omega (arith, e)

    by_case : (t : Bool) → is_among f q ≡ t → (if t then Some k else parent_from (suc k) fs q) ≡ Some j
        → (parent_from (suc k) fs q ≡ Some j → (i : ℕ) × (j ≡ suc k + i) × (is_among (get_or fs i []) q ≡ true)) → (i : ℕ) × (j ≡ k + i) × (is_among (get_or (f ∷ fs) i []) q ≡ true)
    by_case true t e ih = (0, here k j (same_Some k j e), t)
    by_case false t e ih = let r = ih e in (suc r.0, later k j r.0 r.1, r.2)

pub parent_tells : (tree : Tree) → IsTree tree → (q j : ℕ) → parent_of tree q ≡ Some j → IsAmong (children_at tree j) q
parent_tells tree is q j e =
    let r = parent_tells_from 0 (families tree) q j e in
    subst (λ i. IsAmong (children_at tree i) q) (same r.0 j r.1) (subst (λ xs. IsAmong xs q) (child_list tree is r.0) r.2)
  where
    same : (i j : ℕ) → j ≡ 0 + i → i ≡ j
    same i j e = omega (arith, e)

-- a node with a child is live
pub live_with_child : (tree : Tree) (j q : ℕ) → IsAmong (children_at tree j) q → IsSome (node_at tree j)
live_with_child tree j q h = by_case (node_at tree j) h
  where
    by_case : (o : Option Node) → IsAmong (children_of o) q → IsSome o
    by_case None h = absurd (not_true h)
    by_case (Some node) h = refl

module _ (tree : Tree) (is : IsTree tree) where
  pub lineage_root : lineage tree 0 ≡ 0 ∷ []
  unfolding lineage
  lineage_root = ap (λ o. 0 ∷ climb 255 (families tree) o) (root_has_none tree is)

  -- a live node is the root or a child
  pub root_or_child : (q : ℕ) → IsSome (node_at tree q) → (q ≡ 0) ⊎ ((j : ℕ) × IsAmong (children_at tree j) q)
  unfolding lineage
  root_or_child q live = elim (eqb_tells q 0) [
    | inl e ↦ inl e.1
    | inr e ↦ inr (above (parent_of tree q) refl (elim (or_parts (q == 0) (is_among (climb 255 (families tree) (parent_of tree q)) 0) (is.reached q live)) [ inl t ↦ absurd (not_true (sym e.0 ∙ t)) | inr t ↦ t ]))
  ]
    where
      above : (o : Option ℕ) → parent_of tree q ≡ o → is_among (climb 255 (families tree) o) 0 ≡ true → (j : ℕ) × IsAmong (children_at tree j) q
      above None e t = absurd (not_true t)
      above (Some j) e t = (j, parent_tells tree is q j e)

  shorter_at_root : (q top : ℕ) → q ≡ 0 → IsAmong (lineage tree q) top → length (lineage tree top) ≤ length (lineage tree q)
  shorter_at_root q top e h =
      let met : IsAmong (0 ∷ []) top = subst (λ xs. IsAmong xs top) (ap (lineage tree) e ∙ lineage_root) h in
      elim (eqb_tells 0 top) [
        | inl k ↦ subst (λ t. length (lineage tree t) ≤ length (lineage tree q)) (e ∙ k.1) (omega arith)
        | inr k ↦ elim (or_parts (0 == top) false met) [ inl t ↦ absurd (not_true (sym k.0 ∙ t)) | inr t ↦ absurd (not_true t) ]
      ]

  shorter_at_child : (q top j : ℕ) → IsAmong (children_at tree j) q → IsAmong (lineage tree q) top → (IsAmong (lineage tree j) top → length (lineage tree top) ≤ length (lineage tree j)) → length (lineage tree top) ≤ length (lineage tree q)
  shorter_at_child q top j k h ih =
      let long : length (lineage tree q) ≡ suc (length (lineage tree j)) = ap length (lineage_child tree is j q k) in
      elim (or_parts (q == top) (is_among (lineage tree j) top) (subst (λ xs. IsAmong xs top) (lineage_child tree is j q k) h)) [
        | inl t ↦ elim (eqb_tells q top) [ inl e ↦ subst (λ t. length (lineage tree t) ≤ length (lineage tree q)) e.1 (omega arith) | inr e ↦ absurd (not_true (sym e.0 ∙ t)) ]
        | inr t ↦ let r = ih t in omega (arith, r, long)
      ]

  -- those above a node are no further from the root than it is
  pub above_is_shorter : (n q top : ℕ) → IsSome (node_at tree q) → length (lineage tree q) ≤ n → IsAmong (lineage tree q) top → length (lineage tree top) ≤ length (lineage tree q)
  above_is_shorter zero q top live le h = elim (root_or_child q live) [
    | inl e ↦ shorter_at_root q top e h
    | inr k ↦ absurd (let long : length (lineage tree q) ≡ suc (length (lineage tree k.0)) = ap length (lineage_child tree is k.0 q k.1) in omega (arith, long, le))
  ]
  above_is_shorter (suc n) q top live le h = elim (root_or_child q live) [
    | inl e ↦ shorter_at_root q top e h
    | inr k ↦ (let long : length (lineage tree q) ≡ suc (length (lineage tree k.0)) = ap length (lineage_child tree is k.0 q k.1) in
        shorter_at_child q top k.0 k.1 h (above_is_shorter n k.0 top (live_with_child tree k.0 q k.1) (omega (arith, long, le))))
  ]

  -- a node is within its own subtree
  pub within_itself : (q : ℕ) → IsSome (node_at tree q) → is_within tree q q ≡ true
  unfolding lineage
  within_itself q live = among_head q (climb 255 (families tree) (parent_of tree q))

  -- its parent is not
  pub parent_outside : (j q : ℕ) → IsAmong (children_at tree j) q → is_within tree q j ≡ false
  parent_outside j q h = false_of (is_within tree q j) (λ t.
      let long : length (lineage tree q) ≡ suc (length (lineage tree j)) = ap length (lineage_child tree is j q h) in
      let short = above_is_shorter (length (lineage tree j)) j q (live_with_child tree j q h) (omega arith) t in
      omega (arith, long, short))

  -- only the root and what stands below it in no subtree of a child
  pub root_outside : (j q : ℕ) → IsAmong (children_at tree j) q → is_within tree q 0 ≡ false
  root_outside j q h = ap (λ xs. is_among xs q) lineage_root ∙ elim (eqb_tells 0 q) [
    | inl e ↦ absurd (let l = is.live j q h in omega (arith, l.1, e.1))
    | inr e ↦ ap (λ b. b || false) e.0
  ]
