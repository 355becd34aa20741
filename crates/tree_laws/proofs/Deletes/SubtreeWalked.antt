-- A walk down from a node meets its subtree, each node once.
use Rattle.std.proofs.Common.{add_assoc, ◌≡◌, ℕ, zero, suc, ◌+◌, ◌<◌, ◌≤◌, Bool, true, false, cond, not, List, [], ◌∷◌, ◌++◌, length, map, refl, sym, ◌∙◌, ap, subst, arith, ◌⊎◌, inl, inr}
use Rattle.std.specs.Prelude.{Option, Some, None, IsSome, ◌==◌, ◌||◌, bytes_eq, IsTrue, if◌then◌else◌}
use Rattle.std.specs.List.{flat_map}
use Rattle.std.proofs.lemmas.Bool.Decides.{eqb_tells}
use Rattle.adf_format.specs.Tree.{Tree, node_at, children_at, is_live, name_at, is_among, IsAmong, lineage, is_within, AllDiffer, descend, climb, families, parent_from, parent_of, IsTree}
use Rattle.adf_model.proofs.Basics.{not_true, false_of, or_parts, or_right, among_head}
use Rattle.adf_model.proofs.Trees.DifferLemmas.{none_equal, bytes_eq_same}
use Rattle.adf_model.proofs.Trees.SubtreeLemmas.{lineage_child, within_child, within_parent}
use Rattle.adf_model.proofs.Trees.AncestorLemmas.{lineage_root, root_or_child, above_is_shorter, within_itself, parent_outside, parent_tells, live_with_child}
use Rattle.adf_model.proofs.Trees.TreeOrder.{times, total, times-count_by, same_test, times_none, only_live, differ_once, among_flat, among_append, sum_one, sum_none, times-append, times-flat, sum_is}
use Rattle.tree_laws.specs.Deletions.{WalksListSubtrees}

-- ---- how often a number stands in a list

-- ---- subtrees

module _ (tree : Tree) (is : IsTree tree) where
  only_itself : (q top : ℕ) → q ≡ 0 → IsAmong (lineage tree q) top → (q == top) ≡ false → ⊥
  only_itself q top r h differ = elim (or_parts (0 == top) false (subst (λ xs. IsAmong xs top) (ap (lineage tree) r ∙ lineage_root tree is) h)) [
    | inl t ↦ not_true (sym differ ∙ ap (λ s. s == top) r ∙ t)
    | inr t ↦ not_true t
  ]

  too_long : {P : Type 0} (q j : ℕ) → IsAmong (children_at tree j) q → length (lineage tree q) ≤ 0 → P
  too_long q j c le = absurd (let long : length (lineage tree q) ≡ suc (length (lineage tree j)) = ap length (lineage_child tree is j q c) in omega (arith, long, le))

  shorter : (q j n : ℕ) → IsAmong (children_at tree j) q → length (lineage tree q) ≤ suc n → length (lineage tree j) ≤ n
  shorter q j n c le = let long : length (lineage tree q) ≡ suc (length (lineage tree j)) = ap length (lineage_child tree is j q c) in omega (arith, long, le)

  -- those above one that stands above a node stand above the node
  above_above : (n q top x : ℕ) → IsSome (node_at tree q) → length (lineage tree q) ≤ n → IsAmong (lineage tree q) top → IsAmong (lineage tree top) x → IsAmong (lineage tree q) x
  above_above zero q top x live le h k = elim (root_or_child tree is q live) [
    | inl r ↦ elim (eqb_tells q top) [ inl e ↦ subst (λ t. IsAmong (lineage tree t) x) (sym e.1) k | inr e ↦ absurd (only_itself q top r h e.0) ]
    | inr c ↦ too_long q c.0 c.1 le
  ]
  above_above (suc n) q top x live le h k = elim (eqb_tells q top) [
    | inl e ↦ subst (λ t. IsAmong (lineage tree t) x) (sym e.1) k
    | inr e ↦ elim (root_or_child tree is q live) [
      | inl r ↦ absurd (only_itself q top r h e.0)
      | inr c ↦ within_child tree is x c.0 q c.1 (above_above n c.0 top x (live_with_child tree c.0 q c.1) (shorter q c.0 n c.1 le) (within_parent tree is top c.0 q c.1 e.0 h) k)
    ]
  ]

  -- what is within a child's subtree is within the parent's
  within_parents : (s c q : ℕ) → IsAmong (children_at tree s) c → IsSome (node_at tree q) → is_within tree c q ≡ true → is_within tree s q ≡ true
  within_parents s c q h live inside =
      above_above (length (lineage tree q)) q c s live (omega arith) inside (within_child tree is s s c h (within_itself tree is s (live_with_child tree s c h)))

  -- the child on the way down to a node, and there is but one
  abbrev WayDown : ℕ → ℕ → Type 0
  WayDown s q = (c : ℕ) × IsAmong (children_at tree s) c × (is_within tree c q ≡ true) × ((d : ℕ) → IsAmong (children_at tree s) d → is_within tree d q ≡ true → d ≡ c)

  way_here : (s q j : ℕ) → IsSome (node_at tree q) → IsAmong (children_at tree j) q → j ≡ s → WayDown s q
  way_here s q j live h e = subst (λ k. WayDown k q) e (
    q,
    h,
    within_itself tree is q live,
    λ d k inner. elim (eqb_tells q d) [
      | inl f ↦ sym f.1
      | inr f ↦ absurd (not_true (sym (parent_outside tree is j d k) ∙ within_parent tree is d j q h f.0 inner))
    ],
  )

  way_lower : (s q j : ℕ) → IsAmong (children_at tree j) q → (j ≡ s → ⊥) → WayDown s j → WayDown s q
  way_lower s q j h differ up = (
    up.0,
    up.1,
    within_child tree is up.0 j q h up.2,
    λ d k inner. elim (eqb_tells q d) [
      | inl f ↦ absurd (differ (is.one_parent j s q h (subst (λ x. IsAmong (children_at tree s) x) (sym f.1) k)))
      | inr f ↦ up.3 d k (within_parent tree is d j q h f.0 inner)
    ],
  )

  way_down : (n s q : ℕ) → IsSome (node_at tree q) → length (lineage tree q) ≤ n → is_within tree s q ≡ true → (q == s) ≡ false → WayDown s q
  way_down zero s q live le inside differ = elim (root_or_child tree is q live) [
    | inl r ↦ absurd (only_itself q s r inside differ)
    | inr c ↦ too_long q c.0 c.1 le
  ]
  way_down (suc n) s q live le inside differ = elim (root_or_child tree is q live) [
    | inl r ↦ absurd (only_itself q s r inside differ)
    | inr c ↦ elim (eqb_tells c.0 s) [
      | inl e ↦ way_here s q c.0 live c.1 e.1
      | inr e ↦ way_lower s q c.0 c.1 e.1 (way_down n s c.0 (live_with_child tree c.0 q c.1) (shorter q c.0 n c.1 le) (within_parent tree is s c.0 q c.1 differ inside) e.0)
    ]
  ]

  -- ---- a node and all below it

  outside_none : (n s q : ℕ) → IsSome (node_at tree s) → IsSome (node_at tree q) → is_within tree s q ≡ false → times q (descend n tree s) ≡ 0
  outside_none zero s q live alive out = refl
  outside_none (suc n) s q live alive out =
      let differ : (s == q) ≡ false = false_of (s == q) (λ t. elim (eqb_tells s q) [ inl e ↦ not_true (sym out ∙ ap (λ k. is_within tree s k) (sym e.1) ∙ within_itself tree is s live) | inr e ↦ not_true (sym e.0 ∙ t) ]) in
      let none : times q (flat_map (λ c. descend n tree c) (children_at tree s)) ≡ 0 = times-flat q (λ c. descend n tree c) (children_at tree s) ∙ sum_none (λ c. times q (descend n tree c)) (children_at tree s)
      (λ c h. outside_none n c q (is.live s c h).0 alive (false_of (is_within tree c q) (λ t. not_true (sym out ∙ within_parents s c q h alive t)))) in
      sum_is (s == q) false _ 0 differ none

  nearer : (n c s q : ℕ) → IsAmong (children_at tree s) c → length (lineage tree q) < suc n + length (lineage tree s) → length (lineage tree q) < n + length (lineage tree c)
  nearer n c s q h near = let long : length (lineage tree c) ≡ suc (length (lineage tree s)) = ap length (lineage_child tree is s c h) in omega (arith, near, long)

  inside_once : (n s q : ℕ) → IsSome (node_at tree s) → IsSome (node_at tree q) → is_within tree s q ≡ true → length (lineage tree q) < n + length (lineage tree s) → times q (descend n tree s) ≡ 1
  inside_once zero s q live alive inside near = absurd (let short = above_is_shorter tree is (length (lineage tree q)) q s alive (omega arith) inside in omega (arith, short, near))
  inside_once (suc n) s q live alive inside near = elim (eqb_tells q s) [
    | inl e ↦ (let none : times q (flat_map (λ c. descend n tree c) (children_at tree s)) ≡ 0 = times-flat q (λ c. descend n tree c) (children_at tree s) ∙ sum_none (λ c. times q (descend n tree c)) (children_at tree s)
        (λ c h. outside_none n c q (is.live s c h).0 alive (ap (λ k. is_within tree c k) e.1 ∙ parent_outside tree is s c h)) in
        let first : (s == q) ≡ true = ap (λ k. k == q) (sym e.1) ∙ same_test q in sum_is (s == q) true _ 0 first none)
    | inr e ↦ (let way = way_down (length (lineage tree q)) s q alive (omega arith) inside e.0 in
        let first : (s == q) ≡ false = false_of (s == q) (λ t. elim (eqb_tells s q) [ inl f ↦ e.1 (sym f.1) | inr f ↦ not_true (sym f.0 ∙ t) ]) in
        let rest : times q (flat_map (λ c. descend n tree c) (children_at tree s)) ≡ 1 = times-flat q (λ c. descend n tree c) (children_at tree s)
        ∙ sum_one (λ c. times q (descend n tree c)) way.0 (children_at tree s) (λ c h. elim (eqb_tells c way.0) [
          | inl e ↦ inside_once n c q (is.live s c h).0 alive (ap (λ k. is_within tree k q) e.1 ∙ way.2) (nearer n c s q h near) ∙ ap (λ b. cond b 1 0) (sym e.0)
          | inr e ↦ outside_none n c q (is.live s c h).0 alive (false_of (is_within tree c q) (λ t. e.1 (way.3 c h t))) ∙ ap (λ b. cond b 1 0) (sym e.0)
        ]) ∙ differ_once (name_at tree) (children_at tree s) way.0 (is.siblings s) way.1 in
        sum_is (s == q) false _ 1 first rest)
  ]

  short_climb : (m : ℕ) (fs : List (List ℕ)) (o : Option ℕ) → length (climb m fs o) ≤ m
  short_climb m fs None = omega arith
  short_climb zero fs (Some q) = omega arith
  short_climb (suc m) fs (Some q) = let r = short_climb m fs (parent_from 0 fs q) in omega (arith, r)

  -- a serial within a subtree is live
  pub within_lives : (top k : ℕ) → IsSome (node_at tree top) → is_within tree top k ≡ true → IsSome (node_at tree k)
  unfolding lineage
  within_lives top k live inside = elim (or_parts (k == top) (is_among (climb 255 (families tree) (parent_of tree k)) top) inside) [
    | inl t ↦ elim (eqb_tells k top) [ inl e ↦ subst (λ j. IsSome (node_at tree j)) (sym e.1) live | inr e ↦ absurd (not_true (sym e.0 ∙ t)) ]
    | inr t ↦ above (parent_of tree k) refl t
  ]
    where
      above : (o : Option ℕ) → parent_of tree k ≡ o → is_among (climb 255 (families tree) o) top ≡ true → IsSome (node_at tree k)
      above None e t = absurd (not_true t)
      above (Some j) e t = (is.live j k (parent_tells tree is k j e)).0

  lineage_long : (k : ℕ) → (0 < length (lineage tree k)) × (length (lineage tree k) ≤ 256)
  unfolding lineage
  lineage_long k = (omega arith, short_climb 256 (families tree) (Some k))

  walk_times : (top k : ℕ) → is_live tree top ≡ true → (t : Bool) → is_within tree top k ≡ t → (u : Bool) → is_live tree k ≡ u → times k (descend 256 tree top) ≡ (if t then 1 else 0)
  walk_times top k live true e u f =
      inside_once 256 top k live (within_lives top k live e) e (let a = lineage_long top in let b = lineage_long k in let c = a.0 in let d = b.1 in omega (arith, c, d))
  walk_times top k live false e true f = outside_none 256 top k live f e
  walk_times top k live false e false f = times_none k (descend 256 tree top) (false_of (is_among (descend 256 tree top) k) (λ h. not_true (sym f ∙ only_live tree is 256 top k live h)))

pub walks_list_subtrees : WalksListSubtrees
walks_list_subtrees tree top is live k = sym (times-count_by k (descend 256 tree top)) ∙ walk_times tree is top k live (is_within tree top k) refl (is_live tree k) refl
