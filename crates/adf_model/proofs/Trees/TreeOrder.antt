-- Tree order lists each live serial of a sound tree exactly once, and no other.
use Rattle.std.proofs.Common.{add_assoc, ◌≡◌, ℕ, zero, suc, ◌+◌, ◌<◌, ◌≤◌, Bool, true, false, cond, not, List, [], ◌∷◌, ◌++◌, length, map, refl, sym, ◌∙◌, ap, subst, arith, ◌⊎◌, inl, inr}
use Rattle.std.specs.Prelude.{Option, Some, None, IsSome, ◌==◌, ◌||◌, bytes_eq, IsTrue, if◌then◌else◌}
use Rattle.std.specs.List.{flat_map, count_by}
use Rattle.std.proofs.lemmas.List.Recursion.{is_count_by}
use Rattle.std.proofs.lemmas.Bool.Decides.{eqb_tells}
use Rattle.adf_format.specs.Tree.{Tree, node_at, children_at, is_live, name_at, is_among, IsAmong, lineage, is_within, AllDiffer, descend, tree_order, climb, families, parent_from, IsTree}
use Rattle.adf_model.proofs.Basics.{not_true, false_of, or_parts, or_right, or_none, among_head}
use Rattle.adf_model.proofs.Trees.DifferLemmas.{none_equal, bytes_eq_same}
use Rattle.adf_model.proofs.Trees.SubtreeLemmas.{lineage_child, within_child, within_parent}
use Rattle.adf_model.proofs.Trees.AncestorLemmas.{lineage_root, root_or_child, above_is_shorter, within_itself, parent_outside, live_with_child}

-- ---- how often a number stands in a list

abbrev pub times : ℕ → List ℕ → ℕ
times q [] = 0
times q (x ∷ xs) = cond (x == q) 1 0 + times q xs

pub times-count_by : (q : ℕ) (xs : List ℕ) → times q xs ≡ count_by (λ s. s == q) xs
times-count_by q xs = is_count_by (times q) (λ s. s == q) refl (λ x xs. step (x == q) (times q xs)) xs
  where
    step : (t : Bool) (n : ℕ) → cond t 1 0 + n ≡ cond t (1 + n) n
    step true n = refl
    step false n = omega arith

pub times-append : (q : ℕ) (xs ys : List ℕ) → times q (xs ++ ys) ≡ times q xs + times q ys
times-append q [] ys = omega arith
times-append q (x ∷ xs) ys = ap (λ n. cond (x == q) 1 0 + n) (times-append q xs ys) ∙ sym (add_assoc (cond (x == q) 1 0) (times q xs) (times q ys))

-- the sum of f over a list
abbrev pub total : (ℕ → ℕ) → List ℕ → ℕ
total f [] = 0
total f (x ∷ xs) = f x + total f xs

pub same_test : (q : ℕ) → (q == q) ≡ true
same_test q = elim (eqb_tells q q) [ inl e ↦ e.0 | inr e ↦ absurd (e.1 refl) ]

pub sum_is : (t u : Bool) (n m : ℕ) → t ≡ u → n ≡ m → cond t 1 0 + n ≡ cond u 1 0 + m
sum_is t u n m e f = ap (λ b. cond b 1 0 + n) e ∙ ap (λ k. cond u 1 0 + k) f

pub times_none : (q : ℕ) (xs : List ℕ) → is_among xs q ≡ false → times q xs ≡ 0
times_none q [] e = refl
times_none q (x ∷ xs) e = let p = or_none (x == q) (is_among xs q) e in sum_is (x == q) false (times q xs) 0 p.0 (times_none q xs p.1)

pub times-flat : (q : ℕ) (f : ℕ → List ℕ) (xs : List ℕ) → times q (flat_map f xs) ≡ total (λ x. times q (f x)) xs
times-flat q f [] = refl
times-flat q f (x ∷ xs) = times-append q (f x) (flat_map f xs) ∙ ap (λ n. times q (f x) + n) (times-flat q f xs)

pub sum_none : (f : ℕ → ℕ) (xs : List ℕ) → ((x : ℕ) → IsAmong xs x → f x ≡ 0) → total f xs ≡ 0
sum_none f [] h = refl
sum_none f (x ∷ xs) h =
    let first : f x ≡ 0 = h x (among_head x xs) in
    let rest : total f xs ≡ 0 = sum_none f xs (λ y k. h y (or_right (x == y) (is_among xs y) k)) in
    rw (first, rest) refl

pub sum_one : (f : ℕ → ℕ) (c : ℕ) (xs : List ℕ) → ((x : ℕ) → IsAmong xs x → f x ≡ cond (x == c) 1 0) → total f xs ≡ times c xs
sum_one f c [] h = refl
sum_one f c (x ∷ xs) h = ap (λ n. n + total f xs) (h x (among_head x xs)) ∙ ap (λ n. cond (x == c) 1 0 + n) (sum_one f c xs (λ y k. h y (or_right (x == y) (is_among xs y) k)))

-- numbers whose texts differ stand once
pub differ_once : (f : ℕ → List ℕ) (xs : List ℕ) (c : ℕ) → AllDiffer (map f xs) → IsAmong xs c → times c xs ≡ 1
differ_once f [] c d h = absurd (not_true h)
differ_once f (x ∷ xs) c d h = elim (eqb_tells x c) [
  | inl e ↦ (let none : times c xs ≡ 0 = times_none c xs (false_of (is_among xs c) (λ k. not_true (sym (none_equal (f x) f xs (no_test _ d.0) c k) ∙ ap (λ y. bytes_eq (f x) (f y)) (sym e.1) ∙ bytes_eq_same (f x)))) in sum_is (x == c) true (times c xs) 0 e.0 none)
  | inr e ↦ (let later : is_among xs c ≡ true = elim (or_parts (x == c) (is_among xs c) h) [ inl t ↦ absurd (not_true (sym e.0 ∙ t)) | inr t ↦ t ] in sum_is (x == c) false (times c xs) 1 e.0 (differ_once f xs c d.1 later))
]
  where
    no_test : (b : Bool) → IsTrue (not b) → b ≡ false
    no_test true e = absurd (not_true e)
    no_test false e = refl

pub among_append : (q : ℕ) (xs ys : List ℕ) → IsAmong (xs ++ ys) q → IsAmong xs q ⊎ IsAmong ys q
among_append q [] ys h = inr h
among_append q (x ∷ xs) ys h = elim (or_parts (x == q) (is_among (xs ++ ys) q) h) [
  | inl t ↦ inl (ap (λ b. b || is_among xs q) t)
  | inr t ↦ elim (among_append q xs ys t) [ inl k ↦ inl (or_right (x == q) (is_among xs q) k) | inr k ↦ inr k ]
]

pub among_flat : (q : ℕ) (f : ℕ → List ℕ) (xs : List ℕ) → IsAmong (flat_map f xs) q → (x : ℕ) × IsAmong xs x × IsAmong (f x) q
among_flat q f [] h = absurd (not_true h)
among_flat q f (x ∷ xs) h = elim (among_append q (f x) (flat_map f xs) h) [
  | inl k ↦ (x, among_head x xs, k)
  | inr k ↦ (let r = among_flat q f xs k in (r.0, or_right (x == r.0) (is_among xs r.0) r.1, r.2))
]

-- ---- subtrees

module _ (tree : Tree) (is : IsTree tree) where
  pub only_itself : (q top : ℕ) → q ≡ 0 → IsAmong (lineage tree q) top → (q == top) ≡ false → ⊥
  only_itself q top r h differ = elim (or_parts (0 == top) false (subst (λ xs. IsAmong xs top) (ap (lineage tree) r ∙ lineage_root tree is) h)) [
    | inl t ↦ not_true (sym differ ∙ ap (λ s. s == top) r ∙ t)
    | inr t ↦ not_true t
  ]

  pub too_long : {P : Type 0} (q j : ℕ) → IsAmong (children_at tree j) q → length (lineage tree q) ≤ 0 → P
  too_long q j c le = absurd (let long : length (lineage tree q) ≡ suc (length (lineage tree j)) = ap length (lineage_child tree is j q c) in omega (arith, long, le))

  pub shorter : (q j n : ℕ) → IsAmong (children_at tree j) q → length (lineage tree q) ≤ suc n → length (lineage tree j) ≤ n
  shorter q j n c le = let long : length (lineage tree q) ≡ suc (length (lineage tree j)) = ap length (lineage_child tree is j q c) in omega (arith, long, le)

  -- those above one that stands above a node stand above the node
  pub above_above : (n q top x : ℕ) → IsSome (node_at tree q) → length (lineage tree q) ≤ n → IsAmong (lineage tree q) top → IsAmong (lineage tree top) x → IsAmong (lineage tree q) x
  above_above zero q top x live le h k = elim (root_or_child tree is q live) [
    | inl r ↦ elim (eqb_tells q top) [ inl e ↦ subst (λ t. IsAmong (lineage tree t) x) (sym e.1) k | inr e ↦ absurd (only_itself q top r h e.0) ]
    | inr c ↦ too_long q c.0 c.1 le
  ]
  above_above (suc n) q top x live le h k = elim (eqb_tells q top) [
    | inl e ↦ subst (λ t. IsAmong (lineage tree t) x) (sym e.1) k
    | inr e ↦ elim (root_or_child tree is q live) [
      | inl r ↦ absurd (only_itself q top r h e.0)
      | inr c ↦ within_child tree is x c.0 q c.1 (above_above n c.0 top x (live_with_child tree c.0 q c.1) (shorter q c.0 n c.1 le) (within_parent tree is top c.0 q c.1 e.0 h) k)
    ]
  ]

  -- what is within a child's subtree is within the parent's
  pub within_parents : (s c q : ℕ) → IsAmong (children_at tree s) c → IsSome (node_at tree q) → is_within tree c q ≡ true → is_within tree s q ≡ true
  within_parents s c q h live inside =
      above_above (length (lineage tree q)) q c s live (omega arith) inside (within_child tree is s s c h (within_itself tree is s (live_with_child tree s c h)))

  -- the child on the way down to a node, and there is but one
  abbrev pub WayDown : ℕ → ℕ → Type 0
  WayDown s q = (c : ℕ) × IsAmong (children_at tree s) c × (is_within tree c q ≡ true) × ((d : ℕ) → IsAmong (children_at tree s) d → is_within tree d q ≡ true → d ≡ c)

  pub way_here : (s q j : ℕ) → IsSome (node_at tree q) → IsAmong (children_at tree j) q → j ≡ s → WayDown s q
  way_here s q j live h e = subst (λ k. WayDown k q) e (
    q,
    h,
    within_itself tree is q live,
    λ d k inner. elim (eqb_tells q d) [
      | inl f ↦ sym f.1
      | inr f ↦ absurd (not_true (sym (parent_outside tree is j d k) ∙ within_parent tree is d j q h f.0 inner))
    ],
  )

  pub way_lower : (s q j : ℕ) → IsAmong (children_at tree j) q → (j ≡ s → ⊥) → WayDown s j → WayDown s q
  way_lower s q j h differ up = (
    up.0,
    up.1,
    within_child tree is up.0 j q h up.2,
    λ d k inner. elim (eqb_tells q d) [
      | inl f ↦ absurd (differ (is.one_parent j s q h (subst (λ x. IsAmong (children_at tree s) x) (sym f.1) k)))
      | inr f ↦ up.3 d k (within_parent tree is d j q h f.0 inner)
    ],
  )

  pub way_down : (n s q : ℕ) → IsSome (node_at tree q) → length (lineage tree q) ≤ n → is_within tree s q ≡ true → (q == s) ≡ false → WayDown s q
  way_down zero s q live le inside differ = elim (root_or_child tree is q live) [
    | inl r ↦ absurd (only_itself q s r inside differ)
    | inr c ↦ too_long q c.0 c.1 le
  ]
  way_down (suc n) s q live le inside differ = elim (root_or_child tree is q live) [
    | inl r ↦ absurd (only_itself q s r inside differ)
    | inr c ↦ elim (eqb_tells c.0 s) [
      | inl e ↦ way_here s q c.0 live c.1 e.1
      | inr e ↦ way_lower s q c.0 c.1 e.1 (way_down n s c.0 (live_with_child tree c.0 q c.1) (shorter q c.0 n c.1 le) (within_parent tree is s c.0 q c.1 differ inside) e.0)
    ]
  ]

  -- ---- a node and all below it

  pub only_live : (n s q : ℕ) → IsSome (node_at tree s) → IsAmong (descend n tree s) q → IsSome (node_at tree q)
  only_live zero s q live h = absurd (not_true h)
  only_live (suc n) s q live h = elim (or_parts (s == q) (is_among (flat_map (λ c. descend n tree c) (children_at tree s)) q) h) [
    | inl t ↦ elim (eqb_tells s q) [ inl e ↦ subst (λ k. IsSome (node_at tree k)) e.1 live | inr e ↦ absurd (not_true (sym e.0 ∙ t)) ]
    | inr t ↦ (let r = among_flat q (λ c. descend n tree c) (children_at tree s) t in only_live n r.0 q (is.live s r.0 r.1).0 r.2)
  ]

  pub outside_none : (n s q : ℕ) → IsSome (node_at tree s) → IsSome (node_at tree q) → is_within tree s q ≡ false → times q (descend n tree s) ≡ 0
  outside_none zero s q live alive out = refl
  outside_none (suc n) s q live alive out =
      let differ : (s == q) ≡ false = false_of (s == q) (λ t. elim (eqb_tells s q) [ inl e ↦ not_true (sym out ∙ ap (λ k. is_within tree s k) (sym e.1) ∙ within_itself tree is s live) | inr e ↦ not_true (sym e.0 ∙ t) ]) in
      let none : times q (flat_map (λ c. descend n tree c) (children_at tree s)) ≡ 0 = times-flat q (λ c. descend n tree c) (children_at tree s) ∙ sum_none (λ c. times q (descend n tree c)) (children_at tree s)
      (λ c h. outside_none n c q (is.live s c h).0 alive (false_of (is_within tree c q) (λ t. not_true (sym out ∙ within_parents s c q h alive t)))) in
      sum_is (s == q) false _ 0 differ none

  pub nearer : (n c s q : ℕ) → IsAmong (children_at tree s) c → length (lineage tree q) < suc n + length (lineage tree s) → length (lineage tree q) < n + length (lineage tree c)
  nearer n c s q h near = let long : length (lineage tree c) ≡ suc (length (lineage tree s)) = ap length (lineage_child tree is s c h) in omega (arith, near, long)

  pub inside_once : (n s q : ℕ) → IsSome (node_at tree s) → IsSome (node_at tree q) → is_within tree s q ≡ true → length (lineage tree q) < n + length (lineage tree s) → times q (descend n tree s) ≡ 1
  inside_once zero s q live alive inside near = absurd (let short = above_is_shorter tree is (length (lineage tree q)) q s alive (omega arith) inside in omega (arith, short, near))
  inside_once (suc n) s q live alive inside near = elim (eqb_tells q s) [
    | inl e ↦ (let none : times q (flat_map (λ c. descend n tree c) (children_at tree s)) ≡ 0 = times-flat q (λ c. descend n tree c) (children_at tree s) ∙ sum_none (λ c. times q (descend n tree c)) (children_at tree s)
        (λ c h. outside_none n c q (is.live s c h).0 alive (ap (λ k. is_within tree c k) e.1 ∙ parent_outside tree is s c h)) in
        let first : (s == q) ≡ true = ap (λ k. k == q) (sym e.1) ∙ same_test q in sum_is (s == q) true _ 0 first none)
    | inr e ↦ (let way = way_down (length (lineage tree q)) s q alive (omega arith) inside e.0 in
        let first : (s == q) ≡ false = false_of (s == q) (λ t. elim (eqb_tells s q) [ inl f ↦ e.1 (sym f.1) | inr f ↦ not_true (sym f.0 ∙ t) ]) in
        let rest : times q (flat_map (λ c. descend n tree c) (children_at tree s)) ≡ 1 = times-flat q (λ c. descend n tree c) (children_at tree s)
        ∙ sum_one (λ c. times q (descend n tree c)) way.0 (children_at tree s) (λ c h. elim (eqb_tells c way.0) [
          | inl e ↦ inside_once n c q (is.live s c h).0 alive (ap (λ k. is_within tree k q) e.1 ∙ way.2) (nearer n c s q h near) ∙ ap (λ b. cond b 1 0) (sym e.0)
          | inr e ↦ outside_none n c q (is.live s c h).0 alive (false_of (is_within tree c q) (λ t. e.1 (way.3 c h t))) ∙ ap (λ b. cond b 1 0) (sym e.0)
        ]) ∙ differ_once (name_at tree) (children_at tree s) way.0 (is.siblings s) way.1 in
        sum_is (s == q) false _ 1 first rest)
  ]

  pub short_climb : (m : ℕ) (fs : List (List ℕ)) (o : Option ℕ) → length (climb m fs o) ≤ m
  short_climb m fs None = omega arith
  short_climb zero fs (Some q) = omega arith
  short_climb (suc m) fs (Some q) = let r = short_climb m fs (parent_from 0 fs q) in omega (arith, r)

  -- tree order has each live serial once, and no other
  pub listed_times : (q : ℕ) → times q (tree_order tree) ≡ (if is_live tree q then 1 else 0)
  unfolding tree_order lineage
  listed_times q = by_case (is_live tree q) refl
    where
      by_case : (t : Bool) → is_live tree q ≡ t → times q (descend 256 tree 0) ≡ (if t then 1 else 0)
      by_case true e = inside_once 256 0 q is.root e (is.reached q e) (let short = short_climb 256 (families tree) (Some q) in let one : length (lineage tree 0) ≡ 1 = ap length (lineage_root tree is) in omega (arith, short, one))
      by_case false e = times_none q (descend 256 tree 0) (false_of (is_among (descend 256 tree 0) q) (λ h. not_true (sym e ∙ only_live 256 0 q is.root h)))

  pub listed_once : (q : ℕ) → count_by (λ s. s == q) (tree_order tree) ≡ (if is_live tree q then 1 else 0)
  listed_once q = sym (times-count_by q (tree_order tree)) ∙ listed_times q
