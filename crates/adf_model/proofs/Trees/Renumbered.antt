-- A sound tree that is numbered in tree order is a sound tree, and numbering it once more changes nothing.
use Rattle.std.proofs.Common.{◌≡◌, ℕ, zero, suc, ◌+◌, ◌-◌, ◌^◌, ◌<◌, ◌≤◌, Bool, true, false, cond, List, [], ◌∷◌, ◌++◌, length, map, get_or, refl, sym, ◌∙◌, ap, subst, arith, inl, inr}
use Rattle.std.proofs.Math.ListN.{get_or-map}
use Rattle.std.proofs.lemmas.List.{length-map, map-append}
use Rattle.std.proofs.lemmas.Option.{slice_get_within}
use Rattle.std.proofs.lemmas.Bool.Decides.{nat_tests, eqb_tells}
use Rattle.std.specs.Prelude.{Option, Some, None, IsSome, is_some, ◌==◌, nat_lt, slice_get, slice_index_or, if◌then◌else◌}
use Rattle.std.specs.List.{flat_map, range_with_len}
use Rattle.adf_format.specs.Tree.{Tree, Node, node_at, next_serial, children_of, children_at, is_live, name_of, name_at, is_among, IsAmong, lineage, AllDiffer, descend, tree_order, climb, families, parent_of, position_of, renumbered_node, numbered, IsNumbered, IsSameTree, IsTree, IsNode}
use Rattle.adf_format.proofs.CountLaws.{sum_below, sum_zero, sum_add, sum_at_most}
use Rattle.adf_format.proofs.NumberLaws.{position_in}
use Rattle.adf_model.proofs.Basics.{not_true, false_of, or_parts, or_right, among_head, same_Some, not_there}
use Rattle.adf_model.proofs.Trees.SubtreeLemmas.{parent_is, parent_found, parent_none, root_has_none}
use Rattle.adf_model.proofs.Trees.AncestorLemmas.{root_or_child, live_with_child}
use Rattle.adf_model.proofs.Trees.TreeOrder.{times, times_none, same_test, listed_times, only_live}

-- ---- places in a list

at_position : (xs : List ℕ) (s : ℕ) → IsAmong xs s → slice_get xs (position_of xs s) ≡ Some s
at_position [] s h = absurd (not_true h)
at_position (x ∷ xs) s h = elim (eqb_tells x s) [
  | inl e ↦ ap (λ t. slice_get (x ∷ xs) (if t then 0 else suc (position_of xs s))) e.0 ∙ ap Some e.1
  | inr e ↦ ap (λ t. slice_get (x ∷ xs) (if t then 0 else suc (position_of xs s))) e.0 ∙ at_position xs s (elim (or_parts (x == s) (is_among xs s) h) [ inl t ↦ absurd (not_true (sym e.0 ∙ t)) | inr t ↦ t ])
]

pub among_get : (xs : List ℕ) (k s : ℕ) → slice_get xs k ≡ Some s → IsAmong xs s
among_get [] k s e = absurd (not_there s e)
among_get (x ∷ xs) zero s e = subst (λ y. IsAmong (x ∷ xs) y) (same_Some x s e) (among_head x xs)
among_get (x ∷ xs) (suc k) s e = or_right (x == s) (is_among xs s) (among_get xs k s e)

-- each number stands once at most
abbrev Once : List ℕ → Type 0
Once xs = (q : ℕ) → times q xs ≤ 1

among_times : (q : ℕ) (xs : List ℕ) → IsAmong xs q → 1 ≤ times q xs
among_times q [] h = absurd (not_true h)
among_times q (x ∷ xs) h = elim (or_parts (x == q) (is_among xs q) h) [
  | inl t ↦ here (x == q) t
  | inr t ↦ (let later = among_times q xs t in omega (arith, later))
]
  where
    here : (t : Bool) → t ≡ true → 1 ≤ cond t 1 0 + times q xs
    here true e = omega arith
    here false e = absurd (not_true e)

once_rest : (x : ℕ) (xs : List ℕ) → Once (x ∷ xs) → Once xs
once_rest x xs once q = let all = once q in omega (arith, all)

position_at : (xs : List ℕ) (k s : ℕ) → Once xs → slice_get xs k ≡ Some s → position_of xs s ≡ k
position_at [] k s once e = absurd (not_there s e)
position_at (x ∷ xs) zero s once e = ap (λ t. if t then 0 else suc (position_of xs s)) (ap (λ y. x == y) (sym (same_Some x s e)) ∙ same_test x)
position_at (x ∷ xs) (suc k) s once e = ap (λ t. if t then 0 else suc (position_of xs s)) (false_of (x == s) (twice (x == s) refl)) ∙ ap suc (position_at xs k s (once_rest x xs once) e)
  where
    twice : (t : Bool) → (x == s) ≡ t → t ≡ true → ⊥
    twice t is e' =
        let all : cond (x == s) 1 0 + times s xs ≤ 1 = once s in
        let later : 1 ≤ times s xs = among_times s xs (among_get xs k s e) in
        too_many (x == s) (times s xs) (is ∙ e') all later
      where
        too_many : (t : Bool) (n : ℕ) → t ≡ true → cond t 1 0 + n ≤ 1 → 1 ≤ n → ⊥
        too_many true n e all later = omega (arith, all, later)
        too_many false n e all later = not_true e

-- the places of a part of a list count up
positions : (xs ys : List ℕ) (a : ℕ) → Once xs → ((i s : ℕ) → slice_get ys i ≡ Some s → slice_get xs (a + i) ≡ Some s) → map (position_of xs) ys ≡ range_with_len a (length ys)
positions xs [] a once at = refl
positions xs (y ∷ ys) a once at =
    ap (λ k. k ∷ map (position_of xs) ys) (position_at xs a y once (ap (slice_get xs) (front a) ∙ at 0 y refl))
    ∙ ap (λ ks. a ∷ ks) (positions xs ys (a + 1) once (λ i s e. ap (slice_get xs) (shift a i) ∙ at (suc i) s e))
  where
    front : (a : ℕ) → a ≡ a + 0
    front a = omega arith

    shift : (a i : ℕ) → a + 1 + i ≡ a + suc i
    shift a i = omega arith

-- numbers below m of which none stands twice are at most m
one_below : (x m : ℕ) → sum_below (λ q. cond (x == q) 1 0) m ≡ cond (nat_lt x m) 1 0
one_below x zero = none x
  where
    none : (x : ℕ) → 0 ≡ cond {A = ℕ} (nat_lt x 0) 1 0
    none x = grind (arith, nat_tests)
one_below x (suc m) = ap (λ n. n + cond (x == m) 1 0) (one_below x m) ∙ step x m
  where
    step : (x m : ℕ) → cond {A = ℕ} (nat_lt x m) 1 0 + cond (x == m) 1 0 ≡ cond (nat_lt x (suc m)) 1 0
    step x m = grind (arith, nat_tests)

all_counted : (xs : List ℕ) (m : ℕ) → ((s : ℕ) → IsAmong xs s → s < m) → sum_below (λ q. times q xs) m ≡ length xs
all_counted [] m below = sum_zero m
all_counted (x ∷ xs) m below =
    sum_add (λ q. cond (x == q) 1 0) (λ q. times q xs) m
    ∙ ap (λ n. n + sum_below (λ q. times q xs) m) (one_below x m ∙ inside x m (below x (among_head x xs)))
    ∙ ap (λ n. 1 + n) (all_counted xs m (λ s h. below s (or_right (x == s) (is_among xs s) h)))
    ∙ plain (length xs)
  where
    inside : (x m : ℕ) → x < m → cond {A = ℕ} (nat_lt x m) 1 0 ≡ 1
    inside x m lt = grind (arith, nat_tests)

    plain : (n : ℕ) → 1 + n ≡ suc n
    plain n = omega arith

few : (xs : List ℕ) (m : ℕ) → Once xs → ((s : ℕ) → IsAmong xs s → s < m) → length xs ≤ m
few xs m once below = subst (λ n. n ≤ m) (all_counted xs m below) (sum_at_most (λ q. times q xs) m (λ q lt. once q))

among_map : (f : ℕ → ℕ) (xs : List ℕ) (c : ℕ) → IsAmong (map f xs) c → (d : ℕ) × IsAmong xs d × (f d ≡ c)
among_map f [] c h = absurd (not_true h)
among_map f (x ∷ xs) c h = elim (eqb_tells (f x) c) [
  | inl e ↦ (x, among_head x xs, e.1)
  | inr e ↦ elim (or_parts (f x == c) (is_among (map f xs) c) h) [
    | inl t ↦ absurd (not_true (sym e.0 ∙ t))
    | inr t ↦ (let r = among_map f xs c t in (r.0, or_right (x == r.0) (is_among xs r.0) r.1, r.2))
  ]
]

map_among : (f : ℕ → ℕ) (xs : List ℕ) (d : ℕ) → IsAmong xs d → IsAmong (map f xs) (f d)
map_among f [] d h = absurd (not_true h)
map_among f (x ∷ xs) d h = elim (eqb_tells x d) [
  | inl e ↦ subst (λ y. IsAmong (f x ∷ map f xs) (f y)) e.1 (among_head (f x) (map f xs))
  | inr e ↦ elim (or_parts (x == d) (is_among xs d) h) [
    | inl t ↦ absurd (not_true (sym e.0 ∙ t))
    | inr t ↦ or_right (f x == f d) (is_among (map f xs) (f d)) (map_among f xs d t)
  ]
]

pub live_within : (xs : List (Option Node)) (k : ℕ) → IsSome (slice_index_or xs k None) → k < length xs
live_within [] k h = absurd (not_true h)
live_within (x ∷ xs) zero h = omega arith
live_within (x ∷ xs) (suc k) h = let r = live_within xs k h in omega (arith, r)

pub index_map : {A : Type 0} (g : ℕ → Option A) (xs : List ℕ) (k s : ℕ) → slice_get xs k ≡ Some s → slice_index_or (map g xs) k None ≡ g s
index_map g [] k s e = absurd (not_there s e)
index_map g (x ∷ xs) zero s e = ap g (same_Some x s e)
index_map g (x ∷ xs) (suc k) s e = index_map g xs k s e

index_past : (g : ℕ → Option Node) (xs : List ℕ) (k : ℕ) → slice_get xs k ≡ None → slice_index_or (map g xs) k None ≡ None
index_past g [] k e = refl
index_past g (x ∷ xs) zero e = absurd (not_there x (sym e))
index_past g (x ∷ xs) (suc k) e = index_past g xs k e

-- ---- a node with other numbers for its children

renumbered_children : (order : List ℕ) (o : Option Node) → children_of (renumbered_node order o) ≡ map (position_of order) (children_of o)
renumbered_children order None = refl
renumbered_children order (Some node) = refl

renumbered_name : (order : List ℕ) (o : Option Node) → name_of (renumbered_node order o) ≡ name_of o
renumbered_name order None = refl
renumbered_name order (Some node) = refl

renumbered_live : (order : List ℕ) (o : Option Node) → is_some (renumbered_node order o) ≡ is_some o
renumbered_live order None = refl
renumbered_live order (Some node) = refl

renumbered_is_node : (wide : Bool) (order : List ℕ) (node : Node) → IsNode wide node → IsNode wide (record node { children = map (position_of order) node.children })
renumbered_is_node wide order node is = record {
  named = is.named;
  labelled = is.labelled;
  shaped = is.shaped;
  sized = is.sized;
  empty = is.empty;
  link = λ lk. let l = is.link lk in record { text = l.text; held = l.held; spelled = l.spelled; short = l.short; sized = l.sized; childless = ap (map (position_of order)) l.childless };
}

module _ (tree : Tree) (is : IsTree tree) where
  abbrev order : List ℕ
  order = tree_order tree

  abbrev pub pos : ℕ → ℕ
  pos s = position_of (tree_order tree) s

  abbrev pub new : Tree
  new = numbered tree

  once : Once (tree_order tree)
  once q = subst (λ n. n ≤ 1) (sym (listed_times tree is q)) (at_most (is_live tree q))
    where
      at_most : (t : Bool) → (if t then 1 else 0) ≤ 1
      at_most true = omega arith
      at_most false = omega arith

  listed : (s : ℕ) → IsSome (node_at tree s) → IsAmong (tree_order tree) s
  listed s live = by_case (is_among (tree_order tree) s) refl
    where
      by_case : (t : Bool) → is_among (tree_order tree) s ≡ t → is_among (tree_order tree) s ≡ true
      by_case true e = e
      by_case false e = absurd (let none : times s (tree_order tree) ≡ 0 = times_none s (tree_order tree) e in
          let one : times s (tree_order tree) ≡ 1 = listed_times tree is s ∙ ap (λ t. if t then 1 else 0) live in omega (arith, none, one))

  pub live_listed : (s : ℕ) → IsAmong (tree_order tree) s → IsSome (node_at tree s)
  unfolding tree_order
  live_listed s h = only_live tree is 256 0 s is.root h

  pub root_first : slice_get (tree_order tree) 0 ≡ Some 0
  unfolding tree_order
  root_first = refl

  pub at_pos : (s : ℕ) → IsSome (node_at tree s) → slice_get (tree_order tree) (pos s) ≡ Some s
  at_pos s live = at_position (tree_order tree) s (listed s live)

  pos_root : pos 0 ≡ 0
  pos_root = position_at (tree_order tree) 0 0 once root_first

  -- the node at a new number
  pub node_new : (k s : ℕ) → slice_get (tree_order tree) k ≡ Some s → node_at new k ≡ renumbered_node (tree_order tree) (node_at tree s)
  node_new k s e = index_map (λ s. renumbered_node (tree_order tree) (node_at tree s)) (tree_order tree) k s e

  children_new : (s : ℕ) → IsSome (node_at tree s) → children_at new (pos s) ≡ map pos (children_at tree s)
  children_new s live = ap children_of (node_new (pos s) s (at_pos s live)) ∙ renumbered_children (tree_order tree) (node_at tree s)

  name_new : (s : ℕ) → IsSome (node_at tree s) → name_at new (pos s) ≡ name_at tree s
  name_new s live = ap name_of (node_new (pos s) s (at_pos s live)) ∙ renumbered_name (tree_order tree) (node_at tree s)

  live_new : (s : ℕ) → IsSome (node_at tree s) → IsSome (node_at new (pos s))
  live_new s live = ap is_some (node_new (pos s) s (at_pos s live)) ∙ renumbered_live (tree_order tree) (node_at tree s) ∙ live

  -- a node with a new number has an old one
  abbrev pub Came : ℕ → Type 0
  Came k = (s : ℕ) × IsSome (node_at tree s) × (k ≡ pos s) × (slice_get (tree_order tree) k ≡ Some s)

  pub came : (k : ℕ) → IsSome (node_at new k) → Came k
  came k live = by_case (slice_get (tree_order tree) k) refl
    where
      by_case : (o : Option ℕ) → slice_get (tree_order tree) k ≡ o → Came k
      by_case None e = absurd (not_true (sym (ap is_some (index_past (λ s. renumbered_node (tree_order tree) (node_at tree s)) (tree_order tree) k e)) ∙ live))
      by_case (Some s) e = (s, live_listed s (among_get (tree_order tree) k s e), sym (position_at (tree_order tree) k s once e), e)

  -- different nodes have different new numbers
  same_pos : (c d : ℕ) → IsSome (node_at tree c) → IsSome (node_at tree d) → pos c ≡ pos d → c ≡ d
  same_pos c d live alive e = same_Some c d (sym (at_pos c live) ∙ ap (slice_get (tree_order tree)) e ∙ at_pos d alive)

  -- a child by the new numbers is a child by the old ones
  abbrev CameChild : ℕ → ℕ → Type 0
  CameChild k c = (s : ℕ) × (d : ℕ) × IsSome (node_at tree s) × (k ≡ pos s) × IsAmong (children_at tree s) d × (c ≡ pos d)

  came_child : (k c : ℕ) → IsAmong (children_at new k) c → CameChild k c
  came_child k c h =
      let from = came k (live_with_child new k c h) in
      let among : IsAmong (map pos (children_at tree from.0)) c = subst (λ xs. IsAmong xs c) (ap (children_at new) from.2 ∙ children_new from.0 from.1) h in
      let d = among_map pos (children_at tree from.0) c among in
      (from.0, d.0, from.1, from.2, d.1, sym d.2)

  new_live : (k c : ℕ) → IsAmong (children_at new k) c → IsSome (node_at new c) × (0 < c)
  new_live k c h =
      let r = came_child k c h in
      let old = is.live r.0 r.1 r.4 in
      (subst (λ n. IsSome (node_at new n)) (sym r.5) (live_new r.1 old.0), subst (λ n. 0 < n) (sym r.5) (positive r.1 old.0 old.1 (pos r.1) refl))
    where
      positive : (d : ℕ) → IsSome (node_at tree d) → 0 < d → (n : ℕ) → pos d ≡ n → 0 < n
      positive d live pos' zero e = absurd (let same : d ≡ 0 = same_pos d 0 live is.root (e ∙ sym pos_root) in omega (arith, same, pos'))
      positive d live pos' (suc n) e = omega arith

  new_one_parent : (one other c : ℕ) → IsAmong (children_at new one) c → IsAmong (children_at new other) c → one ≡ other
  new_one_parent one other c h k =
      let r = came_child one c h in
      let t = came_child other c k in
      let same : r.1 ≡ t.1 = same_pos r.1 t.1 (is.live r.0 r.1 r.4).0 (is.live t.0 t.1 t.4).0 (sym r.5 ∙ t.5) in
      let parent : r.0 ≡ t.0 = is.one_parent r.0 t.0 t.1 (subst (λ d. IsAmong (children_at tree r.0) d) same r.4) t.4 in
      r.3 ∙ ap pos parent ∙ sym t.3

  names_new : (xs : List ℕ) → ((c : ℕ) → IsAmong xs c → IsSome (node_at tree c)) → map (name_at new) (map pos xs) ≡ map (name_at tree) xs
  names_new [] live = refl
  names_new (x ∷ xs) live = ap (λ n. n ∷ map (name_at new) (map pos xs)) (name_new x (live x (among_head x xs)))
      ∙ ap (λ ns. name_at tree x ∷ ns) (names_new xs (λ c h. live c (or_right (x == c) (is_among xs c) h)))

  -- what holds of the children of each node that is live and of an empty list
  of_children : (P : List ℕ → Type 0) → P [] → ((s : ℕ) → IsSome (node_at tree s) → P (map pos (children_at tree s))) → (k : ℕ) → P (children_at new k)
  of_children P none each k = by_case (node_at new k) refl
    where
      by_case : (o : Option Node) → node_at new k ≡ o → P (children_at new k)
      by_case None e = subst (λ (o : Option Node). P (children_of o)) (sym e) none
      by_case (Some node) e = let from = came k (ap is_some e) in subst P (sym (ap (children_at new) from.2 ∙ children_new from.0 from.1)) (each from.0 from.1)

  new_each : (k : ℕ) (node : Node) → node_at new k ≡ Some node → IsNode new.wide node
  new_each k node e = by_case (node_at tree from.0) refl
    where
      from : Came k
      from = came k (ap is_some e)

      by_case : (o : Option Node) → node_at tree from.0 ≡ o → IsNode tree.wide node
      by_case None f = absurd (not_true (sym (ap is_some f) ∙ from.1))
      by_case (Some old) f =
          let same : record old { children = map pos old.children } ≡ node = same_Some (record old { children = map pos old.children }) node (sym (ap (renumbered_node (tree_order tree)) f) ∙ sym (node_new k from.0 from.3) ∙ e) in
          subst (λ (n : Node). IsNode tree.wide n) same (renumbered_is_node tree.wide (tree_order tree) old (is.each from.0 old f))

  -- ---- who stands above whom

  list_new : (i : ℕ) → get_or (families new) i [] ≡ children_at new i
  list_new i = get_or-map children_of new.nodes i None

  parent_new : (j q : ℕ) → IsAmong (children_at tree j) q → parent_of new (pos q) ≡ Some (pos j)
  parent_new j q h =
      let live = live_with_child tree j q h in
      let kid : IsAmong (children_at new (pos j)) (pos q) = subst (λ xs. IsAmong xs (pos q)) (sym (children_new j live)) (map_among pos (children_at tree j) q h) in
      parent_found 0 (families new) (pos q) (pos j) (subst (λ xs. IsAmong xs (pos q)) (sym (list_new (pos j))) kid)
      (λ i k. new_one_parent i (pos j) (pos q) (subst (λ xs. IsAmong xs (pos q)) (list_new i) k) kid)
      ∙ ap Some (front (pos j))
    where
      front : (n : ℕ) → 0 + n ≡ n
      front n = omega arith

  root_new : parent_of new (pos 0) ≡ None
  root_new = parent_none 0 (families new) (pos 0) (λ i h. let l = new_live i (pos 0) (subst (λ xs. IsAmong xs (pos 0)) (list_new i) h) in let e : pos 0 ≡ 0 = pos_root in omega (arith, l.1, e))

  climb_new : (m q : ℕ) → IsSome (node_at tree q) → climb m (families new) (Some (pos q)) ≡ map pos (climb m (families tree) (Some q))
  climb_new zero q live = refl
  climb_new (suc m) q live = elim (root_or_child tree is q live) [
    | inl r ↦ ap (λ o. pos q ∷ climb m (families new) o) (ap (λ s. parent_of new (pos s)) r ∙ root_new) ∙ sym (ap (λ o. pos q ∷ map pos (climb m (families tree) o)) (ap (parent_of tree) r ∙ root_has_none tree is))
    | inr c ↦ ap (λ o. pos q ∷ climb m (families new) o) (parent_new c.0 q c.1) ∙ ap (λ xs. pos q ∷ xs) (climb_new m c.0 (live_with_child tree c.0 q c.1))
        ∙ sym (ap (λ o. pos q ∷ map pos (climb m (families tree) o)) (parent_is tree is c.0 q c.1))
  ]

  new_reached : (k : ℕ) → IsSome (node_at new k) → IsAmong (lineage new k) 0
  unfolding lineage
  new_reached k live =
      let from = came k live in
      let above : IsAmong (map pos (climb 256 (families tree) (Some from.0))) (pos 0) = map_among pos (climb 256 (families tree) (Some from.0)) 0 (is.reached from.0 from.1) in
      subst (λ xs. IsAmong xs 0) (sym (ap (λ n. climb 256 (families new) (Some n)) from.2 ∙ climb_new 256 from.0 from.1)) (subst (λ n. IsAmong (map pos (climb 256 (families tree) (Some from.0))) n) pos_root above)

  new_drawn : next_serial new ≤ 2 ^ 48
  new_drawn =
      let long : length new.nodes ≡ length (tree_order tree) = length-map (tree_order tree) (λ s. renumbered_node (tree_order tree) (node_at tree s)) in
      let short : length (tree_order tree) ≤ next_serial tree = few (tree_order tree) (next_serial tree) once (λ s h. live_within tree.nodes s (live_listed s h)) in
      below (next_serial new) (length (tree_order tree)) (next_serial tree) (2 ^ 48) long short is.drawn
    where
      below : (a b c d : ℕ) → a ≡ b → b ≤ c → c ≤ d → a ≤ d
      below a b c d e f g = omega (arith, e, f, g)

  pub numbered_is_tree : IsTree (numbered tree)
  numbered_is_tree = record {
    root = subst (λ n. IsSome (node_at new n)) pos_root (live_new 0 is.root);
    drawn = new_drawn;
    each = new_each;
    live = new_live;
    one_parent = new_one_parent;
    siblings = of_children (λ xs. AllDiffer (map (name_at new) xs)) tt (λ s live. subst AllDiffer (sym (names_new (children_at tree s) (λ c h. (is.live s c h).0))) (is.siblings s));
    width = of_children (λ xs. length xs ≤ 2 ^ 20) (few_none (2 ^ 20)) (λ s live. subst (λ n. n ≤ 2 ^ 20) (sym (length-map (children_at tree s) pos)) (is.width s));
    reached = new_reached;
  }
    where
      few_none : (n : ℕ) → length {A = ℕ} [] ≤ n
      few_none n = omega arith

  -- ---- numbering once more

  below_new : (n s : ℕ) → IsSome (node_at tree s) → descend n new (pos s) ≡ map pos (descend n tree s)
  below_new zero s live = refl
  below_new (suc n) s live = ap (λ xs. pos s ∷ flat_map (λ c. descend n new c) xs) (children_new s live) ∙ ap (λ xs. pos s ∷ xs) (all_below n (below_new n) (children_at tree s) (λ c h. (is.live s c h).0))
    where
      all_below : (n : ℕ) → ((s : ℕ) → IsSome (node_at tree s) → descend n new (pos s) ≡ map pos (descend n tree s)) → (xs : List ℕ) → ((c : ℕ) → IsAmong xs c → IsSome (node_at tree c))
          → flat_map (λ c. descend n new c) (map pos xs) ≡ map pos (flat_map (λ c. descend n tree c) xs)
      all_below n each [] live = refl
      all_below n each (x ∷ xs) live =
          ap (λ ys. ys ++ flat_map (λ c. descend n new c) (map pos xs)) (each x (live x (among_head x xs)))
          ∙ ap (λ ys. map pos (descend n tree x) ++ ys) (all_below n each xs (λ c h. live c (or_right (x == c) (is_among xs c) h)))
          ∙ sym (map-append pos (descend n tree x) (flat_map (λ c. descend n tree c) xs))

  abbrev row : List ℕ
  row = range_with_len 0 (length (tree_order tree))

  order_new : tree_order new ≡ row
  unfolding tree_order
  order_new = ap (descend 256 new) (sym pos_root) ∙ below_new 256 0 is.root ∙ positions (tree_order tree) (tree_order tree) 0 once (λ i s e. ap (slice_get (tree_order tree)) (front i) ∙ e)
    where
      front : (i : ℕ) → 0 + i ≡ i
      front i = omega arith

  stays : (xs : List ℕ) → ((c : ℕ) → IsAmong xs c → IsSome (node_at tree c)) → map (position_of row) (map pos xs) ≡ map pos xs
  stays [] live = refl
  stays (x ∷ xs) live =
      ap (λ k. k ∷ map (position_of row) (map pos xs)) (in_row x (live x (among_head x xs)))
      ∙ ap (λ ks. pos x ∷ ks) (stays xs (λ c h. live c (or_right (x == c) (is_among xs c) h)))
    where
      whole : (k : ℕ) → k - 0 ≡ k
      whole k = omega arith

      in_row : (s : ℕ) → IsSome (node_at tree s) → position_of row (pos s) ≡ pos s
      in_row s alive =
          let within : pos s < length (tree_order tree) = slice_get_within (tree_order tree) (pos s) s (at_pos s alive) in
          position_in 0 (length (tree_order tree)) (pos s) (omega arith) (omega (arith, within)) ∙ whole (pos s)

  node_stays : (s : ℕ) → IsAmong (tree_order tree) s → renumbered_node row (renumbered_node (tree_order tree) (node_at tree s)) ≡ renumbered_node (tree_order tree) (node_at tree s)
  node_stays s h = by_case (node_at tree s) refl
    where
      by_case : (o : Option Node) → node_at tree s ≡ o → renumbered_node row (renumbered_node (tree_order tree) o) ≡ renumbered_node (tree_order tree) o
      by_case None e = refl
      by_case (Some node) e = ap (λ (kids : List ℕ). Some (record node { children = kids })) (stays node.children (λ c k. (is.live s c (subst (λ (o : Option Node). IsAmong (children_of o) c) (sym e) k)).0))

  nodes_stay : (ys : List ℕ) (a : ℕ) → ((i s : ℕ) → slice_get ys i ≡ Some s → slice_get (tree_order tree) (a + i) ≡ Some s)
      → map (λ k. renumbered_node row (node_at new k)) (range_with_len a (length ys)) ≡ map (λ s. renumbered_node (tree_order tree) (node_at tree s)) ys
  nodes_stay [] a at = refl
  nodes_stay (y ∷ ys) a at =
      let here : slice_get (tree_order tree) a ≡ Some y = ap (slice_get (tree_order tree)) (front a) ∙ at 0 y refl in
      ap (λ o. o ∷ map (λ k. renumbered_node row (node_at new k)) (range_with_len (a + 1) (length ys))) (ap (renumbered_node row) (node_new a y here) ∙ node_stays y (among_get (tree_order tree) a y here))
      ∙ ap (λ os. renumbered_node (tree_order tree) (node_at tree y) ∷ os) (nodes_stay ys (a + 1) (λ i s e. ap (slice_get (tree_order tree)) (shift a i) ∙ at (suc i) s e))
    where
      front : (a : ℕ) → a ≡ a + 0
      front a = omega arith

      shift : (a i : ℕ) → a + 1 + i ≡ a + suc i
      shift a i = omega arith

  pub numbered_is_numbered : IsNumbered (numbered tree)
  numbered_is_numbered =
      ap (λ os. record new { nodes = map (λ k. renumbered_node os (node_at new k)) os }) order_new
      ∙ ap (λ ns. record new { nodes = ns }) (nodes_stay (tree_order tree) 0 (λ i s e. ap (slice_get (tree_order tree)) (first i) ∙ e))
    where
      first : (i : ℕ) → 0 + i ≡ i
      first i = omega arith

  pub numbered_is_same : IsSameTree (numbered tree) tree
  numbered_is_same = numbered_is_numbered
