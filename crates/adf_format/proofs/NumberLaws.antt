-- The nodes of a walk stand in tree order: the tree that they make is numbered.
use Rattle.std.proofs.Common.{◌≡◌, ◌≢◌, inl, inr, ℕ, zero, suc, refl, sym, ◌∙◌, ap, subst, arith, List, [], ◌∷◌, ◌++◌, length, map, drop, append_assoc, append-nil, length-append, ◌+◌, ◌-◌, ◌<◌, ◌≤◌, Bool, true, false}
use Rattle.std.proofs.lemmas.Bool.Decides.{nat_tests, eqb_tells, leb_tells}
use Rattle.std.proofs.lemmas.List.{map-append}
use Rattle.std.specs.Prelude.{nat_lt, nat_le, not, ◌^◌, ◌==◌, ◌&&◌, ◌||◌, Option, Some, None, Ok, Err, Result, slice_get, option_map, unwrap_or, ⊤}
use Rattle.std.specs.List.{filter_map, flat_map, range_with_len, AllByRecursion}
use Rattle.adf_format.specs.Tree.{node_at, children_of, children_at, descend, tree_order, position_of, renumbered_node, IsNumbered}
use Rattle.adf_format.specs.Fields.{field}
use Rattle.adf_format.specs.Names.{is_lk}
use Rattle.adf_format.specs.Checks.{Row, Fault, first_broken, Walk, finished, stopped, passed}
use Rattle.adf_format.specs.FirstFault.{entries_in, type_or_mt, NodeWalk, visit_rows, end_in, Visit, root_visit, child_visits, children_in, is_wide, node_rows_at, count_row_at}
use Rattle.adf_format.specs.SoundPart.{visit_number, children_among, node_of_visit, tree_of}
use Rattle.adf_format.proofs.ClosureLaws.{IsIn}
use Rattle.adf_format.proofs.WalkLaws.{all_kept}
use Rattle.adf_format.proofs.TreeLaws.{number_of-path, number_in, at_in, node_at-tree_of}
use Rattle.adf_format.proofs.PathLaws.{IsWalked, is_walked, child_of}

-- ---- a walk unrolls its visits

-- a visit and all that it leads to, n levels deep
abbrev pub unroll : List ℕ → ℕ → Visit → List Visit
unroll image zero v = []
unroll image (suc n) v = v ∷ flat_map (unroll image n) (child_visits image v)

abbrev unrolled : List ℕ → Visit → List Visit
unrolled image v = unroll image (256 - length v.path) v

abbrev AreNear : List Visit → Type 0
AreNear vs = AllByRecursion (λ (v : Visit). length v.path ≤ 255) vs

pub left_part : (rows others : List Row) → AllByRecursion (λ (r : Row). r.kept ≡ true) (rows ++ others) → AllByRecursion (λ (r : Row). r.kept ≡ true) rows
left_part [] others h = tt
left_part (r ∷ rows) others h = (h.0, left_part rows others h.1)

pub right_part : (rows others : List Row) → AllByRecursion (λ (r : Row). r.kept ≡ true) (rows ++ others) → AllByRecursion (λ (r : Row). r.kept ≡ true) others
right_part [] others h = h
right_part (r ∷ rows) others h = right_part rows others h.1

third : (a b c d : Bool) → (a && b && c && d) ≡ true → c ≡ true
third true true c true e = right c e
  where
    right : (c : Bool) → (c && true) ≡ true → c ≡ true
    right true e = refl
    right false e = e
third true true true false e = refl
third true true false false e = e
third true false c d e = absurd (no_way e)
  where
    no_way : false ≡ true → ⊥
    no_way e = cc
third false b c d e = absurd (no_way e)
  where
    no_way : false ≡ true → ⊥
    no_way e = cc

-- a row among others that are kept
pub one_part : (a b c d e : List Row) (r : Row) (rest : List Row) → AllByRecursion (λ (r : Row). r.kept ≡ true) (a ++ (r ∷ rest) ++ b ++ c ++ d ++ e) → r.kept ≡ true
one_part a b c d e r rest h =
    let h1 = left_part (a ++ (r ∷ rest) ++ b ++ c ++ d) e h in
    let h2 = left_part (a ++ (r ∷ rest) ++ b ++ c) d h1 in
    let h3 = left_part (a ++ (r ∷ rest) ++ b) c h2 in
    let h4 = left_part (a ++ (r ∷ rest)) b h3 in
    let h5 = right_part a (r ∷ rest) h4 in
    h5.0

-- a node that breaks no rule is not too deep for its children
not_too_deep : (image : List ℕ) (wide : Bool) (end : ℕ) (seen : List Visit) (v : Visit) → first_broken (visit_rows image wide end seen v) ≡ None → (nat_lt (length v.path) 255 || (children_in image v.place == 0)) ≡ true
unfolding node_rows_at count_row_at
not_too_deep image wide end seen v e =
    third (nat_le (children_in image v.place) (entries_in image v.place)) (nat_le (children_in image v.place) (2 ^ 20)) (nat_lt (length v.path) 255 || (children_in image v.place == 0))
    (not (is_lk (type_or_mt (field image (v.place + 96) 32))) || (children_in image v.place == 0)) (one_part _ _ _ _ _ _ _ (all_kept (visit_rows image wide end seen v) e).1.1.1)

-- ---- what it leads to

near_children : (image : List ℕ) (v : Visit) (a n : ℕ) → length v.path < 255 → AreNear (map (child_of image v) (range_with_len a n))
near_children image v a zero h = tt
near_children image v a (suc n) h = (near (length v.path) (length (v.path ++ a ∷ [])) (length-append v.path (a ∷ [])) h, near_children image v (a + 1) n h)
  where
    near : (d l : ℕ) → l ≡ d + 1 → d < 255 → l ≤ 255
    near d l e h = omega (arith, e, h)

children_near : (image : List ℕ) (v : Visit) → (nat_lt (length v.path) 255 || (children_in image v.place == 0)) ≡ true → AreNear (child_visits image v)
children_near image v e = by_depth (nat_lt (length v.path) 255) refl e
  where
    deeper : (d : ℕ) → nat_lt d 255 ≡ true → d < 255
    deeper d e = grind (arith, nat_tests)

    none : (n : ℕ) → (n == 0) ≡ true → n ≡ 0
    none n e = grind (arith, nat_tests)

    by_depth : (t : Bool) → nat_lt (length v.path) 255 ≡ t → (t || (children_in image v.place == 0)) ≡ true → AreNear (child_visits image v)
    by_depth true d e = near_children image v 0 (children_in image v.place) (deeper (length v.path) d)
    by_depth false d e = subst (λ n. AreNear (map (child_of image v) (range_with_len 0 n))) (sym (none (children_in image v.place) e)) tt

near-append : (xs ys : List Visit) → AreNear xs → AreNear ys → AreNear (xs ++ ys)
near-append [] ys h k = k
near-append (x ∷ xs) ys h k = (h.0, near-append xs ys h.1 k)

flat-append : (f : Visit → List Visit) (xs ys : List Visit) → flat_map f (xs ++ ys) ≡ flat_map f xs ++ flat_map f ys
flat-append f [] ys = refl
flat-append f (x ∷ xs) ys = ap (λ zs. f x ++ zs) (flat-append f xs ys) ∙ sym (append_assoc (f x) (flat_map f xs) (flat_map f ys))

level : (d l : ℕ) → l ≡ d + 1 → 256 - l ≡ 255 - d
level d l e = omega (arith, e)

unroll_children : (image : List ℕ) (v : Visit) (a n : ℕ) → flat_map (unrolled image) (map (child_of image v) (range_with_len a n)) ≡ flat_map (unroll image (255 - length v.path)) (map (child_of image v) (range_with_len a n))
unroll_children image v a zero = refl
unroll_children image v a (suc n) =
    ap (λ k. unroll image k (child_of image v a) ++ flat_map (unrolled image) (map (child_of image v) (range_with_len (a + 1) n))) (level (length v.path) (length (v.path ++ a ∷ [])) (length-append v.path (a ∷ [])))
    ∙ ap (λ zs. unroll image (255 - length v.path) (child_of image v a) ++ zs) (unroll_children image v (a + 1) n)

unroll_one : (image : List ℕ) (v : Visit) → length v.path ≤ 255 → v ∷ flat_map (unrolled image) (child_visits image v) ≡ unrolled image v
unroll_one image v h =
    let deep : suc (255 - length v.path) ≡ 256 - length v.path = omega (arith, h) in
    ap (λ zs. v ∷ zs) (unroll_children image v 0 (children_in image v.place)) ∙ ap (λ k. unroll image k v) deep

abbrev Unrolls : List ℕ → List Visit → List Visit → Result (List Visit) Fault → Type 0
Unrolls image todo seen (Ok all) = all ≡ seen ++ flat_map (unrolled image) todo
Unrolls image todo seen (Err fault) = ⊤

-- a walk sees what its visits unroll to
unrolls : (image : List ℕ) (wide : Bool) (end : ℕ) {todo seen : List Visit} {outcome : Result (List Visit) Fault} → Walk (visit_rows image wide end) (child_visits image) todo seen outcome → AreNear todo → Unrolls image todo seen outcome
unrolls image wide end (finished {seen = seen}) h = sym (append-nil seen)
unrolls image wide end (stopped e) h = tt
unrolls image wide end (passed {item = item} {seen = seen} {outcome = Err fault} e w) h = tt
unrolls image wide end (passed {item = item} {rest = rest} {seen = seen} {outcome = Ok all} e w) h =
    let near = near-append (child_visits image item) rest (children_near image item (not_too_deep image wide end seen item e)) h.1 in
    let r : all ≡ (seen ++ item ∷ []) ++ flat_map (unrolled image) (child_visits image item ++ rest) = unrolls image wide end w near in
    r
    ∙ ap (λ zs. (seen ++ item ∷ []) ++ zs) (flat-append (unrolled image) (child_visits image item) rest)
    ∙ append_assoc seen (item ∷ []) (flat_map (unrolled image) (child_visits image item) ++ flat_map (unrolled image) rest)
    ∙ ap (λ zs. seen ++ (zs ++ flat_map (unrolled image) rest)) (unroll_one image item h.0)

pub walk_unrolls : (image : List ℕ) (nodes : List Visit) → NodeWalk image (Ok nodes) → nodes ≡ unroll image 256 (root_visit image)
walk_unrolls image nodes w = unrolls image (is_wide image) (end_in image) w (near_root, tt) ∙ append-nil (unroll image 256 (root_visit image))
  where
    near_root : 0 ≤ 255
    near_root = omega arith

-- ---- the tree order counts the visits

-- the place of a number in a row of numbers
pub position_in : (a m c : ℕ) → a ≤ c → c < a + m → position_of (range_with_len a m) c ≡ c - a
position_in a zero c low high = absurd (none a c low high)
  where
    none : (a c : ℕ) → a ≤ c → c < a + 0 → ⊥
    none a c low high = omega (arith, low, high)
position_in a (suc m) c low high = elim (eqb_tells a c) [
  | inl e ↦ rw (e.0) (first a c e.1)
  | inr e ↦ rw (e.0) (ap suc (position_in (a + 1) m c (above a c low e.1) (omega (arith, high))) ∙ later a c (above a c low e.1))
]
  where
    first : (a c : ℕ) → a ≡ c → 0 ≡ c - a
    first a c e = omega (arith, e)

    later : (a c : ℕ) → a + 1 ≤ c → suc (c - (a + 1)) ≡ c - a
    later a c h = omega (arith, h)

    above : (a c : ℕ) → a ≤ c → a ≢ c → a + 1 ≤ c
    above a c low differ = elim (leb_tells (a + 1) c) [ inl h ↦ h.1 | inr h ↦ absurd (differ (same a c low h.1)) ]
      where
        same : (a c : ℕ) → a ≤ c → c < a + 1 → a ≡ c
        same a c low high = omega (arith, low, high)

inside_of : (vs : List Visit) (k : ℕ) (v : Visit) → slice_get vs k ≡ Some v → k < length vs
inside_of [] k v e = absurd (none v e)
  where
    none : (v : Visit) → ◌≡◌ {A = Option Visit} None (Some v) → ⊥
    none v e = cc
inside_of (w ∷ vs) zero v e = omega arith
inside_of (w ∷ vs) (suc k) v e = let rest : k < length vs = inside_of vs k v e in omega (arith, rest)

same_some : {A : Type 0} (a b : A) → ◌≡◌ {A = Option A} (Some a) (Some b) → a ≡ b
same_some a b e = ap (λ o. unwrap_or o a) e

is_led : (image : List ℕ) (v : Visit) (a n i : ℕ) → a ≤ i → i < a + n → IsIn (child_of image v i) (map (child_of image v) (range_with_len a n))
is_led image v a zero i low high = absurd (none a i low high)
  where
    none : (a i : ℕ) → a ≤ i → i < a + 0 → ⊥
    none a i low high = omega (arith, low, high)
is_led image v a (suc n) i low high = elim (eqb_tells i a) [
  | inl e ↦ inl (ap (child_of image v) e.1)
  | inr e ↦ inr (is_led image v (a + 1) n i (above a i low e.1) (omega (arith, high)))
]
  where
    above : (a i : ℕ) → a ≤ i → i ≢ a → a + 1 ≤ i
    above a i low differ = elim (leb_tells (a + 1) i) [ inl h ↦ h.1 | inr h ↦ absurd (differ (same a i low h.1)) ]
      where
        same : (a i : ℕ) → a ≤ i → i < a + 1 → i ≡ a
        same a i low high = omega (arith, low, high)

module _ (image : List ℕ) (nodes : List Visit) (walked : IsWalked image nodes) where
  children_of_visit : (k : ℕ) (v : Visit) → slice_get nodes k ≡ Some v → children_at (tree_of image nodes) k ≡ children_among image nodes v
  children_of_visit k v e = ap children_of (node_at-tree_of image nodes k ∙ ap (option_map (node_of_visit image (is_wide image) nodes)) e)

  -- each child that is led to has a number, and stands there
  child_number : (v : Visit) (i : ℕ) → IsIn v nodes → IsIn (child_of image v i) (child_visits image v) → (k : ℕ) × (visit_number nodes (v.path ++ i ∷ []) ≡ Some k) × (slice_get nodes k ≡ Some (child_of image v i))
  child_number v i h c =
      let k = number_in nodes (child_of image v i) (walked.closed v h (child_of image v i) c) in
      (k.0, number_of-path nodes k.0 (child_of image v i) walked.ordered k.1, k.1)

  abbrev Agrees : ℕ → Type 0
  Agrees n = (k : ℕ) (v : Visit) → slice_get nodes k ≡ Some v → map (slice_get nodes) (descend n (tree_of image nodes) k) ≡ map Some (unroll image n v)

  children_agree : (n : ℕ) → Agrees n → (v : Visit) → IsIn v nodes → (a m : ℕ) → ((i : ℕ) → a ≤ i → i < a + m → IsIn (child_of image v i) (child_visits image v))
      → map (slice_get nodes) (flat_map (λ child. descend n (tree_of image nodes) child) (filter_map (λ i. visit_number nodes (v.path ++ i ∷ [])) (range_with_len a m))) ≡ map Some (flat_map (unroll image n) (map (child_of image v) (range_with_len a m)))
  children_agree n agree v h a zero leads = refl
  children_agree n agree v h a (suc m) leads =
      let c = child_number v a h (leads a (omega arith) (omega arith)) in
      let rest = children_agree n agree v h (a + 1) m (λ i low high. leads i (omega (arith, low)) (omega (arith, high))) in
      let later = flat_map (λ child. descend n (tree_of image nodes) child) (filter_map (λ i. visit_number nodes (v.path ++ i ∷ [])) (range_with_len (a + 1) m)) in
      let visits = flat_map (unroll image n) (map (child_of image v) (range_with_len (a + 1) m)) in
      rw (c.1) (map-append (slice_get nodes) (descend n (tree_of image nodes) c.0) later
      ∙ ap (λ xs. xs ++ map (slice_get nodes) later) (agree c.0 (child_of image v a) c.2)
      ∙ ap (λ xs. map Some (unroll image n (child_of image v a)) ++ xs) rest
      ∙ sym (map-append Some (unroll image n (child_of image v a)) visits))

  descends : (n : ℕ) → Agrees n
  descends zero k v e = refl
  descends (suc n) k v e =
      ap (λ o. o ∷ map (slice_get nodes) (flat_map (λ child. descend n (tree_of image nodes) child) (children_at (tree_of image nodes) k))) e
      ∙ ap (λ ks. Some v ∷ map (slice_get nodes) (flat_map (λ child. descend n (tree_of image nodes) child) ks)) (children_of_visit k v e)
      ∙ ap (λ xs. Some v ∷ xs) (children_agree n (descends n) v (at_in nodes k v e) 0 (children_in image v.place) (λ i low high. is_led image v 0 (children_in image v.place) i low high))

  -- numbers at which the visits stand in order count up
  counted : (js : List ℕ) (vs : List Visit) (a : ℕ) → map (slice_get nodes) js ≡ map Some vs → ((i : ℕ) (v : Visit) → slice_get vs i ≡ Some v → slice_get nodes (a + i) ≡ Some v) → js ≡ range_with_len a (length vs)
  counted [] [] a e at = refl
  counted [] (v ∷ vs) a e at = cc
  counted (j ∷ js) [] a e at = cc
  counted (j ∷ js) (v ∷ vs) a e at =
      let head : slice_get nodes j ≡ Some v = same_some (slice_get nodes j) (Some v) (ap (λ xs. slice_get xs 0) e) in
      let here : slice_get nodes a ≡ Some v = ap (slice_get nodes) (front a) ∙ at 0 v refl in
      let same : j ≡ a = same_some j a (sym (number_of-path nodes j v walked.ordered head) ∙ number_of-path nodes a v walked.ordered here) in
      ap (λ i. i ∷ js) same ∙ ap (λ is. a ∷ is) (counted js vs (a + 1) (ap (drop 1) e) (λ i w f. ap (slice_get nodes) (shift a i) ∙ at (suc i) w f))
    where
      front : (a : ℕ) → a ≡ a + 0
      front a = omega arith

      shift : (a i : ℕ) → a + 1 + i ≡ a + suc i
      shift a i = omega arith

  -- the children of a node keep their numbers
  kids_stay : (v : Visit) → IsIn v nodes → (a m : ℕ) → ((i : ℕ) → a ≤ i → i < a + m → IsIn (child_of image v i) (child_visits image v))
      → map (position_of (range_with_len 0 (length nodes))) (filter_map (λ i. visit_number nodes (v.path ++ i ∷ [])) (range_with_len a m)) ≡ filter_map (λ i. visit_number nodes (v.path ++ i ∷ [])) (range_with_len a m)
  kids_stay v h a zero leads = refl
  kids_stay v h a (suc m) leads =
      let c = child_number v a h (leads a (omega arith) (omega arith)) in
      let below : c.0 < length nodes = inside_of nodes c.0 (child_of image v a) c.2 in
      let rest = kids_stay v h (a + 1) m (λ i low high. leads i (omega (arith, low)) (omega (arith, high))) in
      rw (c.1) (ap (λ k. k ∷ map (position_of (range_with_len 0 (length nodes))) (filter_map (λ i. visit_number nodes (v.path ++ i ∷ [])) (range_with_len (a + 1) m))) (position_in 0 (length nodes) c.0 (omega arith) (omega (arith, below)) ∙ whole c.0)
      ∙ ap (λ ks. c.0 ∷ ks) rest)
    where
      whole : (k : ℕ) → k - 0 ≡ k
      whole k = omega arith

  nodes_stay : (vs : List Visit) (a : ℕ) → ((i : ℕ) (v : Visit) → slice_get vs i ≡ Some v → slice_get nodes (a + i) ≡ Some v)
      → map (λ serial. renumbered_node (range_with_len 0 (length nodes)) (node_at (tree_of image nodes) serial)) (range_with_len a (length vs)) ≡ map (λ v. Some (node_of_visit image (is_wide image) nodes v)) vs
  nodes_stay [] a at = refl
  nodes_stay (v ∷ vs) a at =
      let here : slice_get nodes a ≡ Some v = ap (slice_get nodes) (front a) ∙ at 0 v refl in
      let node : node_at (tree_of image nodes) a ≡ Some (node_of_visit image (is_wide image) nodes v) = node_at-tree_of image nodes a ∙ ap (option_map (node_of_visit image (is_wide image) nodes)) here in
      let same : renumbered_node (range_with_len 0 (length nodes)) (node_at (tree_of image nodes) a) ≡ Some (node_of_visit image (is_wide image) nodes v) =
      ap (renumbered_node (range_with_len 0 (length nodes))) node
      ∙ ap (λ (kids : List ℕ). Some (record (node_of_visit image (is_wide image) nodes v) { children = kids })) (kids_stay v (at_in nodes a v here) 0 (children_in image v.place) (λ i low high. is_led image v 0 (children_in image v.place) i low high)) in
      ap (λ o. o ∷ map (λ serial. renumbered_node (range_with_len 0 (length nodes)) (node_at (tree_of image nodes) serial)) (range_with_len (a + 1) (length vs))) same
      ∙ ap (λ ns. Some (node_of_visit image (is_wide image) nodes v) ∷ ns) (nodes_stay vs (a + 1) (λ i w f. ap (slice_get nodes) (shift a i) ∙ at (suc i) w f))
    where
      front : (a : ℕ) → a ≡ a + 0
      front a = omega arith

      shift : (a i : ℕ) → a + 1 + i ≡ a + suc i
      shift a i = omega arith

  order_counts : nodes ≡ unroll image 256 (root_visit image) → tree_order (tree_of image nodes) ≡ range_with_len 0 (length nodes)
  unfolding tree_order
  order_counts e =
      counted (descend 256 (tree_of image nodes) 0) nodes 0 (descends 256 0 (root_visit image) walked.root ∙ ap (map Some) (sym e)) (λ i v f. ap (slice_get nodes) (zero_first i) ∙ f)
    where
      zero_first : (i : ℕ) → 0 + i ≡ i
      zero_first i = omega arith

  numbered_by : nodes ≡ unroll image 256 (root_visit image) → IsNumbered (tree_of image nodes)
  numbered_by e =
      ap (λ order. record (tree_of image nodes) { nodes = map (λ serial. renumbered_node order (node_at (tree_of image nodes) serial)) order }) (order_counts e)
      ∙ ap (λ ns. record (tree_of image nodes) { nodes = ns }) (nodes_stay nodes 0 (λ i v f. ap (slice_get nodes) (zero_first i) ∙ f))
    where
      zero_first : (i : ℕ) → 0 + i ≡ i
      zero_first i = omega arith

-- the tree that a walk finds is numbered in tree order
pub walk_is_numbered : (image : List ℕ) (nodes : List Visit) → NodeWalk image (Ok nodes) → IsNumbered (tree_of image nodes)
walk_is_numbered image nodes w = numbered_by image nodes (is_walked image nodes w) (walk_unrolls image nodes w)
