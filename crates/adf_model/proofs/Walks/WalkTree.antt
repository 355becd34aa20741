-- The nodes that a walk finds stand as the nodes of a tree: each but the root is the child of one, and is reached from the root.
use Rattle.std.proofs.Common.{◌≡◌, ◌≢◌, ◌⊎◌, inl, inr, ℕ, zero, suc, refl, sym, ◌∙◌, ap, subst, arith, List, [], ◌∷◌, ◌++◌, length, map, take, get_or, length-append, ◌+◌, ◌<◌, ◌≤◌, true}
use Rattle.std.proofs.Math.ListN.{get_or-map}
use Rattle.std.proofs.Math.Seq.{take-append_seam}
use Rattle.std.proofs.lemmas.Bool.Decides.{eqb_tells}
use Rattle.std.specs.Prelude.{Option, Some, None, IsSome, is_some, slice_get, option_map, ◌==◌}
use Rattle.std.specs.List.{filter_map, flat_map, range_with_len, AllByRecursion}
use Rattle.adf_format.specs.Tree.{Node, node_at, children_of, children_at, is_among, IsAmong, families, parent_from, climb, lineage}
use Rattle.adf_format.specs.FirstFault.{Visit, root_visit, child_visits, children_in, is_wide}
use Rattle.adf_format.specs.SoundPart.{visit_number, children_among, node_of_visit, tree_of}
use Rattle.adf_format.proofs.ClosureLaws.{IsIn}
use Rattle.adf_format.proofs.TreeLaws.{number_of-path, number_in, at_in, node_at-tree_of}
use Rattle.adf_format.proofs.PathLaws.{IsWalked, child_of}
use Rattle.adf_format.proofs.NumberLaws.{unroll}
use Rattle.adf_model.proofs.Basics.{not_true, or_parts, or_right, same_Some}
use Rattle.adf_model.proofs.Trees.SubtreeLemmas.{parent_found}

-- ---- lists

-- what stands in the list that a partial function makes
among_filter : (g : ℕ → Option ℕ) (a m c : ℕ) → IsAmong (filter_map g (range_with_len a m)) c → (i : ℕ) × (a ≤ i) × (i < a + m) × (g i ≡ Some c)
among_filter g a zero c h = absurd (not_true h)
among_filter g a (suc m) c h = by_first (g a) refl h (among_filter g (a + 1) m c)
  where
    wider : (i : ℕ) → a + 1 ≤ i → i < a + 1 + m → (a ≤ i) × (i < a + suc m)
    wider i low high = (omega (arith, low), omega (arith, high))

    further : (i : ℕ) × (a + 1 ≤ i) × (i < a + 1 + m) × (g i ≡ Some c) → (i : ℕ) × (a ≤ i) × (i < a + suc m) × (g i ≡ Some c)
    further r = let w = wider r.0 r.1 r.2 in (r.0, w.0, w.1, r.3)

    by_first : (o : Option ℕ) → g a ≡ o → is_among (filter_map g (range_with_len a (suc m))) c ≡ true → (IsAmong (filter_map g (range_with_len (a + 1) m)) c → (i : ℕ) × (a + 1 ≤ i) × (i < a + 1 + m) × (g i ≡ Some c)) → (i : ℕ) × (a ≤ i) × (i < a + suc m) × (g i ≡ Some c)
    by_first None e h ih = let later : is_among (filter_map g (range_with_len (a + 1) m)) c ≡ true = rw e at h in further (ih later)
    by_first (Some k) e h ih =
        let split : is_among (k ∷ filter_map g (range_with_len (a + 1) m)) c ≡ true = rw e at h in
        elim (or_parts (k == c) (is_among (filter_map g (range_with_len (a + 1) m)) c) split) [
          | inl t ↦ elim (eqb_tells k c) [ inl s ↦ (a, omega arith, omega arith, e ∙ ap Some s.1) | inr s ↦ absurd (not_true (sym s.0 ∙ t)) ]
          | inr t ↦ further (ih t)
        ]

filter_among : (g : ℕ → Option ℕ) (a m i c : ℕ) → a ≤ i → i < a + m → g i ≡ Some c → IsAmong (filter_map g (range_with_len a m)) c
filter_among g a zero i c low high e = absurd (none a i low high)
  where
    none : (a i : ℕ) → a ≤ i → i < a + 0 → ⊥
    none a i low high = omega (arith, low, high)
filter_among g a (suc m) i c low high e = elim (eqb_tells i a) [
  | inl s ↦ here (g a) refl (ap g (sym s.1) ∙ e)
  | inr s ↦ later (g a) refl (filter_among g (a + 1) m i c (above s.1) (omega (arith, high)) e)
]
  where
    above : i ≢ a → a + 1 ≤ i
    above differ = elim (eqb_tells i a) [ inl s ↦ absurd (differ s.1) | inr s ↦ grind (arith, low, differ) ]

    here : (o : Option ℕ) → g a ≡ o → g a ≡ Some c → IsAmong (filter_map g (range_with_len a (suc m))) c
    here o f e = rw e (elim (eqb_tells c c) [ inl s ↦ ap (λ b. b) (first s.0) | inr s ↦ absurd (s.1 refl) ])
      where
        first : (c == c) ≡ true → is_among (c ∷ filter_map g (range_with_len (a + 1) m)) c ≡ true
        first t = rw t refl

    later : (o : Option ℕ) → g a ≡ o → IsAmong (filter_map g (range_with_len (a + 1) m)) c → IsAmong (filter_map g (range_with_len a (suc m))) c
    later None f h = rw f h
    later (Some k) f h = rw f (or_right (k == c) (is_among (filter_map g (range_with_len (a + 1) m)) c) h)

-- ---- how deep the visits are

abbrev AllShort : ℕ → List Visit → Type 0
AllShort n vs = AllByRecursion (λ (w : Visit). length w.path < n) vs

short-append : (n : ℕ) (xs ys : List Visit) → AllShort n xs → AllShort n ys → AllShort n (xs ++ ys)
short-append n [] ys h k = k
short-append n (x ∷ xs) ys h k = (h.0, short-append n xs ys h.1 k)

short_children : (image : List ℕ) (n d : ℕ) → ((v : Visit) → AllShort (length v.path + n) (unroll image n v)) → (v : Visit) (a m : ℕ) → length v.path + suc n ≡ d → AllShort d (flat_map (unroll image n) (map (child_of image v) (range_with_len a m)))
short_children image n d each v a zero e = tt
short_children image n d each v a (suc m) e =
    short-append d (unroll image n (child_of image v a)) _
    (subst (λ k. AllShort k (unroll image n (child_of image v a))) (deeper (length v.path) (length (v.path ++ a ∷ [])) (length-append v.path (a ∷ [])) e) (each (child_of image v a)))
    (short_children image n d each v (a + 1) m e)
  where
    deeper : (l k : ℕ) → k ≡ l + 1 → l + suc n ≡ d → k + n ≡ d
    deeper l k f g = omega (arith, f, g)

unroll_short : (image : List ℕ) (n : ℕ) (v : Visit) → AllShort (length v.path + n) (unroll image n v)
unroll_short image zero v = tt
unroll_short image (suc n) v = (longer (length v.path) n, short_children image n (length v.path + suc n) (unroll_short image n) v 0 (children_in image v.place) refl)
  where
    longer : (l n : ℕ) → l < l + suc n
    longer l n = omega arith

short_in : (n : ℕ) (vs : List Visit) (w : Visit) → AllShort n vs → IsIn w vs → length w.path < n
short_in n [] w h i = absurd i
short_in n (v ∷ vs) w h (inl e) = subst (λ (u : Visit). length u.path < n) (sym e) h.0
short_in n (v ∷ vs) w h (inr i) = short_in n vs w h.1 i

is_among_children : {P : Type 0} (image : List ℕ) (v w : Visit) (a m : ℕ) → IsIn w (map (child_of image v) (range_with_len a m)) → ((i : ℕ) → a ≤ i → i < a + m → w ≡ child_of image v i → P) → P
is_among_children image v w a zero h next = absurd h
is_among_children image v w a (suc m) (inl e) next = next a (omega arith) (omega arith) e
is_among_children image v w a (suc m) (inr h) next = is_among_children image v w (a + 1) m h (λ i low high e. next i (omega (arith, low)) (omega (arith, high)) e)

pub child_in : (image : List ℕ) (v : Visit) (a n i : ℕ) → a ≤ i → i < a + n → IsIn (child_of image v i) (map (child_of image v) (range_with_len a n))
child_in image v a zero i low high = absurd (none a i low high)
  where
    none : (a i : ℕ) → a ≤ i → i < a + 0 → ⊥
    none a i low high = omega (arith, low, high)
child_in image v a (suc n) i low high = elim (eqb_tells i a) [
  | inl e ↦ inl (ap (child_of image v) e.1)
  | inr e ↦ inr (child_in image v (a + 1) n i (above e.1) (omega (arith, high)))
]
  where
    above : i ≢ a → a + 1 ≤ i
    above differ = elim (eqb_tells i a) [ inl s ↦ absurd (differ s.1) | inr s ↦ grind (arith, low, differ) ]

-- ---- the tree of a walk

module _ (image : List ℕ) (nodes : List Visit) (walked : IsWalked image nodes) where
  -- a node with a child is a visit, and the child is one that it leads to
  child_tells : {P : Type 0} (k c : ℕ) → IsAmong (children_at (tree_of image nodes) k) c → ((v : Visit) (i : ℕ) → slice_get nodes k ≡ Some v → i < children_in image v.place → slice_get nodes c ≡ Some (child_of image v i) → P) → P
  child_tells {P = P} k c h next = by_visit (slice_get nodes k) refl
    where
      from_zero : (i n : ℕ) → i < 0 + n → i < n
      from_zero i n h = omega (arith, h)

      by_visit : (o : Option Visit) → slice_get nodes k ≡ o → P
      by_visit None e = absurd (not_true (subst (λ (o : Option Node). IsAmong (children_of o) c) (node_at-tree_of image nodes k ∙ ap (option_map (node_of_visit image (is_wide image) nodes)) e) h))
      by_visit (Some v) e =
          let among : IsAmong (children_among image nodes v) c = subst (λ (o : Option Node). IsAmong (children_of o) c) (node_at-tree_of image nodes k ∙ ap (option_map (node_of_visit image (is_wide image) nodes)) e) h in
          let i = among_filter (λ i. visit_number nodes (v.path ++ i ∷ [])) 0 (children_in image v.place) c among in
          let inside : i.0 < children_in image v.place = from_zero i.0 (children_in image v.place) i.2 in
          let led = walked.closed v (at_in nodes k v e) (child_of image v i.0) (child_in image v 0 (children_in image v.place) i.0 i.1 i.2) in
          let j = number_in nodes (child_of image v i.0) led in
          let same : c ≡ j.0 = same_Some c j.0 (sym i.3 ∙ number_of-path nodes j.0 (child_of image v i.0) walked.ordered j.1) in
          next v i.0 e inside (ap (slice_get nodes) same ∙ j.1)

  live_at : (k : ℕ) (v : Visit) → slice_get nodes k ≡ Some v → IsSome (node_at (tree_of image nodes) k)
  live_at k v e = ap is_some (node_at-tree_of image nodes k ∙ ap (option_map (node_of_visit image (is_wide image) nodes)) e)

  pub walk_root : IsSome (node_at (tree_of image nodes) 0)
  walk_root = live_at 0 (root_visit image) walked.root

  long_path : (v : Visit) (i : ℕ) → length (child_of image v i).path ≡ length v.path + 1
  long_path v i = length-append v.path (i ∷ [])

  -- each child is live and not the root
  pub walk_live : (k c : ℕ) → IsAmong (children_at (tree_of image nodes) k) c → IsSome (node_at (tree_of image nodes) c) × (0 < c)
  walk_live k c h = child_tells k c h (λ v i e inside at. (live_at c (child_of image v i) at, not_root c v i at))
    where
      no_path : (v : Visit) (i : ℕ) → root_visit image ≡ child_of image v i → ⊥
      no_path v i e = let l : 0 ≡ length (child_of image v i).path = ap (λ (w : Visit). length w.path) e in omega (arith, l, long_path v i)

      not_root : (c : ℕ) (v : Visit) (i : ℕ) → slice_get nodes c ≡ Some (child_of image v i) → 0 < c
      not_root zero v i at = absurd (no_path v i (same_Some (root_visit image) (child_of image v i) (sym walked.root ∙ at)))
      not_root (suc c) v i at = omega arith

  -- and the child of one node alone
  pub walk_one_parent : (one other c : ℕ) → IsAmong (children_at (tree_of image nodes) one) c → IsAmong (children_at (tree_of image nodes) other) c → one ≡ other
  walk_one_parent one other c h k = child_tells one c h (λ v i e inside at. child_tells other c k (λ w j f within there.
      let same : child_of image v i ≡ child_of image w j = same_Some (child_of image v i) (child_of image w j) (sym at ∙ there) in
      let path : v.path ≡ w.path = before v w i j (ap (λ (u : Visit). u.path) same) in
      same_Some one other (sym (number_of-path nodes one v walked.ordered e) ∙ ap (visit_number nodes) path ∙ number_of-path nodes other w walked.ordered f)))
    where
      before : (v w : Visit) (i j : ℕ) → v.path ++ i ∷ [] ≡ w.path ++ j ∷ [] → v.path ≡ w.path
      before v w i j e =
          let lengths : length v.path ≡ length w.path = equal_lengths (length v.path) (length w.path) (sym (length-append v.path (i ∷ [])) ∙ ap length e ∙ length-append w.path (j ∷ [])) in
          sym (take-append_seam v.path (i ∷ [])) ∙ ap (take (length v.path)) e ∙ ap (λ n. take n (w.path ++ j ∷ [])) lengths ∙ take-append_seam w.path (j ∷ [])
        where
          equal_lengths : (a b : ℕ) → a + 1 ≡ b + 1 → a ≡ b
          equal_lengths a b e = omega (arith, e)

  list_at : (i : ℕ) → get_or (families (tree_of image nodes)) i [] ≡ children_at (tree_of image nodes) i
  list_at i = get_or-map children_of (tree_of image nodes).nodes i None

  parent_at : (j k : ℕ) → IsAmong (children_at (tree_of image nodes) j) k → parent_from 0 (families (tree_of image nodes)) k ≡ Some j
  parent_at j k h =
      parent_found 0 (families (tree_of image nodes)) k j (subst (λ xs. IsAmong xs k) (sym (list_at j)) h) (λ i m. walk_one_parent i j k (subst (λ xs. IsAmong xs k) (list_at i) m) h)
      ∙ ap Some (zero_first j)
    where
      zero_first : (j : ℕ) → 0 + j ≡ j
      zero_first j = omega arith

  -- the visit that leads to another is its parent
  child_at : (j k i : ℕ) (u w : Visit) → slice_get nodes j ≡ Some u → slice_get nodes k ≡ Some w → i < children_in image u.place → w ≡ child_of image u i → IsAmong (children_at (tree_of image nodes) j) k
  child_at j k i u w e f inside s =
      let number : visit_number nodes (u.path ++ i ∷ []) ≡ Some k = ap (λ (v : Visit). visit_number nodes v.path) (sym s) ∙ number_of-path nodes k w walked.ordered f in
      subst (λ (o : Option Node). IsAmong (children_of o) k) (sym (node_at-tree_of image nodes j ∙ ap (option_map (node_of_visit image (is_wide image) nodes)) e))
      (filter_among (λ i. visit_number nodes (u.path ++ i ∷ [])) 0 (children_in image u.place) i k (omega arith) (omega (arith, inside)) number)

  -- above each visit stands the root
  climbs : (m k : ℕ) (w : Visit) → slice_get nodes k ≡ Some w → length w.path < m → is_among (climb m (families (tree_of image nodes)) (Some k)) 0 ≡ true
  climbs zero k w e h = absurd (none (length w.path) h)
    where
      none : (n : ℕ) → n < 0 → ⊥
      none n h = omega (arith, h)
  climbs (suc m) k w e h = by_origin (climbs m) (walked.reached w (at_in nodes k w e))
    where
      at_root : w ≡ root_visit image → is_among (climb (suc m) (families (tree_of image nodes)) (Some k)) 0 ≡ true
      at_root s =
          let first : visit_number nodes [] ≡ Some k = ap (λ (v : Visit). visit_number nodes v.path) (sym s) ∙ number_of-path nodes k w walked.ordered e in
          let zero_is : k ≡ 0 = same_Some k 0 (sym first ∙ number_of-path nodes 0 (root_visit image) walked.ordered walked.root) in
          elim (eqb_tells k 0) [ inl t ↦ rw (t.0) refl | inr t ↦ absurd (t.1 zero_is) ]

      by_origin : ((k : ℕ) (w : Visit) → slice_get nodes k ≡ Some w → length w.path < m → is_among (climb m (families (tree_of image nodes)) (Some k)) 0 ≡ true) → (w ≡ root_visit image) ⊎ ((u : Visit) × IsIn u nodes × IsIn w (child_visits image u)) → is_among (climb (suc m) (families (tree_of image nodes)) (Some k)) 0 ≡ true
      by_origin ih (inl s) = at_root s
      by_origin ih (inr r) =
          let j = number_in nodes r.0 r.1 in
          is_among_children image r.0 w 0 (children_in image r.0.place) r.2 (λ i low high s.
          let kid = child_at j.0 k i r.0 w j.1 e (omega (arith, high)) s in
          let shorter : length r.0.path < m = above (length r.0.path) (length w.path) (ap (λ (v : Visit). length v.path) s ∙ long_path r.0 i) h in
          ap (λ o. is_among (k ∷ climb m (families (tree_of image nodes)) o) 0) (parent_at j.0 k kid) ∙ or_right (k == 0) (is_among (climb m (families (tree_of image nodes)) (Some j.0)) 0) (ih j.0 r.0 j.1 shorter))
        where
          above : (a b : ℕ) → b ≡ a + 1 → b < suc m → a < m
          above a b e h = omega (arith, e, h)

  pub walk_reached : nodes ≡ unroll image 256 (root_visit image) → (k : ℕ) → IsSome (node_at (tree_of image nodes) k) → IsAmong (lineage (tree_of image nodes) k) 0
  unfolding lineage
  walk_reached whole k live = by_visit (slice_get nodes k) refl
    where
      all_short : AllShort 256 nodes
      all_short = subst (AllShort 256) (sym whole) (unroll_short image 256 (root_visit image))

      by_visit : (o : Option Visit) → slice_get nodes k ≡ o → is_among (climb 256 (families (tree_of image nodes)) (Some k)) 0 ≡ true
      by_visit None e = absurd (not_true (sym (ap is_some (node_at-tree_of image nodes k ∙ ap (option_map (node_of_visit image (is_wide image) nodes)) e)) ∙ live))
      by_visit (Some w) e = climbs 256 k w e (short_in 256 nodes w all_short (at_in nodes k w e))
