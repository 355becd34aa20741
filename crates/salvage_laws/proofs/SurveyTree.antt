-- The nodes that a survey keeps stand as the nodes of a tree: each but the root is the child of one, and is reached from the root.
use Rattle.std.proofs.Common.{◌≡◌, ◌≢◌, ◌⊎◌, inl, inr, ℕ, zero, suc, refl, sym, ◌∙◌, ap, subst, arith, List, [], ◌∷◌, ◌++◌, length, map, take, get_or, length-append, append_assoc, append-nil, ◌+◌, ◌<◌, ◌≤◌, true}
use Rattle.std.proofs.Math.ListN.{get_or-map}
use Rattle.std.proofs.Math.Seq.{take-append_seam}
use Rattle.std.proofs.lemmas.Bool.Decides.{eqb_tells}
use Rattle.std.specs.Prelude.{Option, Some, None, IsSome, is_some, slice_get, option_map, ◌==◌}
use Rattle.std.specs.List.{filter_map, range_with_len, AllByRecursion}
use Rattle.adf_format.specs.Checks.{Fault, Survey, surveyed, omits, keeps}
use Rattle.adf_format.specs.FirstFault.{Visit, root_visit, child_visits, children_in, visit_rows, is_wide}
use Rattle.adf_format.specs.SoundPart.{visit_number, children_among, node_of_visit, tree_of, last_byte}
use Rattle.adf_format.specs.Tree.{Node, node_at, children_of, children_at, is_among, IsAmong, families, parent_from, climb}
use Rattle.adf_format.proofs.OrderLaws.{InOrder}
use Rattle.adf_format.proofs.PathLaws.{child_of}
use Rattle.adf_format.proofs.Paths.{IsBefore}
use Rattle.adf_format.proofs.TreeLaws.{number_tells, number_of-path, node_at-tree_of}
use Rattle.adf_model.proofs.Basics.{not_true, not_there, same_Some, or_parts, or_right}
use Rattle.adf_model.proofs.Trees.SubtreeLemmas.{parent_found}
use Rattle.adf_model.proofs.Walks.WalkRows.{Passed}
use Rattle.salvage_laws.specs.Surveys.{NodeSurvey, Outcome}
use Rattle.salvage_laws.proofs.SurveyOrder.{kept_in_order}

-- ---- what is kept is reached, and broke no rule

-- it is the root, or a child of one of these nodes
abbrev pub IsReached : List ℕ → List Visit → Visit → Type 0
IsReached image all w = (w ≡ root_visit image) ⊎ ((v : Visit) × (k : ℕ) × (i : ℕ) × (slice_get all k ≡ Some v) × (i < children_in image v.place) × (w ≡ child_of image v i))

at_before : (xs ys : List Visit) (k : ℕ) (x : Visit) → slice_get xs k ≡ Some x → slice_get (xs ++ ys) k ≡ Some x
at_before [] ys k x e = absurd (not_there x e)
at_before (z ∷ zs) ys zero x e = e
at_before (z ∷ zs) ys (suc k) x e = at_before zs ys k x e

at_last : (xs : List Visit) (y : Visit) → slice_get (xs ++ y ∷ []) (length xs) ≡ Some y
at_last [] y = refl
at_last (x ∷ xs) y = at_last xs y

all_append : (P : Visit → Type 0) (xs ys : List Visit) → AllByRecursion P xs → AllByRecursion P ys → AllByRecursion P (xs ++ ys)
all_append P [] ys h k = k
all_append P (x ∷ xs) ys h k = (h.0, all_append P xs ys h.1 k)

all_map : (P Q : Visit → Type 0) (xs : List Visit) → ((x : Visit) → P x → Q x) → AllByRecursion P xs → AllByRecursion Q xs
all_map P Q [] f h = tt
all_map P Q (x ∷ xs) f h = (f x h.0, all_map P Q xs f h.1)

all_at : (P : Visit → Type 0) (xs : List Visit) (k : ℕ) (x : Visit) → AllByRecursion P xs → slice_get xs k ≡ Some x → P x
all_at P [] k x h e = absurd (not_there x e)
all_at P (y ∷ ys) zero x h e = subst P (same_Some y x e) h.0
all_at P (y ∷ ys) (suc k) x h e = all_at P ys k x h.1 e

module _ (image : List ℕ) where
  reached_later : (all more : List Visit) (w : Visit) → IsReached image all w → IsReached image (all ++ more) w
  reached_later all more w (inl e) = inl e
  reached_later all more w (inr r) = inr (r.0, r.1, r.2, at_before all more r.1 r.0 r.3, r.4, r.5)

  kids_reached : (all : List Visit) (v : Visit) (k a n : ℕ) → slice_get all k ≡ Some v → a + n ≤ children_in image v.place → AllByRecursion (IsReached image all) (map (child_of image v) (range_with_len a n))
  kids_reached all v k a zero e le = tt
  kids_reached all v k a (suc n) e le = (inr (v, k, a, e, omega (arith, le), refl), kids_reached all v k (a + 1) n e (omega (arith, le)))

  -- what was kept, and what is to be looked at
  record IsGoing (todo kept : List Visit) : Type 0 where
    reached : AllByRecursion (IsReached image kept) kept
    waits : AllByRecursion (IsReached image kept) todo
    passed : AllByRecursion (Passed image (is_wide image) (last_byte image)) kept

  pub record IsDone (all : List Visit) : Type 0 where
    pub reached : AllByRecursion (IsReached image all) all
    pub passed : AllByRecursion (Passed image (is_wide image) (last_byte image)) all

  goes : {todo kept : List Visit} {left : List (Visit × Fault)} {outcome : Outcome} → Survey (visit_rows image (is_wide image) (last_byte image)) (child_visits image) todo kept left outcome → IsGoing todo kept → IsDone outcome.0
  goes surveyed g = record { reached = g.reached; passed = g.passed }
  goes (omits e s) g = goes s (record { reached = g.reached; waits = g.waits.1; passed = g.passed })
  goes (keeps {item = v} {rest = rest} {kept = kept} e s) g = goes s (record {
    reached = all_append (IsReached image (kept ++ v ∷ [])) kept (v ∷ []) (later kept g.reached) (reached_later kept (v ∷ []) v g.waits.0, tt);
    waits = all_append (IsReached image (kept ++ v ∷ [])) (child_visits image v) rest (kids_reached (kept ++ v ∷ []) v (length kept) 0 (children_in image v.place) (at_last kept v) (omega arith)) (later rest g.waits.1);
    passed = all_append (Passed image (is_wide image) (last_byte image)) kept (v ∷ []) g.passed ((kept, e), tt);
  })
    where
      later : (ws : List Visit) → AllByRecursion (IsReached image kept) ws → AllByRecursion (IsReached image (kept ++ v ∷ [])) ws
      later ws = all_map (IsReached image kept) (IsReached image (kept ++ v ∷ [])) ws (reached_later kept (v ∷ []))

  begins : {todo kept : List Visit} {left : List (Visit × Fault)} {outcome : Outcome} → Survey (visit_rows image (is_wide image) (last_byte image)) (child_visits image) todo kept left outcome → (rest : List Visit) × (outcome.0 ≡ kept ++ rest)
  begins (surveyed {kept = kept}) = ([], sym (append-nil kept))
  begins (omits e s) = begins s
  begins (keeps {item = v} {kept = kept} e s) = let r = begins s in (v ∷ r.0, r.1 ∙ append_assoc kept (v ∷ []) r.0)

  first_kept : {v : Visit} {outcome : Outcome} → Survey (visit_rows image (is_wide image) (last_byte image)) (child_visits image) (v ∷ []) [] [] outcome → 0 < length outcome.0 → slice_get outcome.0 0 ≡ Some v
  first_kept (omits e surveyed) some = absurd (omega (arith, some))
  first_kept (keeps {item = v} e s) some = let r = begins s in ap (λ xs. slice_get xs 0) r.1

-- Nodes in tree order, the root first, each other one a child of one of them; each broke no rule beside those before it.
pub record IsSurveyed (image : List ℕ) (nodes : List Visit) : Type 0 where
  pub ordered : InOrder IsBefore nodes
  pub root : slice_get nodes 0 ≡ Some (root_visit image)
  pub reached : (k : ℕ) (w : Visit) → slice_get nodes k ≡ Some w → IsReached image nodes w
  pub passed : (k : ℕ) (w : Visit) → slice_get nodes k ≡ Some w → Passed image (is_wide image) (last_byte image) w

pub is_surveyed : (image : List ℕ) (kept : List Visit) (left : List (Visit × Fault)) → NodeSurvey image (kept, left) → 0 < length kept → IsSurveyed image kept
is_surveyed image kept left s some =
    let done = goes image s (record { reached = tt; waits = (inl refl, tt); passed = tt }) in
    record {
      ordered = kept_in_order image kept left s;
      root = first_kept image s some;
      reached = λ k w e. all_at (IsReached image kept) kept k w done.reached e;
      passed = λ k w e. all_at (Passed image (is_wide image) (last_byte image)) kept k w done.passed e;
    }

-- ---- lists of numbers

-- what stands in the list that a partial function makes
among_filter : (g : ℕ → Option ℕ) (a m c : ℕ) → IsAmong (filter_map g (range_with_len a m)) c → (i : ℕ) × (a ≤ i) × (i < a + m) × (g i ≡ Some c)
among_filter g a zero c h = absurd (not_true h)
among_filter g a (suc m) c h = by_first (g a) refl h (among_filter g (a + 1) m c)
  where
    further : (i : ℕ) × (a + 1 ≤ i) × (i < a + 1 + m) × (g i ≡ Some c) → (i : ℕ) × (a ≤ i) × (i < a + suc m) × (g i ≡ Some c)
    further r = let low = r.1 in let high = r.2 in (r.0, omega (arith, low), omega (arith, high), r.3)

    by_first : (o : Option ℕ) → g a ≡ o → is_among (filter_map g (range_with_len a (suc m))) c ≡ true → (IsAmong (filter_map g (range_with_len (a + 1) m)) c → (i : ℕ) × (a + 1 ≤ i) × (i < a + 1 + m) × (g i ≡ Some c)) → (i : ℕ) × (a ≤ i) × (i < a + suc m) × (g i ≡ Some c)
    by_first None e h ih = let later : is_among (filter_map g (range_with_len (a + 1) m)) c ≡ true = rw e at h in further (ih later)
    by_first (Some k) e h ih =
        let split : is_among (k ∷ filter_map g (range_with_len (a + 1) m)) c ≡ true = rw e at h in
        elim (or_parts (k == c) (is_among (filter_map g (range_with_len (a + 1) m)) c) split) [
          | inl t ↦ elim (eqb_tells k c) [ inl s ↦ (a, omega arith, omega arith, e ∙ ap Some s.1) | inr s ↦ absurd (not_true (sym s.0 ∙ t)) ]
          | inr t ↦ further (ih t)
        ]

filter_among : (g : ℕ → Option ℕ) (a m i c : ℕ) → a ≤ i → i < a + m → g i ≡ Some c → IsAmong (filter_map g (range_with_len a m)) c
filter_among g a zero i c low high e = absurd (omega (arith, low, high))
filter_among g a (suc m) i c low high e = elim (eqb_tells i a) [
  | inl s ↦ here (g a) refl (ap g (sym s.1) ∙ e)
  | inr s ↦ later (g a) refl (filter_among g (a + 1) m i c (above s.1) (omega (arith, high)) e)
]
  where
    above : i ≢ a → a + 1 ≤ i
    above differ = elim (eqb_tells i a) [ inl s ↦ absurd (differ s.1) | inr s ↦ grind (arith, low, differ) ]

    here : (o : Option ℕ) → g a ≡ o → g a ≡ Some c → IsAmong (filter_map g (range_with_len a (suc m))) c
    here o f e = rw e (elim (eqb_tells c c) [ inl s ↦ ap (λ b. b) (first s.0) | inr s ↦ absurd (s.1 refl) ])
      where
        first : (c == c) ≡ true → is_among (c ∷ filter_map g (range_with_len (a + 1) m)) c ≡ true
        first t = rw t refl

    later : (o : Option ℕ) → g a ≡ o → IsAmong (filter_map g (range_with_len (a + 1) m)) c → IsAmong (filter_map g (range_with_len a (suc m))) c
    later None f h = rw f h
    later (Some k) f h = rw f (or_right (k == c) (is_among (filter_map g (range_with_len (a + 1) m)) c) h)

-- ---- paths that end alike

pub path_before : (p q : List ℕ) (i j : ℕ) → p ++ i ∷ [] ≡ q ++ j ∷ [] → p ≡ q
path_before p q i j e =
    let lengths : length p ≡ length q = equal (length p) (length q) (sym (length-append p (i ∷ [])) ∙ ap length e ∙ length-append q (j ∷ [])) in
    sym (take-append_seam p (i ∷ [])) ∙ ap (take (length p)) e ∙ ap (λ n. take n (q ++ j ∷ [])) lengths ∙ take-append_seam q (j ∷ [])
  where
    equal : (a b : ℕ) → a + 1 ≡ b + 1 → a ≡ b
    equal a b e = omega (arith, e)

pub last_same : (p : List ℕ) (i j : ℕ) → p ++ i ∷ [] ≡ p ++ j ∷ [] → i ≡ j
last_same [] i j e = ap (λ (l : List ℕ). get_or l 0 i) e
last_same (a ∷ p) i j e = last_same p i j (ap tail e)
  where
    tail : List ℕ → List ℕ
    tail [] = []
    tail (x ∷ xs) = xs

-- ---- the tree of the nodes

module _ (image : List ℕ) (nodes : List Visit) (s : IsSurveyed image nodes) where
  long_path : (v : Visit) (i : ℕ) → length (child_of image v i).path ≡ length v.path + 1
  long_path v i = length-append v.path (i ∷ [])

  -- one whose path ends as that of a child is that child
  pub child_there : (k i c : ℕ) (v : Visit) → slice_get nodes k ≡ Some v → visit_number nodes (v.path ++ i ∷ []) ≡ Some c → (i < children_in image v.place) × (slice_get nodes c ≡ Some (child_of image v i))
  child_there k i c v e number =
      let w = number_tells nodes (v.path ++ i ∷ []) c number in
      by_origin w.0 w.1 w.2 (s.reached c w.0 w.1)
    where
      by_origin : (w : Visit) → slice_get nodes c ≡ Some w → w.path ≡ v.path ++ i ∷ [] → IsReached image nodes w → (i < children_in image v.place) × (slice_get nodes c ≡ Some (child_of image v i))
      by_origin w at path (inl root) = absurd (let none : 0 ≡ length w.path = sym (ap (λ (u : Visit). length u.path) root) in let long = ap length path ∙ length-append v.path (i ∷ []) in omega (arith, none, long))
      by_origin w at path (inr r) =
          let both : r.0.path ++ r.2 ∷ [] ≡ v.path ++ i ∷ [] = sym (ap (λ (u : Visit). u.path) r.5) ∙ path in
          let same_path : r.0.path ≡ v.path = path_before r.0.path v.path r.2 i both in
          let same_place : r.2 ≡ i = last_same v.path r.2 i (ap (λ (p : List ℕ). p ++ r.2 ∷ []) (sym same_path) ∙ both) in
          let number_is : r.1 ≡ k = same_Some r.1 k (sym (number_of-path nodes r.1 r.0 s.ordered r.3) ∙ ap (visit_number nodes) same_path ∙ number_of-path nodes k v s.ordered e) in
          let same : r.0 ≡ v = same_Some r.0 v (sym r.3 ∙ ap (slice_get nodes) number_is ∙ e) in (
            subst (λ (j : ℕ). j < children_in image v.place) same_place (subst (λ (u : Visit). r.2 < children_in image u.place) same r.4),
            at ∙ ap Some (r.5 ∙ ap (λ (u : Visit). child_of image u r.2) same ∙ ap (child_of image v) same_place),
          )

  -- a node with a child is a visit, and the child is one that it leads to
  pub child_tells : {P : Type 0} (k c : ℕ) → IsAmong (children_at (tree_of image nodes) k) c → ((v : Visit) (i : ℕ) → slice_get nodes k ≡ Some v → i < children_in image v.place → slice_get nodes c ≡ Some (child_of image v i) → P) → P
  child_tells {P = P} k c h next = by_visit (slice_get nodes k) refl
    where
      by_visit : (o : Option Visit) → slice_get nodes k ≡ o → P
      by_visit None e = absurd (not_true (subst (λ (o : Option Node). IsAmong (children_of o) c) (node_at-tree_of image nodes k ∙ ap (option_map (node_of_visit image (is_wide image) nodes)) e) h))
      by_visit (Some v) e =
          let among : IsAmong (children_among image nodes v) c = subst (λ (o : Option Node). IsAmong (children_of o) c) (node_at-tree_of image nodes k ∙ ap (option_map (node_of_visit image (is_wide image) nodes)) e) h in
          let i = among_filter (λ i. visit_number nodes (v.path ++ i ∷ [])) 0 (children_in image v.place) c among in
          let there = child_there k i.0 c v e i.3 in
          next v i.0 e there.0 there.1

  live_at : (k : ℕ) (v : Visit) → slice_get nodes k ≡ Some v → IsSome (node_at (tree_of image nodes) k)
  live_at k v e = ap is_some (node_at-tree_of image nodes k ∙ ap (option_map (node_of_visit image (is_wide image) nodes)) e)

  pub kept_root : IsSome (node_at (tree_of image nodes) 0)
  kept_root = live_at 0 (root_visit image) s.root

  -- each child is live and not the root
  pub kept_live : (k c : ℕ) → IsAmong (children_at (tree_of image nodes) k) c → IsSome (node_at (tree_of image nodes) c) × (0 < c)
  kept_live k c h = child_tells k c h (λ v i e inside at. (live_at c (child_of image v i) at, not_root c v i at))
    where
      not_root : (c : ℕ) (v : Visit) (i : ℕ) → slice_get nodes c ≡ Some (child_of image v i) → 0 < c
      not_root zero v i at =
          let l : 0 ≡ length (child_of image v i).path = ap (λ (w : Visit). length w.path) (same_Some (root_visit image) (child_of image v i) (sym s.root ∙ at)) in
          let more = long_path v i in
          absurd (omega (arith, l, more))
      not_root (suc c) v i at = omega arith

  -- and the child of one node alone
  pub kept_one_parent : (one other c : ℕ) → IsAmong (children_at (tree_of image nodes) one) c → IsAmong (children_at (tree_of image nodes) other) c → one ≡ other
  kept_one_parent one other c h k = child_tells one c h (λ v i e inside at. child_tells other c k (λ w j f within there.
      let same : child_of image v i ≡ child_of image w j = same_Some (child_of image v i) (child_of image w j) (sym at ∙ there) in
      let path : v.path ≡ w.path = path_before v.path w.path i j (ap (λ (u : Visit). u.path) same) in
      same_Some one other (sym (number_of-path nodes one v s.ordered e) ∙ ap (visit_number nodes) path ∙ number_of-path nodes other w s.ordered f)))

  list_at : (i : ℕ) → get_or (families (tree_of image nodes)) i [] ≡ children_at (tree_of image nodes) i
  list_at i = get_or-map children_of (tree_of image nodes).nodes i None

  parent_at : (j k : ℕ) → IsAmong (children_at (tree_of image nodes) j) k → parent_from 0 (families (tree_of image nodes)) k ≡ Some j
  parent_at j k h =
      parent_found 0 (families (tree_of image nodes)) k j (subst (λ xs. IsAmong xs k) (sym (list_at j)) h) (λ i m. kept_one_parent i j k (subst (λ xs. IsAmong xs k) (list_at i) m) h)
      ∙ ap Some (zero_first j)
    where
      zero_first : (j : ℕ) → 0 + j ≡ j
      zero_first j = omega arith

  -- the visit that leads to another is its parent
  pub child_at : (j k i : ℕ) (u w : Visit) → slice_get nodes j ≡ Some u → slice_get nodes k ≡ Some w → i < children_in image u.place → w ≡ child_of image u i → IsAmong (children_at (tree_of image nodes) j) k
  child_at j k i u w e f inside is =
      let number : visit_number nodes (u.path ++ i ∷ []) ≡ Some k = ap (λ (v : Visit). visit_number nodes v.path) (sym is) ∙ number_of-path nodes k w s.ordered f in
      subst (λ (o : Option Node). IsAmong (children_of o) k) (sym (node_at-tree_of image nodes j ∙ ap (option_map (node_of_visit image (is_wide image) nodes)) e))
      (filter_among (λ i. visit_number nodes (u.path ++ i ∷ [])) 0 (children_in image u.place) i k (omega arith) (omega (arith, inside)) number)

  -- above each visit stands the root
  pub climbs : (m k : ℕ) (w : Visit) → slice_get nodes k ≡ Some w → length w.path < m → is_among (climb m (families (tree_of image nodes)) (Some k)) 0 ≡ true
  climbs zero k w e h = absurd (omega (arith, h))
  climbs (suc m) k w e h = by_origin (climbs m) (s.reached k w e)
    where
      at_root : w ≡ root_visit image → is_among (climb (suc m) (families (tree_of image nodes)) (Some k)) 0 ≡ true
      at_root is =
          let first : visit_number nodes [] ≡ Some k = ap (λ (v : Visit). visit_number nodes v.path) (sym is) ∙ number_of-path nodes k w s.ordered e in
          let zero_is : k ≡ 0 = same_Some k 0 (sym first ∙ number_of-path nodes 0 (root_visit image) s.ordered s.root) in
          elim (eqb_tells k 0) [ inl t ↦ rw (t.0) refl | inr t ↦ absurd (t.1 zero_is) ]

      by_origin : ((k : ℕ) (w : Visit) → slice_get nodes k ≡ Some w → length w.path < m → is_among (climb m (families (tree_of image nodes)) (Some k)) 0 ≡ true) → IsReached image nodes w → is_among (climb (suc m) (families (tree_of image nodes)) (Some k)) 0 ≡ true
      by_origin ih (inl is) = at_root is
      by_origin ih (inr r) =
          let kid = child_at r.1 k r.2 r.0 w r.3 e r.4 r.5 in
          let shorter : length r.0.path < m = (let l = ap (λ (v : Visit). length v.path) r.5 ∙ long_path r.0 r.2 in omega (arith, l, h)) in
          ap (λ o. is_among (k ∷ climb m (families (tree_of image nodes)) o) 0) (parent_at r.1 k kid) ∙ or_right (k == 0) (is_among (climb m (families (tree_of image nodes)) (Some r.1)) 0) (ih r.1 r.0 r.3 shorter)
