-- An edit that moves a node keeps a tree sound.
use Rattle.std.proofs.Common.{◌≡◌, ◌≢◌, ℕ, zero, suc, ◌+◌, ◌-◌, ◌^◌, ◌<◌, ◌≤◌, Bool, true, false, List, [], ◌∷◌, ◌++◌, length, map, get_or, refl, sym, ◌∙◌, ap, subst, arith, ◌⊎◌, inl, inr, length-append}
use Rattle.std.specs.Prelude.{Option, Some, None, IsSome, is_some, slice_set, ◌==◌, nat_lt, if◌then◌else◌, Ok}
use Rattle.std.specs.List.{list_any}
use Rattle.std.proofs.Math.ListN.{get_or-map}
use Rattle.std.proofs.lemmas.List.{length-set, map-append, get_or-set_other, get_or-set_same}
use Rattle.std.proofs.lemmas.Bool.Decides.{eqb_tells}
use Rattle.adf_format.specs.Tree.{IsAmong, is_among, Node, Tree, node_at, children_of, children_at, name_of, name_at, is_link_in, depth_of, parent_of, parent_from, is_within, families, climb, lineage, live_from, subtree, AllDiffer, IsNode, IsTree}
use Rattle.adf_model.specs.declared.error.AdfError.{AdfError}
use Rattle.adf_model.specs.declared.tree.Edit.{Edit}
use Rattle.adf_model.specs.declared.tree.NodeId.{NodeId}
use Rattle.adf_format.specs.Names.{is_lk}
use Rattle.adf_model.specs.Tests.{checked}
use Rattle.adf_model.specs.Edits.{apply, moved, move_tests, has_named, other_children, given_children}
use Rattle.adf_model.proofs.Basics.{not_true, false_of, or_parts, or_right, or_none, among_head, same_Ok, not_le, not_lt, passed, found}
use Rattle.adf_model.proofs.Trees.DifferLemmas.{others, AllDiffer-others, length-others, map_agree, among-others, others-among}
use Rattle.adf_model.proofs.Keeping.Keeps.{at-set, one_changed}
use Rattle.adf_model.proofs.Keeping.Created.{AllDiffer-append, among_split, none_named, inside_of}
use Rattle.adf_model.proofs.Trees.LineageLemmas.{climb-enough, among-append, among-append_same}
use Rattle.adf_model.proofs.Trees.SubtreeLemmas.{parent_found, parent_none, parent_is, root_has_none, lineage_child, within_child, within_parent}
use Rattle.adf_model.proofs.Trees.AncestorLemmas.{parent_tells, live_with_child, root_or_child, above_is_shorter, within_itself, root_outside}
use Rattle.adf_model.proofs.Keeping.DeleteKeeps.{some_of}

-- ---- nodes of a subtree

pub among_live : (k : ℕ) (test : ℕ → Bool) (nodes : List (Option Node)) (q : ℕ) → IsSome (get_or nodes q None) → test (k + q) ≡ true → IsAmong (live_from k test nodes) (k + q)
among_live k test [] q live t = absurd (not_true live)
among_live k test (None ∷ nodes) zero live t = absurd (not_true live)
among_live k test (None ∷ nodes) (suc q) live t = subst (λ i. IsAmong (live_from (suc k) test nodes) i) (same k q) (among_live (suc k) test nodes q live (ap test (same k q) ∙ t))
  where
    same : (k q : ℕ) → suc k + q ≡ k + suc q
    same k q = omega arith
among_live k test (Some node ∷ nodes) zero live t =
    let here : test k ≡ true = ap test (same k) ∙ t in
    rw (here) (subst (λ i. IsAmong (k ∷ live_from (suc k) test nodes) i) (same k) (among_head k (live_from (suc k) test nodes)))
  where
    same : (k : ℕ) → k ≡ k + 0
    same k = omega arith
among_live k test (Some node ∷ nodes) (suc q) live t =
    either (test k) (subst (λ i. IsAmong (live_from (suc k) test nodes) i) (same k q) (among_live (suc k) test nodes q live (ap test (same k q) ∙ t)))
  where
    same : (k q : ℕ) → suc k + q ≡ k + suc q
    same k q = omega arith

    either : (b : Bool) → IsAmong (live_from (suc k) test nodes) (k + suc q) → IsAmong (if b then k ∷ live_from (suc k) test nodes else live_from (suc k) test nodes) (k + suc q)
    either true h = or_right (k == k + suc q) (is_among (live_from (suc k) test nodes) (k + suc q)) h
    either false h = h

-- where no number of a list passes a test, one of them does not
none_passes : (test : ℕ → Bool) (xs : List ℕ) → list_any test xs ≡ false → (c : ℕ) → IsAmong xs c → test c ≡ false
none_passes test [] e c h = absurd (not_true h)
none_passes test (x ∷ xs) e c h =
    let parts = or_none (test x) (list_any test xs) e in
    elim (or_parts (x == c) (is_among xs c) h) [
      | inl t ↦ elim (eqb_tells x c) [ inl k ↦ subst (λ d. test d ≡ false) k.1 parts.0 | inr k ↦ absurd (not_true (sym k.0 ∙ t)) ]
      | inr t ↦ none_passes test xs parts.1 c t
    ]

-- ---- climbs that are long enough

climb_down : (d m : ℕ) (fs : List (List ℕ)) (o : Option ℕ) → length (climb (d + m) fs o) ≤ m → climb m fs o ≡ climb (d + m) fs o
climb_down zero m fs o few = ap (λ i. climb i fs o) (same m)
  where
    same : (m : ℕ) → m ≡ 0 + m
    same m = omega arith
climb_down (suc d) m fs o few =
    let longer : length (climb (suc (d + m)) fs o) ≤ m = subst (λ i. length (climb i fs o) ≤ m) (same d m) few in
    let one : climb (d + m) fs o ≡ climb (suc (d + m)) fs o = climb-enough (d + m) fs o (omega (arith, longer)) in
    climb_down d m fs o (subst (λ xs. length xs ≤ m) (sym one) longer) ∙ one ∙ ap (λ i. climb i fs o) (sym (same d m))
  where
    same : (d m : ℕ) → suc d + m ≡ suc (d + m)
    same d m = omega arith

-- a climb that is no shorter than the lineage is the lineage
pub climb_whole : (tree : Tree) (q m : ℕ) → m ≤ 256 → length (lineage tree q) ≤ m → climb m (families tree) (Some q) ≡ lineage tree q
unfolding lineage
climb_whole tree q m le few =
    let sum : (256 - m) + m ≡ 256 = omega (arith, le) in
    climb_down (256 - m) m (families tree) (Some q) (subst (λ i. length (climb i (families tree) (Some q)) ≤ m) (sym sum) few) ∙ ap (λ i. climb i (families tree) (Some q)) sum

low : (a b c d : ℕ) → (a - 1) + 1 + ((b - 1) - (c - 1)) ≤ 255 → b ≡ d + c → 0 < c → d + 1 + a ≤ 256
low a b c d h e pos = omega (arith, h, e, pos)

module _ (tree : Tree) (is : IsTree tree) (s from to : ℕ) (parent target : Node) (here : node_at tree from ≡ Some parent) (child : IsAmong (children_at tree from) s)
    (there : get_or (slice_set tree.nodes from (Some (record parent { children = others parent.children s }))) to None ≡ Some target) (no_link : is_link_in (node_at tree to) ≡ false)
    (apart : is_within tree s to ≡ false) (new_name : has_named tree (other_children tree to s) (name_at tree s) ≡ false) (room : length (children_at tree to) < 2 ^ 20)
    (high : list_any (λ below. nat_lt 255 (depth_of tree to + 1 + (depth_of tree below - depth_of tree s))) (subtree tree s) ≡ false) where
  abbrev pub parent_after : Node
  parent_after = record parent { children = others parent.children s }

  abbrev rest : List (Option Node)
  rest = slice_set tree.nodes from (Some parent_after)

  abbrev pub target_after : Node
  target_after = record target { children = target.children ++ s ∷ [] }

  abbrev pub after : Tree
  after = record tree { nodes = slice_set rest to (Some target_after) }

  -- what all nodes keep
  same_rest : {B : Type 0} (f : Option Node → B) → f (Some parent_after) ≡ f (Some parent) → (q : ℕ) → f (get_or rest q None) ≡ f (node_at tree q)
  same_rest f e q = at-set f tree.nodes from q (Some parent_after) (e ∙ ap f (sym here))

  same_after : {B : Type 0} (f : Option Node → B) → f (Some parent_after) ≡ f (Some parent) → f (Some target_after) ≡ f (Some target) → (q : ℕ) → f (node_at after q) ≡ f (node_at tree q)
  same_after f e g q = at-set f rest to q (Some target_after) (g ∙ ap f (sym there)) ∙ same_rest f e q

  same_name : (q : ℕ) → name_at after q ≡ name_at tree q
  same_name q = same_after name_of refl refl q

  same_live : (q : ℕ) → is_some (node_at after q) ≡ is_some (node_at tree q)
  same_live q = same_after is_some refl refl q

  target_live : IsSome (node_at tree to)
  target_live = sym (same_rest is_some refl to) ∙ ap is_some there

  -- ---- children

  rest_from : children_of (get_or rest from None) ≡ others parent.children s
  rest_from = ap children_of (get_or-set_same tree.nodes from (Some parent_after) None (inside_of tree.nodes from parent here))

  rest_other : (q : ℕ) → q ≢ from → children_of (get_or rest q None) ≡ children_at tree q
  rest_other q differ = ap children_of (get_or-set_other tree.nodes from q (Some parent_after) None differ)

  at_target : children_at after to ≡ target.children ++ s ∷ []
  at_target = ap children_of (get_or-set_same rest to (Some target_after) None (inside_of rest to target there))

  at_other : (q : ℕ) → q ≢ to → children_at after q ≡ children_of (get_or rest q None)
  at_other q differ = ap children_of (get_or-set_other rest to q (Some target_after) None differ)

  of_target : target.children ≡ children_of (get_or rest to None)
  of_target = sym (ap children_of there)

  -- the children that are left are the old ones but for the node
  rest_tells : (q c : ℕ) → IsAmong (children_of (get_or rest q None)) c → IsAmong (children_at tree q) c × (c ≢ s)
  rest_tells q c h = elim (eqb_tells q from) [
    | inl k ↦ (let r = others-among parent.children s c (subst (λ xs. IsAmong xs c) (ap (λ i. children_of (get_or rest i None)) k.1 ∙ rest_from) h) in
        (subst (λ i. IsAmong (children_at tree i) c) (sym k.1) (subst (λ o. IsAmong (children_of o) c) (sym here) r.0), r.1))
    | inr k ↦ (let r = subst (λ xs. IsAmong xs c) (rest_other q k.1) h in (r, λ same. k.1 (is.one_parent q from s (subst (λ d. IsAmong (children_at tree q) d) same r) child)))
  ]

  rest_has : (q c : ℕ) → IsAmong (children_at tree q) c → c ≢ s → IsAmong (children_of (get_or rest q None)) c
  rest_has q c h differ = elim (eqb_tells q from) [
    | inl k ↦ subst (λ xs. IsAmong xs c) (sym (ap (λ i. children_of (get_or rest i None)) k.1 ∙ rest_from))
        (among-others parent.children s c (subst (λ o. IsAmong (children_of o) c) here (subst (λ i. IsAmong (children_at tree i) c) k.1 h)) differ)
    | inr k ↦ subst (λ xs. IsAmong xs c) (sym (rest_other q k.1)) h
  ]

  kids : (q c : ℕ) → IsAmong (children_at after q) c → (IsAmong (children_at tree q) c × (c ≢ s)) ⊎ ((q ≡ to) × (c ≡ s))
  kids q c h = elim (eqb_tells q to) [
    | inl k ↦ elim (among_split target.children s c (subst (λ xs. IsAmong xs c) (ap (children_at after) k.1 ∙ at_target) h)) [
      | inl t ↦ inl (rest_tells q c (subst (λ i. IsAmong (children_of (get_or rest i None)) c) (sym k.1) (subst (λ xs. IsAmong xs c) of_target t)))
      | inr t ↦ inr (k.1, t)
    ]
    | inr k ↦ inl (rest_tells q c (subst (λ xs. IsAmong xs c) (at_other q k.1) h))
  ]

  still_child : (q c : ℕ) → IsAmong (children_at tree q) c → c ≢ s → IsAmong (children_at after q) c
  still_child q c h differ = elim (eqb_tells q to) [
    | inl k ↦ subst (λ xs. IsAmong xs c) (sym (ap (children_at after) k.1 ∙ at_target))
        (among-append target.children s c differ ∙ ap (λ xs. is_among xs c) of_target ∙ rest_has to c (subst (λ i. IsAmong (children_at tree i) c) k.1 h) differ)
    | inr k ↦ subst (λ xs. IsAmong xs c) (sym (at_other q k.1)) (rest_has q c h differ)
  ]

  new_child : IsAmong (children_at after to) s
  new_child = subst (λ xs. IsAmong xs s) (sym at_target) (among-append_same target.children s)

  one_after : (a b c : ℕ) → IsAmong (children_at after a) c → IsAmong (children_at after b) c → a ≡ b
  one_after a b c h k = elim (kids a c h) [
    | inl u ↦ elim (kids b c k) [ inl v ↦ is.one_parent a b c u.0 v.0 | inr v ↦ absurd (u.1 v.1) ]
    | inr u ↦ elim (kids b c k) [ inl v ↦ absurd (v.1 u.1) | inr v ↦ u.0 ∙ sym v.0 ]
  ]

  live_after : (q c : ℕ) → IsAmong (children_at after q) c → IsSome (node_at after c) × (0 < c)
  live_after q c h = elim (kids q c h) [
    | inl u ↦ (let l = is.live q c u.0 in (same_live c ∙ l.0, l.1))
    | inr u ↦ (let l = is.live from s child in (same_live c ∙ subst (λ d. IsSome (node_at tree d)) (sym u.1) l.0, subst (λ d. 0 < d) (sym u.1) l.1))
  ]

  -- ---- nodes and names

  from_sound : IsNode tree.wide parent_after
  from_sound = let n = is.each from parent here in record {
    named = n.named;
    labelled = n.labelled;
    shaped = n.shaped;
    sized = n.sized;
    empty = n.empty;
    link = λ e. let l = n.link e in record { text = l.text; held = l.held; spelled = l.spelled; short = l.short; sized = l.sized; childless = ap (λ xs. others xs s) l.childless };
  }

  rest_sound : (q : ℕ) (m : Node) → get_or rest q None ≡ Some m → IsNode tree.wide m
  rest_sound q m e = elim (one_changed tree.nodes from q parent_after m e) [ inl h ↦ is.each q m h | inr h ↦ subst (IsNode tree.wide) (sym h) from_sound ]

  target_sound : IsNode tree.wide target_after
  target_sound = let n = rest_sound to target there in record {
    named = n.named;
    labelled = n.labelled;
    shaped = n.shaped;
    sized = n.sized;
    empty = n.empty;
    link = λ e. absurd (not_true (sym (sym (ap is_link_in there) ∙ same_rest is_link_in refl to ∙ no_link) ∙ ap is_lk e));
  }

  each_after : (q : ℕ) (m : Node) → node_at after q ≡ Some m → IsNode tree.wide m
  each_after q m e = elim (one_changed rest to q target_after m e) [ inl h ↦ rest_sound q m h | inr h ↦ subst (IsNode tree.wide) (sym h) target_sound ]

  names_agree : (xs : List ℕ) → map (name_at tree) xs ≡ map (name_at after) xs
  names_agree xs = map_agree xs (name_at tree) (name_at after) (λ c h. sym (same_name c))

  rest_differ : (q : ℕ) → AllDiffer (map (name_at tree) (children_of (get_or rest q None)))
  rest_differ q = elim (eqb_tells q from) [
    | inl k ↦ subst (λ xs. AllDiffer (map (name_at tree) xs)) (sym (ap (λ i. children_of (get_or rest i None)) k.1 ∙ rest_from))
        (AllDiffer-others parent.children s (name_at tree) (subst (λ o. AllDiffer (map (name_at tree) (children_of o))) here (is.siblings from)))
    | inr k ↦ subst (λ xs. AllDiffer (map (name_at tree) xs)) (sym (rest_other q k.1)) (is.siblings q)
  ]

  siblings_after : (q : ℕ) → AllDiffer (map (name_at after) (children_at after q))
  siblings_after q = subst AllDiffer (names_agree (children_at after q)) (elim (eqb_tells q to) [
    | inl k ↦ subst (λ xs. AllDiffer (map (name_at tree) xs)) (sym (ap (children_at after) k.1 ∙ at_target)) (subst AllDiffer (sym (map-append (name_at tree) target.children (s ∷ [])))
        (AllDiffer-append target.children (name_at tree) (name_at tree s) (subst (λ xs. AllDiffer (map (name_at tree) xs)) (sym of_target) (rest_differ to))
        (λ c h. let r = rest_tells to c (subst (λ xs. IsAmong xs c) of_target h) in none_named tree (other_children tree to s) (name_at tree s) new_name c (among-others (children_at tree to) s c r.0 r.1))))
    | inr k ↦ subst (λ xs. AllDiffer (map (name_at tree) xs)) (sym (at_other q k.1)) (rest_differ q)
  ])

  rest_narrow : (q : ℕ) → length (children_of (get_or rest q None)) ≤ length (children_at tree q)
  rest_narrow q = elim (eqb_tells q from) [
    | inl k ↦ subst (λ i. length (children_of (get_or rest i None)) ≤ length (children_at tree i)) (sym k.1) (subst (λ xs. length xs ≤ length (children_at tree from)) (sym rest_from) (subst (λ o. length (others parent.children s) ≤ length (children_of o)) (sym here) (length-others parent.children s)))
    | inr k ↦ (let e : length (children_of (get_or rest q None)) ≡ length (children_at tree q) = ap length (rest_other q k.1) in omega (arith, e))
  ]

  width_after : (q : ℕ) → length (children_at after q) ≤ 2 ^ 20
  width_after q = elim (eqb_tells q to) [
    | inl k ↦ (let a : length (children_at after q) ≡ length (target.children ++ s ∷ []) = ap length (ap (children_at after) k.1 ∙ at_target) in
        let b : length (target.children ++ s ∷ []) ≡ length target.children + 1 = length-append target.children (s ∷ []) in
        let c : length target.children ≡ length (children_of (get_or rest to None)) = ap length of_target in
        let d = rest_narrow to in
        omega (arith, a, b, c, d, room))
    | inr k ↦ (let a : length (children_at after q) ≡ length (children_of (get_or rest q None)) = ap length (at_other q k.1) in let b = rest_narrow q in let c = is.width q in omega (arith, a, b, c))
  ]

  -- ---- who stands above whom

  list_after : (i : ℕ) → get_or (families after) i [] ≡ children_at after i
  list_after i = get_or-map children_of after.nodes i None

  zero_plus : (q : ℕ) → 0 + q ≡ q
  zero_plus q = omega arith

  parent_after_is : (j q : ℕ) → IsAmong (children_at after j) q → parent_from 0 (families after) q ≡ Some j
  parent_after_is j q h =
      parent_found 0 (families after) q j (subst (λ xs. IsAmong xs q) (sym (list_after j)) h) (λ i k. one_after i j q (subst (λ xs. IsAmong xs q) (list_after i) k) h)
      ∙ ap Some (zero_plus j)

  root_kept : parent_from 0 (families after) 0 ≡ None
  root_kept = parent_none 0 (families after) 0 (λ i h. let l = live_after i 0 (subst (λ xs. IsAmong xs 0) (list_after i) h) in absurd (omega (arith, l.1)))

  not_itself : (q : ℕ) → is_within tree s q ≡ false → q ≢ s
  not_itself q e k = not_true (sym e ∙ ap (is_within tree s) k ∙ within_itself tree is s (let l = is.live from s child in l.0))

  -- above a node outside the subtree nothing changes
  climb_kept : (m q : ℕ) → IsSome (node_at tree q) → is_within tree s q ≡ false → climb m (families after) (Some q) ≡ climb m (families tree) (Some q)
  climb_kept zero q live e = refl
  climb_kept (suc m) q live e = elim (root_or_child tree is q live) [
    | inl k ↦ ap (λ r. q ∷ r) (ap (λ i. climb m (families after) (parent_from 0 (families after) i)) k ∙ ap (climb m (families after)) root_kept ∙ sym (ap (λ i. climb m (families tree) (parent_of tree i)) k ∙ ap (climb m (families tree)) (root_has_none tree is)))
    | inr k ↦ ap (λ r. q ∷ r) (ap (climb m (families after)) (parent_after_is k.0 q (still_child k.0 q k.1 (not_itself q e)))
        ∙ climb_kept m k.0 (live_with_child tree k.0 q k.1) (false_of (is_within tree s k.0) (λ t. not_true (sym e ∙ within_child tree is s k.0 q k.1 t)))
        ∙ sym (ap (climb m (families tree)) (parent_is tree is k.0 q k.1)))
  ]

  -- above the target stands the root
  above_target : (m : ℕ) → m ≤ 256 → length (lineage tree to) ≤ m → is_among (climb m (families after) (Some to)) 0 ≡ true
  above_target m le few = ap (λ xs. is_among xs 0) (climb_kept m to target_live apart ∙ climb_whole tree to m le few) ∙ is.reached to target_live

  climb_step : (m q j : ℕ) → IsAmong (children_at after j) q → climb (suc m) (families after) (Some q) ≡ q ∷ climb m (families after) (Some j)
  climb_step m q j h = ap (λ o. q ∷ climb m (families after) o) (parent_after_is j q h)

  -- and so above each node of the subtree, d steps below its top
  above_moved : (d m q : ℕ) → is_within tree s q ≡ true → IsSome (node_at tree q) → length (lineage tree q) ≡ d + length (lineage tree s) → m ≤ 256 → d + 1 + length (lineage tree to) ≤ m → is_among (climb m (families after) (Some q)) 0 ≡ true
  above_moved d zero q inside live e le few = absurd (none d (length (lineage tree to)) few)
    where
      none : (d n : ℕ) → d + 1 + n ≤ 0 → ⊥
      none d n h = omega (arith, h)
  above_moved d (suc m) q inside live e le few = elim (eqb_tells q s) [
    | inl k ↦ ap (λ xs. is_among xs 0) (climb_step m q to (subst (λ i. IsAmong (children_at after to) i) (sym k.1) new_child)) ∙ or_right (q == 0) (is_among (climb m (families after) (Some to)) 0) (above_target m (omega (arith, le)) (omega (arith, few)))
    | inr k ↦ elim (root_or_child tree is q live) [
      | inl r ↦ absurd (not_true (sym (root_outside tree is from s child) ∙ ap (is_within tree s) (sym r) ∙ inside))
      | inr r ↦ (let up : is_within tree s r.0 ≡ true = within_parent tree is s r.0 q r.1 k.0 inside in
          let long : length (lineage tree q) ≡ suc (length (lineage tree r.0)) = ap length (lineage_child tree is r.0 q r.1) in
          let live_up = live_with_child tree r.0 q r.1 in
          let deep = above_is_shorter tree is (length (lineage tree r.0)) r.0 s live_up (omega arith) up in
          ap (λ xs. is_among xs 0) (climb_step m q r.0 (still_child r.0 q r.1 k.1))
          ∙ or_right (q == 0) (is_among (climb m (families after) (Some r.0)) 0) (above_moved (d - 1) m r.0 up live_up (omega (arith, e, long, deep)) (omega (arith, le)) (omega (arith, e, long, deep, few))))
    ]
  ]

  top_long : 0 < length (lineage tree s)
  unfolding lineage
  top_long = omega arith

  reached_after : (q : ℕ) → IsSome (node_at after q) → IsAmong (lineage after q) 0
  unfolding lineage
  reached_after q h = by_case (is_within tree s q) refl
    where
      live : IsSome (node_at tree q)
      live = sym (same_live q) ∙ h

      by_case : (t : Bool) → is_within tree s q ≡ t → IsAmong (climb 256 (families after) (Some q)) 0
      by_case false e = ap (λ xs. is_among xs 0) (climb_kept 256 q live e) ∙ is.reached q live
      by_case true e =
          let deep = above_is_shorter tree is (length (lineage tree q)) q s live (omega arith) e in
          let sum : length (lineage tree q) ≡ (length (lineage tree q) - length (lineage tree s)) + length (lineage tree s) = omega (arith, deep) in
          let met : IsAmong (subtree tree s) q = subst (IsAmong (subtree tree s)) (zero_plus q) (among_live 0 (is_within tree s) tree.nodes q live (ap (is_within tree s) (zero_plus q) ∙ e)) in
          let fits = not_lt _ _ (none_passes (λ below. nat_lt 255 (depth_of tree to + 1 + (depth_of tree below - depth_of tree s))) (subtree tree s) high q met) in
          above_moved (length (lineage tree q) - length (lineage tree s)) 256 q e live sum (omega arith)
          (low (length (lineage tree to)) (length (lineage tree q)) (length (lineage tree s)) (length (lineage tree q) - length (lineage tree s)) fits sum top_long)

  pub IsTree-moved : IsTree after
  IsTree-moved = record {
    root = same_live 0 ∙ is.root;
    drawn = subst (λ n. n ≤ 2 ^ 48) (sym (length-set rest to (Some target_after) ∙ length-set tree.nodes from (Some parent_after))) is.drawn;
    each = each_after;
    live = live_after;
    one_parent = one_after;
    siblings = siblings_after;
    width = width_after;
    reached = reached_after;
  }

-- where the new parent is live and no link
pub move_keeps : (tree after : Tree) (node to : NodeId) → IsTree tree → IsSome (node_at tree to.serial) → is_link_in (node_at tree to.serial) ≡ false → apply tree (Edit.Move node to) ≡ Ok after → IsTree after
move_keeps tree after node to is live no_link e =
    let up = found (parent_of tree node.serial) AdfError.NotAChild (λ from. checked (move_tests tree node.serial to.serial) (Ok (moved tree from to.serial node.serial))) after e in
    let from = up.0 in
    let all = passed (move_tests tree node.serial to.serial) (Ok (moved tree from to.serial node.serial)) after up.2 in
    let none = all.0 in
    let child = parent_tells tree is node.serial from up.1 in
    let parent = some_of (node_at tree from) (live_with_child tree from node.serial child) in
    let kids = others parent.0.children node.serial in
    let at_rest = slice_set tree.nodes from (Some (record parent.0 { children = kids })) in
    let still : is_some (get_or at_rest to.serial None) ≡ true = at-set is_some tree.nodes from to.serial (Some (record parent.0 { children = kids })) (ap is_some (sym parent.1)) ∙ live in
    let target = some_of (get_or at_rest to.serial None) still in
    let sound = IsTree-moved tree is node.serial from to.serial parent.0 target.0 parent.1 child target.1 no_link none.0 none.1.0 (not_le _ _ none.1.1.0) none.1.1.1.0 in
    subst IsTree (ap (λ o. record tree { nodes = slice_set at_rest to.serial (given_children (children_of o ++ node.serial ∷ []) o) }) (sym target.1)
    ∙ ap (λ o. let one = slice_set tree.nodes from (given_children (others (children_of o) node.serial) o) in record tree { nodes = slice_set one to.serial (given_children (children_of (get_or one to.serial None) ++ node.serial ∷ []) (get_or one to.serial None)) }) (sym parent.1)
    ∙ same_Ok all.1) sound
