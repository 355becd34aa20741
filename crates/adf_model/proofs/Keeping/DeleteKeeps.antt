-- An edit that deletes a node, with all below it, keeps a tree sound.
use Rattle.std.proofs.Common.{◌≡◌, ◌≢◌, ℕ, zero, suc, ◌+◌, ◌^◌, ◌<◌, ◌≤◌, Bool, true, false, List, [], ◌∷◌, length, map, get_or, refl, sym, ◌∙◌, ap, subst, arith, inl, inr}
use Rattle.std.specs.Prelude.{Option, Some, None, IsSome, is_some, slice_set, if◌then◌else◌, Ok}
use Rattle.std.proofs.Math.ListN.{get_or-map}
use Rattle.std.proofs.lemmas.List.{length-set, get_or-set_other, get_or-set_same}
use Rattle.std.proofs.lemmas.Bool.Decides.{eqb_tells}
use Rattle.adf_format.specs.Tree.{IsAmong, Node, Tree, node_at, children_of, children_at, name_of, name_at, parent_of, parent_from, is_within, families, climb, lineage, erased_from, AllDiffer, IsNode, IsTree}
use Rattle.adf_model.specs.declared.error.AdfError.{AdfError}
use Rattle.adf_model.specs.declared.tree.Edit.{Edit}
use Rattle.adf_model.specs.declared.tree.NodeId.{NodeId}
use Rattle.adf_model.specs.Edits.{apply, without, given_children}
use Rattle.adf_model.proofs.Basics.{not_true, false_of, same_Some, same_Ok, found}
use Rattle.adf_model.proofs.Trees.DifferLemmas.{others, AllDiffer-others, length-others, map_agree, among-others, others-among}
use Rattle.adf_model.proofs.Trees.SubtreeLemmas.{parent_found, parent_none, parent_is, root_has_none, within_child, within_parent}
use Rattle.adf_model.proofs.Trees.AncestorLemmas.{parent_tells, live_with_child, root_or_child, within_itself, root_outside}
use Rattle.adf_model.proofs.Keeping.Created.{inside_of}

none_either : (b : Bool) → ◌≡◌ {A = Option Node} None (if b then None else None)
none_either true = refl
none_either false = refl

pub erased_at : (k : ℕ) (gone : ℕ → Bool) (nodes : List (Option Node)) (q : ℕ) → get_or (erased_from k gone nodes) q None ≡ (if gone (k + q) then None else get_or nodes q None)
erased_at k gone [] q = none_either (gone (k + q))
erased_at k gone (x ∷ nodes) zero = ap (λ i. if gone i then None else x) (same k)
  where
    same : (k : ℕ) → k ≡ k + 0
    same k = omega arith
erased_at k gone (x ∷ nodes) (suc q) = erased_at (suc k) gone nodes q ∙ ap (λ i. if gone i then None else get_or nodes q None) (same k q)
  where
    same : (k q : ℕ) → suc k + q ≡ k + suc q
    same k q = omega arith

pub length-erased : (k : ℕ) (gone : ℕ → Bool) (nodes : List (Option Node)) → length (erased_from k gone nodes) ≡ length nodes
length-erased k gone [] = refl
length-erased k gone (x ∷ nodes) = ap suc (length-erased (suc k) gone nodes)

pub some_of : {A : Type 0} (o : Option A) → IsSome o → (a : A) × (o ≡ Some a)
some_of None h = absurd (not_true h)
some_of (Some a) h = (a, refl)

zero_plus : (q : ℕ) → 0 + q ≡ q
zero_plus q = omega arith

module _ (tree : Tree) (is : IsTree tree) (s from : ℕ) (parent : Node) (here : node_at tree from ≡ Some parent) (child : IsAmong (children_at tree from) s) where
  abbrev pub parent_after : Node
  parent_after = record parent { children = others parent.children s }

  abbrev rest : List (Option Node)
  rest = slice_set tree.nodes from (Some parent_after)

  abbrev pub after : Tree
  after = record tree { nodes = erased_from 0 (is_within tree s) rest }

  pub gone_at : (q : ℕ) → is_within tree s q ≡ true → node_at after q ≡ None
  gone_at q e = erased_at 0 (is_within tree s) rest q ∙ ap (λ b. if b then None else get_or rest q None) (ap (is_within tree s) (zero_plus q) ∙ e)

  pub kept_at : (q : ℕ) → is_within tree s q ≡ false → node_at after q ≡ get_or rest q None
  kept_at q e = erased_at 0 (is_within tree s) rest q ∙ ap (λ b. if b then None else get_or rest q None) (ap (is_within tree s) (zero_plus q) ∙ e)

  pub at_from : get_or rest from None ≡ Some parent_after
  at_from = get_or-set_same tree.nodes from (Some parent_after) None (inside_of tree.nodes from parent here)

  pub elsewhere : (q : ℕ) → q ≢ from → get_or rest q None ≡ node_at tree q
  elsewhere q differ = get_or-set_other tree.nodes from q (Some parent_after) None differ

  -- what a node that is kept is
  pub kept : {B : Type 0} (f : Option Node → B) → f (Some parent_after) ≡ f (Some parent) → (q : ℕ) → is_within tree s q ≡ false → f (node_at after q) ≡ f (node_at tree q)
  kept f same q e = elim (eqb_tells q from) [
    | inl k ↦ ap f (kept_at q e ∙ ap (λ i. get_or rest i None) k.1 ∙ at_from) ∙ same ∙ ap f (sym here ∙ ap (node_at tree) (sym k.1))
    | inr k ↦ ap f (kept_at q e ∙ elsewhere q k.1)
  ]

  pub name_kept : (q : ℕ) → is_within tree s q ≡ false → name_at after q ≡ name_at tree q
  name_kept q e = kept name_of refl q e

  pub live_kept : (q : ℕ) → is_within tree s q ≡ false → is_some (node_at after q) ≡ is_some (node_at tree q)
  live_kept q e = kept is_some refl q e

  -- a live node is an old one outside the subtree
  pub outside : (q : ℕ) → IsSome (node_at after q) → is_within tree s q ≡ false
  outside q h = false_of (is_within tree s q) (λ t. not_true (sym (ap is_some (gone_at q t)) ∙ h))

  pub children_gone : (q : ℕ) → is_within tree s q ≡ true → children_at after q ≡ []
  children_gone q e = ap children_of (gone_at q e)

  pub children_from : (q : ℕ) → is_within tree s q ≡ false → q ≡ from → children_at after q ≡ others parent.children s
  children_from q e k = ap children_of (kept_at q e ∙ ap (λ i. get_or rest i None) k ∙ at_from)

  pub children_kept : (q : ℕ) → is_within tree s q ≡ false → q ≢ from → children_at after q ≡ children_at tree q
  children_kept q e k = ap children_of (kept_at q e ∙ elsewhere q k)

  pub child_of_from : (c : ℕ) → IsAmong parent.children c → IsAmong (children_at tree from) c
  child_of_from c h = subst (λ o. IsAmong (children_of o) c) (sym here) h

  -- each child is an old one, and not the one deleted
  pub kids : (q c : ℕ) → IsAmong (children_at after q) c → (is_within tree s q ≡ false) × IsAmong (children_at tree q) c × (c ≢ s)
  kids q c h = by_case (is_within tree s q) refl
    where
      by_case : (t : Bool) → is_within tree s q ≡ t → (is_within tree s q ≡ false) × IsAmong (children_at tree q) c × (c ≢ s)
      by_case true e = absurd (not_true (subst (λ xs. IsAmong xs c) (children_gone q e) h))
      by_case false e = elim (eqb_tells q from) [
        | inl k ↦ (let r = others-among parent.children s c (subst (λ xs. IsAmong xs c) (children_from q e k.1) h) in (e, subst (λ i. IsAmong (children_at tree i) c) (sym k.1) (child_of_from c r.0), r.1))
        | inr k ↦ (let r = subst (λ xs. IsAmong xs c) (children_kept q e k.1) h in (e, r, λ same. k.1 (is.one_parent q from s (subst (λ d. IsAmong (children_at tree q) d) same r) child)))
      ]

  -- and each old child of a node that is kept is still one, but for that
  pub still_child : (q c : ℕ) → is_within tree s q ≡ false → IsAmong (children_at tree q) c → c ≢ s → IsAmong (children_at after q) c
  still_child q c e h differ = elim (eqb_tells q from) [
    | inl k ↦ subst (λ xs. IsAmong xs c) (sym (children_from q e k.1)) (among-others parent.children s c (subst (λ o. IsAmong (children_of o) c) here (subst (λ i. IsAmong (children_at tree i) c) k.1 h)) differ)
    | inr k ↦ subst (λ xs. IsAmong xs c) (sym (children_kept q e k.1)) h
  ]

  pub child_outside : (q c : ℕ) → is_within tree s q ≡ false → IsAmong (children_at tree q) c → c ≢ s → is_within tree s c ≡ false
  child_outside q c e h differ = false_of (is_within tree s c) (λ t. elim (eqb_tells c s) [ inl k ↦ differ k.1 | inr k ↦ not_true (sym e ∙ within_parent tree is s q c h k.0 t) ])

  pub not_itself : (q : ℕ) → is_within tree s q ≡ false → q ≢ s
  not_itself q e k = not_true (sym e ∙ ap (is_within tree s) k ∙ within_itself tree is s (let l = is.live from s child in l.0))

  live_after : (q c : ℕ) → IsAmong (children_at after q) c → IsSome (node_at after c) × (0 < c)
  live_after q c h =
      let k = kids q c h in
      let l = is.live q c k.1 in
      (live_kept c (child_outside q c k.0 k.1 k.2) ∙ l.0, l.1)

  one_after : (a b c : ℕ) → IsAmong (children_at after a) c → IsAmong (children_at after b) c → a ≡ b
  one_after a b c h k = is.one_parent a b c (kids a c h).1 (kids b c k).1

  each_after : (q : ℕ) (m : Node) → node_at after q ≡ Some m → IsNode tree.wide m
  each_after q m e =
      let out = outside q (ap is_some e) in
      elim (eqb_tells q from) [
        | inl k ↦ subst (IsNode tree.wide) (same_Some parent_after m (sym (kept_at q out ∙ ap (λ i. get_or rest i None) k.1 ∙ at_from) ∙ e)) changed
        | inr k ↦ is.each q m (sym (kept_at q out ∙ elsewhere q k.1) ∙ e)
      ]
    where
      changed : IsNode tree.wide parent_after
      changed = let n = is.each from parent here in record {
        named = n.named;
        labelled = n.labelled;
        shaped = n.shaped;
        sized = n.sized;
        empty = n.empty;
        link = λ e. let l = n.link e in record { text = l.text; held = l.held; spelled = l.spelled; short = l.short; sized = l.sized; childless = ap (λ xs. others xs s) l.childless };
      }

  siblings_after : (q : ℕ) → AllDiffer (map (name_at after) (children_at after q))
  siblings_after q = by_case (is_within tree s q) refl
    where
      agree : (xs : List ℕ) → is_within tree s q ≡ false → ((c : ℕ) → IsAmong xs c → IsAmong (children_at tree q) c × (c ≢ s)) → map (name_at tree) xs ≡ map (name_at after) xs
      agree xs e inside = map_agree xs (name_at tree) (name_at after) (λ c h. sym (name_kept c (child_outside q c e (inside c h).0 (inside c h).1)))

      by_case : (t : Bool) → is_within tree s q ≡ t → AllDiffer (map (name_at after) (children_at after q))
      by_case true e = subst (λ xs. AllDiffer (map (name_at after) xs)) (sym (children_gone q e)) tt
      by_case false e = elim (eqb_tells q from) [
        | inl k ↦ subst (λ xs. AllDiffer (map (name_at after) xs)) (sym (children_from q e k.1))
            (subst AllDiffer (agree (others parent.children s) e (λ c h. let r = others-among parent.children s c h in (subst (λ i. IsAmong (children_at tree i) c) (sym k.1) (child_of_from c r.0), r.1)))
            (AllDiffer-others parent.children s (name_at tree) (subst (λ o. AllDiffer (map (name_at tree) (children_of o))) here (is.siblings from))))
        | inr k ↦ subst (λ xs. AllDiffer (map (name_at after) xs)) (sym (children_kept q e k.1))
            (subst AllDiffer (agree (children_at tree q) e (λ c h. (h, λ same. k.1 (is.one_parent q from s (subst (λ d. IsAmong (children_at tree q) d) same h) child)))) (is.siblings q))
      ]

  width_after : (q : ℕ) → length (children_at after q) ≤ 2 ^ 20
  width_after q = by_case (is_within tree s q) refl
    where
      by_case : (t : Bool) → is_within tree s q ≡ t → length (children_at after q) ≤ 2 ^ 20
      by_case true e = subst (λ xs. length xs ≤ 2 ^ 20) (sym (children_gone q e)) (omega arith)
      by_case false e = elim (eqb_tells q from) [
        | inl k ↦ subst (λ xs. length xs ≤ 2 ^ 20) (sym (children_from q e k.1)) (let a = length-others parent.children s in let b : length parent.children ≤ 2 ^ 20 = subst (λ o. length (children_of o) ≤ 2 ^ 20) here (is.width from) in omega (arith, a, b))
        | inr k ↦ subst (λ xs. length xs ≤ 2 ^ 20) (sym (children_kept q e k.1)) (is.width q)
      ]

  pub list_after : (i : ℕ) → get_or (families after) i [] ≡ children_at after i
  list_after i = get_or-map children_of after.nodes i None

  -- the parent of a node that is kept
  pub parent_kept : (j q : ℕ) → IsAmong (children_at tree j) q → is_within tree s q ≡ false → parent_from 0 (families after) q ≡ Some j
  parent_kept j q h e =
      let up : is_within tree s j ≡ false = false_of (is_within tree s j) (λ t. not_true (sym e ∙ within_child tree is s j q h t)) in
      parent_found 0 (families after) q j (subst (λ xs. IsAmong xs q) (sym (list_after j)) (still_child j q up h (not_itself q e)))
      (λ i k. is.one_parent i j q (kids i q (subst (λ xs. IsAmong xs q) (list_after i) k)).1 h)
      ∙ ap Some (zero_plus j)

  pub root_kept : parent_from 0 (families after) 0 ≡ None
  root_kept = parent_none 0 (families after) 0 (λ i h. let l = is.live i 0 (kids i 0 (subst (λ xs. IsAmong xs 0) (list_after i) h)).1 in absurd (omega (arith, l.1)))

  pub climb_kept : (m q : ℕ) → IsSome (node_at tree q) → is_within tree s q ≡ false → climb m (families after) (Some q) ≡ climb m (families tree) (Some q)
  climb_kept zero q live e = refl
  climb_kept (suc m) q live e = elim (root_or_child tree is q live) [
    | inl k ↦ ap (λ r. q ∷ r) (ap (λ i. climb m (families after) (parent_from 0 (families after) i)) k ∙ ap (climb m (families after)) root_kept ∙ sym (ap (λ i. climb m (families tree) (parent_of tree i)) k ∙ ap (climb m (families tree)) (root_has_none tree is)))
    | inr k ↦ ap (λ r. q ∷ r) (ap (climb m (families after)) (parent_kept k.0 q k.1 e)
        ∙ climb_kept m k.0 (live_with_child tree k.0 q k.1) (false_of (is_within tree s k.0) (λ t. not_true (sym e ∙ within_child tree is s k.0 q k.1 t)))
        ∙ sym (ap (climb m (families tree)) (parent_is tree is k.0 q k.1)))
  ]

  pub lineage_kept : (q : ℕ) → IsSome (node_at tree q) → is_within tree s q ≡ false → lineage after q ≡ lineage tree q
  unfolding lineage
  lineage_kept q live e = climb_kept 256 q live e

  reached_after : (q : ℕ) → IsSome (node_at after q) → IsAmong (lineage after q) 0
  reached_after q h =
      let e = outside q h in
      let live : IsSome (node_at tree q) = sym (live_kept q e) ∙ h in
      subst (λ xs. IsAmong xs 0) (sym (lineage_kept q live e)) (is.reached q live)

  pub IsTree-deleted : IsTree after
  IsTree-deleted = record {
    root = live_kept 0 (root_outside tree is from s child) ∙ is.root;
    drawn = subst (λ n. n ≤ 2 ^ 48) (sym (length-erased 0 (is_within tree s) rest ∙ length-set tree.nodes from (Some parent_after))) is.drawn;
    each = each_after;
    live = live_after;
    one_parent = one_after;
    siblings = siblings_after;
    width = width_after;
    reached = reached_after;
  }

pub delete_keeps : (tree after : Tree) (node : NodeId) → IsTree tree → apply tree (Edit.Delete node) ≡ Ok after → IsTree after
delete_keeps tree after node is e =
    let up = found (parent_of tree node.serial) AdfError.NotAChild (λ from. Ok (without tree from node.serial)) after e in
    let child = parent_tells tree is node.serial up.0 up.1 in
    let parent = some_of (node_at tree up.0) (live_with_child tree up.0 node.serial child) in
    let sound = IsTree-deleted tree is node.serial up.0 parent.0 parent.1 child in
    subst IsTree (ap (λ o. record tree { nodes = erased_from 0 (is_within tree node.serial) (slice_set tree.nodes up.0 (given_children (others (children_of o) node.serial) o)) }) (sym parent.1) ∙ same_Ok up.2) sound
