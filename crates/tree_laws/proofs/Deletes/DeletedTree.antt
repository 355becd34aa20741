-- What a deletion leaves of the tree: serials, lineages, parents, depths, children and other nodes.
use Rattle.std.proofs.Common.{◌≡◌, ◌≢◌, ℕ, zero, suc, ◌+◌, ◌-◌, Bool, true, false, List, [], ◌∷◌, length, get_or, refl, sym, ◌∙◌, ap, subst, arith, inl, inr}
use Rattle.std.specs.Prelude.{Option, Some, None, IsSome, is_some, slice_get, slice_set, if◌then◌else◌, Ok}
use Rattle.std.proofs.Math.ListN.{get_or-map}
use Rattle.std.proofs.lemmas.List.{length-set, get_or-set_other, get_or-set_same}
use Rattle.std.proofs.lemmas.Bool.Decides.{eqb_tells}
use Rattle.adf_format.specs.Tree.{IsAmong, Node, Tree, node_at, children_of, children_at, name_of, name_at, next_serial, is_live, parent_of, parent_from, depth_of, is_within, families, climb, lineage, erased_from, IsTree}
use Rattle.adf_model.specs.declared.error.AdfError.{AdfError}
use Rattle.adf_model.specs.declared.tree.Edit.{Edit}
use Rattle.adf_model.specs.declared.tree.NodeId.{NodeId}
use Rattle.adf_model.specs.Edits.{apply, without, given_children, other_children}
use Rattle.adf_model.proofs.Basics.{not_true, false_of, same_Some, same_Ok, found}
use Rattle.adf_model.proofs.Trees.DifferLemmas.{others, among-others, others-among}
use Rattle.adf_model.proofs.Trees.SubtreeLemmas.{parent_found, parent_none, parent_is, root_has_none, within_child, within_parent}
use Rattle.adf_model.proofs.Trees.AncestorLemmas.{parent_tells, live_with_child, root_or_child, within_itself, root_outside, parent_outside}
use Rattle.adf_model.proofs.Keeping.DeleteKeeps.{some_of, delete_keeps, erased_at, length-erased}
use Rattle.tree_laws.specs.Deletions.{DeletedInItsTree, DeletedAbove}
use Rattle.tree_laws.proofs.Edits.Plans.{parents_by_lineage}
use Rattle.adf_model.proofs.Keeping.Created.{inside_of}

none_either : (b : Bool) → ◌≡◌ {A = Option Node} None (if b then None else None)
none_either true = refl
none_either false = refl

zero_plus : (q : ℕ) → 0 + q ≡ q
zero_plus q = omega arith

abbrev LeavesTree : Tree → ℕ → Tree → Type 0
LeavesTree tree s after =
    (next_serial after ≡ next_serial tree)
    × ((k : ℕ) → is_within tree s k ≡ true → node_at after k ≡ None)
    × ((k : ℕ) → is_live tree k ≡ true → is_within tree s k ≡ false → (is_live after k ≡ true) × (lineage after k ≡ lineage tree k) × (name_at after k ≡ name_at tree k))
    × ((k : ℕ) → parent_of tree s ≢ Some k → is_within tree s k ≡ false → node_at after k ≡ node_at tree k)

abbrev LeavesAbove : Tree → ℕ → ℕ → Tree → Type 0
LeavesAbove tree s from after =
    (is_within tree s from ≡ false) × (is_within tree s 0 ≡ false) × (children_at after from ≡ other_children tree from s)
    × ((k : ℕ) → k ≢ from → is_within tree s k ≡ false → children_at after k ≡ children_at tree k)
    × ((k : ℕ) → is_live tree k ≡ true → is_within tree s k ≡ false → (parent_of after k ≡ parent_of tree k) × (depth_of after k ≡ depth_of tree k))

module _ (tree : Tree) (is : IsTree tree) (s from : ℕ) (parent : Node) (here : node_at tree from ≡ Some parent) (child : IsAmong (children_at tree from) s) where
  abbrev parent_after : Node
  parent_after = record parent { children = others parent.children s }

  abbrev rest : List (Option Node)
  rest = slice_set tree.nodes from (Some parent_after)

  abbrev after : Tree
  after = record tree { nodes = erased_from 0 (is_within tree s) rest }

  gone_at : (q : ℕ) → is_within tree s q ≡ true → node_at after q ≡ None
  gone_at q e = erased_at 0 (is_within tree s) rest q ∙ ap (λ b. if b then None else get_or rest q None) (ap (is_within tree s) (zero_plus q) ∙ e)

  kept_at : (q : ℕ) → is_within tree s q ≡ false → node_at after q ≡ get_or rest q None
  kept_at q e = erased_at 0 (is_within tree s) rest q ∙ ap (λ b. if b then None else get_or rest q None) (ap (is_within tree s) (zero_plus q) ∙ e)

  at_from : get_or rest from None ≡ Some parent_after
  at_from = get_or-set_same tree.nodes from (Some parent_after) None (inside_of tree.nodes from parent here)

  elsewhere : (q : ℕ) → q ≢ from → get_or rest q None ≡ node_at tree q
  elsewhere q differ = get_or-set_other tree.nodes from q (Some parent_after) None differ

  -- what a node that is kept is
  kept : {B : Type 0} (f : Option Node → B) → f (Some parent_after) ≡ f (Some parent) → (q : ℕ) → is_within tree s q ≡ false → f (node_at after q) ≡ f (node_at tree q)
  kept f same q e = elim (eqb_tells q from) [
    | inl k ↦ ap f (kept_at q e ∙ ap (λ i. get_or rest i None) k.1 ∙ at_from) ∙ same ∙ ap f (sym here ∙ ap (node_at tree) (sym k.1))
    | inr k ↦ ap f (kept_at q e ∙ elsewhere q k.1)
  ]

  name_kept : (q : ℕ) → is_within tree s q ≡ false → name_at after q ≡ name_at tree q
  name_kept q e = kept name_of refl q e

  live_kept : (q : ℕ) → is_within tree s q ≡ false → is_some (node_at after q) ≡ is_some (node_at tree q)
  live_kept q e = kept is_some refl q e

  -- a live node is an old one outside the subtree
  outside : (q : ℕ) → IsSome (node_at after q) → is_within tree s q ≡ false
  outside q h = false_of (is_within tree s q) (λ t. not_true (sym (ap is_some (gone_at q t)) ∙ h))

  children_gone : (q : ℕ) → is_within tree s q ≡ true → children_at after q ≡ []
  children_gone q e = ap children_of (gone_at q e)

  children_from : (q : ℕ) → is_within tree s q ≡ false → q ≡ from → children_at after q ≡ others parent.children s
  children_from q e k = ap children_of (kept_at q e ∙ ap (λ i. get_or rest i None) k ∙ at_from)

  children_kept : (q : ℕ) → is_within tree s q ≡ false → q ≢ from → children_at after q ≡ children_at tree q
  children_kept q e k = ap children_of (kept_at q e ∙ elsewhere q k)

  child_of_from : (c : ℕ) → IsAmong parent.children c → IsAmong (children_at tree from) c
  child_of_from c h = subst (λ o. IsAmong (children_of o) c) (sym here) h

  -- each child is an old one, and not the one deleted
  kids : (q c : ℕ) → IsAmong (children_at after q) c → (is_within tree s q ≡ false) × IsAmong (children_at tree q) c × (c ≢ s)
  kids q c h = by_case (is_within tree s q) refl
    where
      by_case : (t : Bool) → is_within tree s q ≡ t → (is_within tree s q ≡ false) × IsAmong (children_at tree q) c × (c ≢ s)
      by_case true e = absurd (not_true (subst (λ xs. IsAmong xs c) (children_gone q e) h))
      by_case false e = elim (eqb_tells q from) [
        | inl k ↦ (let r = others-among parent.children s c (subst (λ xs. IsAmong xs c) (children_from q e k.1) h) in (e, subst (λ i. IsAmong (children_at tree i) c) (sym k.1) (child_of_from c r.0), r.1))
        | inr k ↦ (let r = subst (λ xs. IsAmong xs c) (children_kept q e k.1) h in (e, r, λ same. k.1 (is.one_parent q from s (subst (λ d. IsAmong (children_at tree q) d) same r) child)))
      ]

  -- and each old child of a node that is kept is still one, but for that
  still_child : (q c : ℕ) → is_within tree s q ≡ false → IsAmong (children_at tree q) c → c ≢ s → IsAmong (children_at after q) c
  still_child q c e h differ = elim (eqb_tells q from) [
    | inl k ↦ subst (λ xs. IsAmong xs c) (sym (children_from q e k.1)) (among-others parent.children s c (subst (λ o. IsAmong (children_of o) c) here (subst (λ i. IsAmong (children_at tree i) c) k.1 h)) differ)
    | inr k ↦ subst (λ xs. IsAmong xs c) (sym (children_kept q e k.1)) h
  ]

  child_outside : (q c : ℕ) → is_within tree s q ≡ false → IsAmong (children_at tree q) c → c ≢ s → is_within tree s c ≡ false
  child_outside q c e h differ = false_of (is_within tree s c) (λ t. elim (eqb_tells c s) [ inl k ↦ differ k.1 | inr k ↦ not_true (sym e ∙ within_parent tree is s q c h k.0 t) ])

  not_itself : (q : ℕ) → is_within tree s q ≡ false → q ≢ s
  not_itself q e k = not_true (sym e ∙ ap (is_within tree s) k ∙ within_itself tree is s (let l = is.live from s child in l.0))

  list_after : (i : ℕ) → get_or (families after) i [] ≡ children_at after i
  list_after i = get_or-map children_of after.nodes i None

  -- the parent of a node that is kept
  parent_kept : (j q : ℕ) → IsAmong (children_at tree j) q → is_within tree s q ≡ false → parent_from 0 (families after) q ≡ Some j
  parent_kept j q h e =
      let up : is_within tree s j ≡ false = false_of (is_within tree s j) (λ t. not_true (sym e ∙ within_child tree is s j q h t)) in
      parent_found 0 (families after) q j (subst (λ xs. IsAmong xs q) (sym (list_after j)) (still_child j q up h (not_itself q e)))
      (λ i k. is.one_parent i j q (kids i q (subst (λ xs. IsAmong xs q) (list_after i) k)).1 h)
      ∙ ap Some (zero_plus j)

  root_kept : parent_from 0 (families after) 0 ≡ None
  root_kept = parent_none 0 (families after) 0 (λ i h. let l = is.live i 0 (kids i 0 (subst (λ xs. IsAmong xs 0) (list_after i) h)).1 in absurd (omega (arith, l.1)))

  climb_kept : (m q : ℕ) → IsSome (node_at tree q) → is_within tree s q ≡ false → climb m (families after) (Some q) ≡ climb m (families tree) (Some q)
  climb_kept zero q live e = refl
  climb_kept (suc m) q live e = elim (root_or_child tree is q live) [
    | inl k ↦ ap (λ r. q ∷ r) (ap (λ i. climb m (families after) (parent_from 0 (families after) i)) k ∙ ap (climb m (families after)) root_kept ∙ sym (ap (λ i. climb m (families tree) (parent_of tree i)) k ∙ ap (climb m (families tree)) (root_has_none tree is)))
    | inr k ↦ ap (λ r. q ∷ r) (ap (climb m (families after)) (parent_kept k.0 q k.1 e)
        ∙ climb_kept m k.0 (live_with_child tree k.0 q k.1) (false_of (is_within tree s k.0) (λ t. not_true (sym e ∙ within_child tree is s k.0 q k.1 t)))
        ∙ sym (ap (climb m (families tree)) (parent_is tree is k.0 q k.1)))
  ]

  lineage_kept : (q : ℕ) → IsSome (node_at tree q) → is_within tree s q ≡ false → lineage after q ≡ lineage tree q
  unfolding lineage
  lineage_kept q live e = climb_kept 256 q live e

  pub deleted_left : parent_of tree s ≡ Some from → LeavesTree tree s after
  deleted_left up = (
    length-erased 0 (is_within tree s) rest ∙ length-set tree.nodes from (Some parent_after),
    gone_at,
    λ k live out. (live_kept k out ∙ live, lineage_kept k live out, name_kept k out),
    λ k other out. kept_at k out ∙ elsewhere k (λ same. other (up ∙ ap Some (sym same))),
  )

  pub deleted_above : LeavesAbove tree s from after
  deleted_above =
      let out : is_within tree s from ≡ false = parent_outside tree is from s child in (
        out,
        root_outside tree is from s child,
        children_from from out refl ∙ ap (λ (o : Option Node). others (children_of o) s) (sym here),
        λ k differ out. children_kept k out differ,
        λ k live out.
            let same = lineage_kept k live out in (
              parents_by_lineage after k ∙ ap (λ xs. slice_get xs 1) same ∙ sym (parents_by_lineage tree k),
              ap (λ xs. length xs - 1) same,
            ),
      )

-- the tree after a deletion, in the words of the definitions
pub after_is : (tree after : Tree) (node : NodeId) → IsTree tree → apply tree (Edit.Delete node) ≡ Ok after
    → (from : ℕ) × (parent : Node) × (parent_of tree node.serial ≡ Some from) × (node_at tree from ≡ Some parent) × IsAmong (children_at tree from) node.serial
    × (record tree { nodes = erased_from 0 (is_within tree node.serial) (slice_set tree.nodes from (Some (record parent { children = others parent.children node.serial }))) } ≡ after)
after_is tree after node is e =
    let up = found (parent_of tree node.serial) AdfError.NotAChild (λ from. Ok (without tree from node.serial)) after e in
    let child = parent_tells tree is node.serial up.0 up.1 in
    let parent = some_of (node_at tree up.0) (live_with_child tree up.0 node.serial child) in (
      up.0,
      parent.0,
      up.1,
      parent.1,
      child,
      ap (λ o. record tree { nodes = erased_from 0 (is_within tree node.serial) (slice_set tree.nodes up.0 (given_children (others (children_of o) node.serial) o)) }) (sym parent.1) ∙ same_Ok up.2,
    )

pub deleted_in_its_tree : DeletedInItsTree
deleted_in_its_tree tree after node is e =
    let d = after_is tree after node is e in
    subst (LeavesTree tree node.serial) d.5 (deleted_left tree is node.serial d.0 d.1 d.3 d.4 d.2)

pub deleted_above_it : DeletedAbove
deleted_above_it tree after node from is e up =
    let d = after_is tree after node is e in
    let same : d.0 ≡ from = same_Some d.0 from (sym d.2 ∙ up) in
    let left = subst (λ k. LeavesAbove tree node.serial k after) same (subst (LeavesAbove tree node.serial d.0) d.5 (deleted_above tree is node.serial d.0 d.1 d.3 d.4)) in
    (delete_keeps tree after node is e, left.0, left.1, left.2, left.3, left.4)
