-- From each node of a listed tree its parents lead up to the root.
use Rattle.std.proofs.Common.{◌≡◌, ℕ, zero, suc, ◌≤◌, ◌<◌, List, [], ◌∷◌, ◌++◌, length, map, get_or, append-nil, append_assoc, refl, sym, ◌∙◌, ap, subst, arith, inl, inr}
use Rattle.std.specs.Prelude.{Option, Some, None, IsSome, ◌==◌, slice_get, option_map}
use Rattle.std.proofs.lemmas.List.{length-map, get_or_past}
use Rattle.std.proofs.lemmas.Option.{slice_get_within, slice_get-get_or, slice_get-map}
use Rattle.std.proofs.lemmas.Bool.Decides.{eqb_tells}
use Rattle.adf_format.specs.Fields.{trimmed}
use Rattle.adf_format.specs.Tree.{Tree, Node, IsTree, IsNumbered, IsAmong, is_among, node_at, name_at, children_at, tree_order, renumbered_node}
use Rattle.adf_format.specs.Placement.{Placement}
use Rattle.adf_format.specs.Verdict.{NodePlace, ListsNodes}
use Rattle.adf_model.specs.Spelling.{spelled}
use Rattle.adf_model.proofs.Basics.{not_true, or_parts}
use Rattle.adf_model.proofs.Trees.AncestorLemmas.{root_or_child}
use Rattle.adf_model.proofs.Trees.Renumbered.{among_get, live_listed, node_new}
use Rattle.layout_lint.specs.declared.verdict.NodePlace as code
use Rattle.layout_lint.specs.Walks.{node_place}
use Rattle.layout_lint.specs.Paths.{IsWay, to_root, to_child, IsWayUp, from_root, from_child, AreNames}
use Rattle.layout_lint.specs.Shapes.{AreLinked}

at_among : (xs : List ℕ) (s : ℕ) → IsAmong xs s → (i : ℕ) × (slice_get xs i ≡ Some s)
at_among [] s h = absurd (not_true h)
at_among (x ∷ xs) s h = elim (eqb_tells x s) [
  | inl e ↦ (0, ap Some e.1)
  | inr e ↦ (let r = at_among xs s (elim (or_parts (x == s) (is_among xs s) h) [ inl t ↦ absurd (not_true (sym e.0 ∙ t)) | inr t ↦ t ]) in (suc r.0, r.1))
]

-- ---- the parent of a node

-- a node is a child of a parent
pub record IsChildOf (tree : Tree) (parent child : ℕ) : Type 0 where
  pub position : ℕ
  pub at : slice_get (children_at tree parent) position ≡ Some child

renumbered_live : (order : List ℕ) (o : Option Node) → IsSome o → IsSome (renumbered_node order o)
renumbered_live order None h = h
renumbered_live order (Some node) h = refl

module _ (tree : Tree) (is : IsTree tree) (in_order : IsNumbered tree) (p : Placement) (nodes : List NodePlace) (listed : ListsNodes tree p nodes) where
  -- each number is that of a live node
  node_live : (k : ℕ) → k < length nodes → IsSome (node_at tree k)
  node_live k lt =
      let order = tree_order tree in
      let all : length order ≡ length tree.nodes = sym (length-map order (λ s. renumbered_node order (node_at tree s))) ∙ ap (λ (t : Tree). length t.nodes) in_order in
      let s : ℕ = get_or order k 0 in
      let count : length nodes ≡ length tree.nodes = listed.count in
      let at : slice_get order k ≡ Some s = slice_get-get_or order k 0 (omega (arith, lt, all, count)) in
      subst IsSome (sym (node_new tree is k s at) ∙ ap (λ (t : Tree). node_at t k) in_order) (renumbered_live order (node_at tree s) (live_listed tree is s (among_get order k s at)))

  -- each node other than the root is a child of its parent
  pub parent_above : (k : ℕ) (n : NodePlace) → slice_get nodes k ≡ Some n → 0 < k → IsChildOf tree n.parent k
  parent_above k n e other = elim (root_or_child tree is k (node_live k (slice_get_within nodes k n e))) [
    | inl root ↦ absurd (omega (arith, other, root))
    | inr up ↦ (
        let at = at_among (children_at tree up.0) k up.1 in
        let parent : n.parent ≡ up.0 = (listed.others up.0 at.0 k n at.1 e).0 in
        subst (λ j. IsChildOf tree j k) (sym parent) (record { position = at.0; at = at.1 }))
  ]

-- ---- ways

pub way_top : (tree : Tree) (number : ℕ) (up : List ℕ) → IsWayUp tree number up → get_or up 0 0 ≡ number
way_top tree number up from_root = refl
way_top tree number up (from_child position w e) = refl

-- each of a way up is a child of the next, and the last one of the root
pub way_next : (tree : Tree) (number : ℕ) (up : List ℕ) → IsWayUp tree number up → (k : ℕ) → k < length up
    → (position : ℕ) × (slice_get (children_at tree (get_or up (suc k) 0)) position ≡ Some (get_or up k 0))
way_next tree number up from_root k lt = absurd (omega (arith, lt))
way_next tree number up (from_child {parent = parent} {up = rest} position w e) zero lt =
    (position, subst (λ j. slice_get (children_at tree j) position ≡ Some number) (sym (way_top tree parent rest w)) e)
way_next tree number up (from_child {parent = parent} {up = rest} position w e) (suc k) lt =
    way_next tree parent rest w k (omega (arith, lt))

-- ---- steps up

-- some steps up from a node have led to another
pub record IsClimbed (tree : Tree) (number at : ℕ) (up : List ℕ) : Type 0 where
  pub more : (rest : List ℕ) → IsWayUp tree at rest → IsWayUp tree number (up ++ rest)

pub climb_start : (tree : Tree) (number : ℕ) (up : List ℕ) → up ≡ [] → IsClimbed tree number number up
climb_start tree number up none = record { more = λ rest w. rw none w }

pub climb_root : (tree : Tree) (number at : ℕ) (up : List ℕ) → IsClimbed tree number at up → at ≤ 0 → IsWayUp tree number up
climb_root tree number at up h root =
    let is : at ≡ 0 = omega (arith, root) in
    subst (IsWayUp tree number) (append-nil up) (h.more [] (subst (λ k. IsWayUp tree k []) (sym is) from_root))

pub climb_step : (tree : Tree) (is : IsTree tree) (in_order : IsNumbered tree) (p : Placement) (nodes : List code.NodePlace) (listed : ListsNodes tree p (map node_place nodes)) (number at next : ℕ) (up new : List ℕ) (n : code.NodePlace)
    → IsClimbed tree number at up → 0 < at → slice_get nodes at ≡ Some n → next ≡ n.parent → new ≡ up ++ at ∷ [] → IsClimbed tree number next new
climb_step tree is in_order p nodes listed number at next up new n h other e is_next put =
    let named : slice_get (map node_place nodes) at ≡ Some (node_place n) = slice_get-map node_place nodes at ∙ ap (option_map node_place) e in
    let b : IsChildOf tree next at = subst (λ j. IsChildOf tree j at) (sym is_next) (parent_above tree is in_order p (map node_place nodes) listed at (node_place n) named other) in
    record { more = λ rest w. rw put (rw append_assoc (h.more (at ∷ rest) (from_child b.position w b.at))) }

-- the parent of a node that is linked is one before it
pub parent_before : (nodes : List code.NodePlace) → AreLinked (map node_place nodes) → (at : ℕ) (n : code.NodePlace) → 0 < at → slice_get nodes at ≡ Some n → n.parent < at
parent_before nodes linked at n other e =
    let named : slice_get (map node_place nodes) at ≡ Some (node_place n) = slice_get-map node_place nodes at ∙ ap (option_map node_place) e in
    (linked.others at (node_place n) named other).before

-- ---- a step down

-- the name of a node, behind the way of its parent
pub way_step : (tree : Tree) (names : List (List ℕ)) → AreNames tree names → (number k p : ℕ) (up old new name : List ℕ) → IsWayUp tree number up → p ≡ suc k → p ≤ length up
    → slice_get names (get_or up k 0) ≡ Some name → IsWay tree (get_or up p 0) old → new ≡ old ++ 47 ∷ spelled (trimmed name) → IsWay tree (get_or up k 0) new
way_step tree names are number k p up old new name leads e low here way added =
    let next = way_next tree number up leads k (omega (arith, e, low)) in
    let is : new ≡ old ++ 47 ∷ spelled (name_at tree (get_or up k 0)) = added ∙ ap (λ ns. old ++ 47 ∷ spelled ns) (are (get_or up k 0) name here) in
    subst (IsWay tree (get_or up k 0)) (sym is) (to_child next.0 (subst (λ j. IsWay tree (get_or up j 0) old) e way) next.1)

-- past all of them is the root
pub way_start : (tree : Tree) (up text : List ℕ) → text ≡ [] → IsWay tree (get_or up (length up) 0) text
way_start tree up text none = rw (none, get_or_past up (length up) 0 (omega arith)) to_root

-- before the first of them is the node itself
pub way_end : (tree : Tree) (number k : ℕ) (up text : List ℕ) → IsWayUp tree number up → k ≤ 0 → IsWay tree (get_or up k 0) text → IsWay tree number text
way_end tree number k up text leads low way =
    let first : k ≡ 0 = omega (arith, low) in
    subst (λ j. IsWay tree j text) (ap (λ i. get_or up i 0) first ∙ way_top tree number up leads) way
