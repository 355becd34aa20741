-- What a move makes of the nodes: two lists of children change, and nothing else.
use Rattle.std.proofs.Common.{◌≡◌, ◌≢◌, ◌⊎◌, inl, inr, ℕ, zero, suc, refl, sym, ◌∙◌, ap, List, [], ◌∷◌, ◌++◌, map, get_or, Bool, false, not}
use Rattle.std.proofs.lemmas.Bool.Decides.{eqb_tells}
use Rattle.std.proofs.lemmas.List.{length-set}
use Rattle.std.proofs.Math.Seq.{map-set_same}
use Rattle.std.specs.Prelude.{Option, Some, None, Ok, IsSome, is_some, slice_set, ◌==◌, filter, if◌then◌else◌}
use Rattle.adf_format.specs.Tree.{Tree, Node, is_among, node_at, next_serial, children_of, children_at, name_of, name_at, parent_of, is_within}
use Rattle.adf_model.specs.declared.error.AdfError.{AdfError}
use Rattle.adf_model.specs.declared.tree.Edit.{Edit}
use Rattle.adf_model.specs.declared.tree.NodeId.{NodeId}
use Rattle.adf_model.specs.Tests.{checked}
use Rattle.adf_model.specs.Edits.{apply, moved, move_tests, other_children, with_children, given_children}
use Rattle.adf_model.proofs.Basics.{not_true, or_none, same_Ok, passed, found}
use Rattle.adf_model.proofs.Keeping.Keeps.{at-set}
use Rattle.tree_laws.proofs.Edits.LabelSet.{set_there}

-- ---- one list of children is given

pub is_or_not : (a b : ℕ) → (a ≡ b) ⊎ (a ≢ b)
is_or_not a b = elim (eqb_tells a b) [ inl t ↦ inl t.1 | inr t ↦ inr t.1 ]

set_of_own : (f : Option Node → Option Node) → f None ≡ None → (nodes : List (Option Node)) (k : ℕ) → get_or (slice_set nodes k (f (get_or nodes k None))) k None ≡ f (get_or nodes k None)
set_of_own f none [] k = sym none
set_of_own f none (x ∷ xs) zero = refl
set_of_own f none (x ∷ xs) (suc k) = set_of_own f none xs k

given_here : (tree : Tree) (k : ℕ) (xs : List ℕ) → node_at (with_children tree k xs) k ≡ given_children xs (node_at tree k)
given_here tree k xs = set_of_own (given_children xs) refl tree.nodes k

given_there : (tree : Tree) (k q : ℕ) (xs : List ℕ) → q ≢ k → node_at (with_children tree k xs) q ≡ node_at tree q
given_there tree k q xs differ = set_there tree.nodes k q (given_children xs (node_at tree k)) None differ

given_keeps : {B : Type 0} (f : Option Node → B) → ((xs : List ℕ) (o : Option Node) → f (given_children xs o) ≡ f o) → (tree : Tree) (k q : ℕ) (xs : List ℕ) → f (node_at (with_children tree k xs) q) ≡ f (node_at tree q)
given_keeps f same tree k q xs = at-set f tree.nodes k q (given_children xs (node_at tree k)) (same xs (node_at tree k))

given_name : (xs : List ℕ) (o : Option Node) → name_of (given_children xs o) ≡ name_of o
given_name xs None = refl
given_name xs (Some node) = refl

given_live : (xs : List ℕ) (o : Option Node) → is_some (given_children xs o) ≡ is_some o
given_live xs None = refl
given_live xs (Some node) = refl

given_list : (xs : List ℕ) (o : Option Node) → IsSome o → children_of (given_children xs o) ≡ xs
given_list xs None live = absurd (not_true live)
given_list xs (Some node) live = refl

-- ---- the other children of a node that has not the child

pub others_of_none : (xs : List ℕ) (s : ℕ) → is_among xs s ≡ false → filter (λ c. not (c == s)) xs ≡ xs
others_of_none [] s e = refl
others_of_none (x ∷ xs) s e =
    let parts = or_none (x == s) (is_among xs s) e in
    ap (λ (b : Bool). if not b then x ∷ filter (λ c. not (c == s)) xs else filter (λ c. not (c == s)) xs) parts.0 ∙ ap (λ ys. x ∷ ys) (others_of_none xs s parts.1)

-- ---- both lists

module _ (tree : Tree) (from to s : ℕ) where
  abbrev pub rest : Tree
  rest = with_children tree from (other_children tree from s)

  moved_keeps : {B : Type 0} (f : Option Node → B) → ((xs : List ℕ) (o : Option Node) → f (given_children xs o) ≡ f o) → (q : ℕ) → f (node_at (moved tree from to s) q) ≡ f (node_at tree q)
  moved_keeps f same q = given_keeps f same rest to q (children_at rest to ++ s ∷ []) ∙ given_keeps f same tree from q (other_children tree from s)

  pub moved_name : (q : ℕ) → name_at (moved tree from to s) q ≡ name_at tree q
  moved_name q = moved_keeps name_of given_name q

  pub moved_live : (q : ℕ) → is_some (node_at (moved tree from to s) q) ≡ is_some (node_at tree q)
  moved_live q = moved_keeps is_some given_live q

  pub moved_as_many : map is_some (moved tree from to s).nodes ≡ map is_some tree.nodes
  moved_as_many =
      map-set_same is_some rest.nodes to (given_children (children_at rest to ++ s ∷ []) (node_at rest to)) None (given_live (children_at rest to ++ s ∷ []) (node_at rest to))
      ∙ map-set_same is_some tree.nodes from (given_children (other_children tree from s) (node_at tree from)) None (given_live (other_children tree from s) (node_at tree from))

  pub moved_serials : next_serial (moved tree from to s) ≡ next_serial tree
  moved_serials =
      length-set rest.nodes to (given_children (children_at rest to ++ s ∷ []) (node_at rest to))
      ∙ length-set tree.nodes from (given_children (other_children tree from s) (node_at tree from))

  pub moved_other : (q : ℕ) → q ≢ from → q ≢ to → node_at (moved tree from to s) q ≡ node_at tree q
  moved_other q one two = given_there rest to q (children_at rest to ++ s ∷ []) two ∙ given_there tree from q (other_children tree from s) one

  pub moved_from : from ≢ to → node_at (moved tree from to s) from ≡ given_children (other_children tree from s) (node_at tree from)
  moved_from differ = given_there rest to from (children_at rest to ++ s ∷ []) differ ∙ given_here tree from (other_children tree from s)

  pub moved_to : from ≢ to → node_at (moved tree from to s) to ≡ given_children (children_at tree to ++ s ∷ []) (node_at tree to)
  moved_to differ =
      given_here rest to (children_at rest to ++ s ∷ [])
      ∙ ap (λ (o : Option Node). given_children (children_of o ++ s ∷ []) o) (given_there tree from to (other_children tree from s) (λ e. differ (sym e)))

  pub list_other : (q : ℕ) → q ≢ to → children_at (moved tree from to s) q ≡ children_at rest q
  list_other q differ = ap children_of (given_there rest to q (children_at rest to ++ s ∷ []) differ)

  pub list_rest : (q : ℕ) → q ≢ from → children_at rest q ≡ children_at tree q
  list_rest q differ = ap children_of (given_there tree from q (other_children tree from s) differ)

  pub list_from : IsSome (node_at tree from) → children_at rest from ≡ other_children tree from s
  list_from live = ap children_of (given_here tree from (other_children tree from s)) ∙ given_list (other_children tree from s) (node_at tree from) live

  pub list_to : IsSome (node_at tree to) → children_at (moved tree from to s) to ≡ children_at rest to ++ s ∷ []
  list_to live =
      ap children_of (given_here rest to (children_at rest to ++ s ∷ []))
      ∙ given_list (children_at rest to ++ s ∷ []) (node_at rest to) (given_keeps is_some given_live tree from to (other_children tree from s) ∙ live)

-- last in its own list
pub moved_last : (tree : Tree) (to s : ℕ) → node_at (moved tree to to s) to ≡ given_children (other_children tree to s ++ s ∷ []) (node_at tree to)
moved_last tree to s =
    given_here (with_children tree to (other_children tree to s)) to (children_at (with_children tree to (other_children tree to s)) to ++ s ∷ [])
    ∙ ap (λ (o : Option Node). given_children (children_of o ++ s ∷ []) o) (given_here tree to (other_children tree to s))
    ∙ twice (other_children tree to s) (node_at tree to)
  where
    twice : (xs : List ℕ) (o : Option Node) → given_children (children_of (given_children xs o) ++ s ∷ []) (given_children xs o) ≡ given_children (xs ++ s ∷ []) o
    twice xs None = refl
    twice xs (Some node) = refl

-- what an edit that moves makes, and what it has tested
pub move_made : (tree after : Tree) (node to : NodeId) → apply tree (Edit.Move node to) ≡ Ok after
    → (from : ℕ) × (parent_of tree node.serial ≡ Some from) × (is_within tree node.serial to.serial ≡ false) × (moved tree from to.serial node.serial ≡ after)
move_made tree after node to e =
    let up = found (parent_of tree node.serial) AdfError.NotAChild (λ from. checked (move_tests tree node.serial to.serial) (Ok (moved tree from to.serial node.serial))) after e in
    let all = passed (move_tests tree node.serial to.serial) (Ok (moved tree up.0 to.serial node.serial)) after up.2 in
    (up.0, up.1, all.0.0, same_Ok all.1)
