-- The lists of children after an edit.
use Rattle.std.proofs.Common.{◌≡◌, ◌≢◌, inl, inr, ℕ, suc, refl, sym, ◌∙◌, ap, subst, List, [], ◌∷◌, ◌++◌, length, map, get_or, Option, None, Some}
use Rattle.std.proofs.lemmas.Bool.Decides.{eqb_tells}
use Rattle.std.proofs.lemmas.List.{map-append}
use Rattle.std.specs.Prelude.{IsSome, is_some, cond, slice_get}
use Rattle.adf_format.specs.Fields.{text_field}
use Rattle.adf_format.specs.Tree.{IsAmong, IsTree, Node, Tree, children_at, children_of, name_at, name_of, next_serial, node_at, parent_of}
use Rattle.adf_model.proofs.Basics.{not_true, same_Some}
use Rattle.adf_model.proofs.Creation.CreatedNodes.{among_get, at_new, at_other, at_set, there_inside}
use Rattle.adf_model.proofs.Keeping.Keeps.{at-set, same_child_lists, same_names}
use Rattle.adf_model.proofs.Trees.SubtreeLemmas.{parent_is}
use Rattle.adf_model.specs.Edits.{given_children, moved, with_new, with_node}
use Rattle.kept_names.specs.Kept.{AreKept, Children, NamesState, changed}
use Rattle.tree_laws.proofs.Edits.LabelSet.{set_there}
use Rattle.tree_laws.proofs.Moves.MovedNodes.{list_other, list_rest, moved_name}
use Rattle.kept_asks.specs.Named.{children_in, entry_in}

-- ---- lists that are the same

pub same_kept : (names : NamesState) (now other was : Children) → ((q : ℕ) → now q ≡ other q) → AreKept names now was → AreKept names other was
same_kept names now other was same are = record { work = λ q kept at. are.work q kept at ∙ same q; undo = are.undo }

same_entries : (a b : Tree) (serials : List ℕ) → ((i c : ℕ) → slice_get serials i ≡ Some c → name_at a c ≡ name_at b c) → map (entry_in a) serials ≡ map (entry_in b) serials
same_entries a b [] same = refl
same_entries a b (c ∷ serials) same =
    ap (λ name. (text_field 32 name, c) ∷ map (entry_in a) serials) (same 0 c refl)
    ∙ ap (λ es. entry_in b c ∷ es) (same_entries a b serials (λ i d e. same (suc i) d e))

-- a list that is another where a node's is dropped
pub all_but_one : (now other : Children) (node : ℕ) → ((q : ℕ) → node ≢ q → now q ≡ other q) → (q : ℕ) → changed now node (other node) q ≡ other q
all_but_one now other node same q = elim (eqb_tells node q) [
  | inl t ↦ ap (λ b. cond b (other node) (now q)) t.0 ∙ ap other t.1
  | inr t ↦ ap (λ b. cond b (other node) (now q)) t.0 ∙ same q t.1
]

-- and where those of two are
pub all_but_two : (now other : Children) (a b : ℕ) → ((q : ℕ) → a ≢ q → b ≢ q → now q ≡ other q) → (q : ℕ) → changed (changed now a (other a)) b (other b) q ≡ other q
all_but_two now other a b same = all_but_one (changed now a (other a)) other b (λ q two. elim (eqb_tells a q) [
  | inl t ↦ ap (λ x. cond x (other a) (now q)) t.0 ∙ ap other t.1
  | inr t ↦ ap (λ x. cond x (other a) (now q)) t.0 ∙ same q t.1 two
])

-- ---- an edit of a node that leaves its name and its children

pub kept_lists : (tree : Tree) (s : ℕ) (old new : Node) → node_at tree s ≡ Some old → new.name ≡ old.name → new.children ≡ old.children → (q : ℕ) → children_in tree q ≡ children_in (with_node tree s new) q
kept_lists tree s old new here name children q =
    same_entries tree (with_node tree s new) (children_at tree q) (λ i c e. sym (same_names tree s old new here name children c))
    ∙ ap (map (entry_in (with_node tree s new))) (sym (same_child_lists tree s old new here name children q))

-- ---- a new child

past : {A : Type 0} (xs : List (Option A)) → get_or xs (length xs) None ≡ None
past [] = refl
past (x ∷ xs) = past xs

given_name : (xs : List ℕ) (o : Option Node) → name_of (given_children xs o) ≡ name_of o
given_name xs None = refl
given_name xs (Some node) = refl

module _ (tree : Tree) (is : IsTree tree) (s : ℕ) (above node : Node) (here : node_at tree s ≡ Some above) (childless : node.children ≡ []) where
  abbrev after : Tree
  after = with_new tree s node

  abbrev n : ℕ
  n = next_serial tree

  abbrev grown : Option Node
  grown = given_children (children_at tree s ++ n ∷ []) (node_at tree s)

  node_new : node_at after n ≡ Some node
  node_new = at_new tree.nodes s n grown (Some node) None refl

  node_here : node_at after s ≡ grown
  node_here = at_set tree.nodes s grown (Some node) None (there_inside tree.nodes s above here)

  list_here : children_at after s ≡ children_at tree s ++ n ∷ []
  list_here = ap children_of node_here ∙ ap (λ o. children_of (given_children (children_at tree s ++ n ∷ []) o)) here

  node_other : (q : ℕ) → q ≢ n → q ≢ s → node_at after q ≡ node_at tree q
  node_other q new set = at_other tree.nodes s q grown (Some node) None new set

  not_new : (c : ℕ) → IsSome (node_at tree c) → c ≢ n
  not_new c live e = not_true (sym (ap is_some (past tree.nodes)) ∙ sym (ap (λ k. is_some (node_at tree k)) e) ∙ live)

  name_stays : (c : ℕ) → IsSome (node_at tree c) → name_at after c ≡ name_at tree c
  name_stays c live = elim (eqb_tells c s) [
    | inl t ↦ ap (name_at after) t.1 ∙ ap name_of node_here ∙ given_name (children_at tree s ++ n ∷ []) (node_at tree s) ∙ ap (name_at tree) (sym t.1)
    | inr t ↦ ap name_of (node_other c (not_new c live) t.1)
  ]

  old_entries : (q : ℕ) → map (entry_in tree) (children_at tree q) ≡ map (entry_in after) (children_at tree q)
  old_entries q = same_entries tree after (children_at tree q) (λ i c e. sym (name_stays c (is.live q c (among_get (children_at tree q) i c e)).0))

  here_grown : children_in tree s ++ (text_field 32 node.name, n) ∷ [] ≡ children_in after s
  here_grown =
      ap (λ es. es ++ (text_field 32 node.name, n) ∷ []) (old_entries s)
      ∙ ap (λ name. map (entry_in after) (children_at tree s) ++ (text_field 32 name, n) ∷ []) (sym (ap name_of node_new))
      ∙ sym (map-append (entry_in after) (children_at tree s) (n ∷ []))
      ∙ ap (map (entry_in after)) (sym list_here)

  other_list : (q : ℕ) → q ≢ s → children_in tree q ≡ children_in after q
  other_list q set = elim (eqb_tells q n) [
    | inl t ↦
        ap (λ k. children_in tree k) t.1 ∙ ap (λ o. map (entry_in tree) (children_of o)) (past tree.nodes)
        ∙ sym (ap (map (entry_in after)) (ap children_of node_new ∙ childless)) ∙ ap (children_in after) (sym t.1)
    | inr t ↦ old_entries q ∙ ap (map (entry_in after)) (ap children_of (sym (node_other q t.1 set)))
  ]

  pub new_lists : (q : ℕ) → changed (children_in tree) s (children_in tree s ++ (text_field 32 node.name, n) ∷ []) q ≡ children_in after q
  new_lists q = elim (eqb_tells s q) [
    | inl t ↦ ap (λ b. cond b (children_in tree s ++ (text_field 32 node.name, n) ∷ []) (children_in tree q)) t.0 ∙ here_grown ∙ ap (children_in after) t.1
    | inr t ↦ ap (λ b. cond b (children_in tree s ++ (text_field 32 node.name, n) ∷ []) (children_in tree q)) t.0 ∙ other_list q (λ e. t.1 (sym e))
  ]

  -- and where the list of the node is dropped
  pub but_here : (q : ℕ) → s ≢ q → children_in tree q ≡ children_in after q
  but_here q apart = other_list q (λ e. apart (sym e))

-- ---- another name

module _ (tree : Tree) (is : IsTree tree) (from s : ℕ) (old new : Node) (here : node_at tree s ≡ Some old) (children : new.children ≡ old.children) (up : parent_of tree s ≡ Some from) where
  pub renamed_lists : (q : ℕ) → from ≢ q → children_in tree q ≡ children_in (with_node tree s new) q
  renamed_lists q apart =
      same_entries tree (with_node tree s new) (children_at tree q) (λ i c e. sym (ap name_of (set_there tree.nodes s c (Some new) None (λ same.
      apart (same_Some from q (sym up ∙ parent_is tree is q s (subst (IsAmong (children_at tree q)) same (among_get (children_at tree q) i c e))))))))
      ∙ ap (map (entry_in (with_node tree s new))) (sym (at-set children_of tree.nodes s q (Some new) (children ∙ ap children_of (sym here))))

-- ---- another parent

pub moved_lists : (tree : Tree) (from to s q : ℕ) → from ≢ q → to ≢ q → children_in tree q ≡ children_in (moved tree from to s) q
moved_lists tree from to s q one two =
    same_entries tree (moved tree from to s) (children_at tree q) (λ i c e. sym (moved_name tree from to s c))
    ∙ ap (map (entry_in (moved tree from to s))) (sym (list_other tree from to s q (λ e. two (sym e)) ∙ list_rest tree from to s q (λ e. one (sym e))))
