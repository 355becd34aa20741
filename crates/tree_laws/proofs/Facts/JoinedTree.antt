-- A node that an edit makes is the last child of its parent, and leaves who stands above whom.
use Rattle.std.proofs.Common.{◌≡◌, ◌≢◌, inl, inr, ℕ, ◌^◌, ◌<◌, ◌+◌, ◌-◌, true, false, refl, sym, ◌∙◌, ap, subst, arith, List, [], ◌∷◌, ◌++◌, length, get_or}
use Rattle.std.proofs.lemmas.Bool.Decides.{eqb_tells}
use Rattle.std.specs.Prelude.{Option, Some, None, is_some, slice_get, nat_le, nat_lt, Ok}
use Rattle.adf_format.specs.Links.{link_text}
use Rattle.adf_format.specs.Tree.{Node, Tree, IsTree, node_at, children_of, name_of, is_live, lineage, parent_of, next_serial, first_named, is_link_in}
use Rattle.adf_model.specs.declared.error.AdfError.{AdfError}
use Rattle.adf_model.specs.declared.tree.Edit.{Edit}
use Rattle.adf_model.specs.declared.tree.Edit.TheVariants.{Create, Delete, Rename, Move, SetLabel, SetDims, PutAll, PutPart, Link}
use Rattle.adf_model.specs.declared.tree.NodeId.{NodeId}
use Rattle.adf_model.specs.Edits.{IsReached, apply, created_by, link_tests, new_node, new_link, with_new}
use Rattle.adf_model.proofs.Basics.{passed, found, same_Ok, same_Some, not_there, not_false, not_le, not_lt, or_none}
use Rattle.adf_model.proofs.Keeping.CreatedChild.{parent, may_join, is_new}
use Rattle.adf_model.proofs.Creation.PartExtents.{there}
use Rattle.adf_model.proofs.Keeping.JoinedChild.{MayJoin, joined_sound, joined_kind, serial_drawn, child_there, parent_there, last_child, others_stay, above_stay, above_child, child_depth}
use Rattle.adf_model.proofs.Keeping.LinkKeeps.{IsNode-new_link}
use Rattle.tree_laws.specs.TreeFacts.{joined_node, changed_node, IsJoined, JoinedInItsTree, SerialsAreDrawn}
use Rattle.tree_laws.proofs.Edits.Plans.{parents_by_lineage}
use Rattle.tree_laws.proofs.Deletes.DeletedTree.{deleted_in_its_tree}
use Rattle.tree_laws.proofs.Moves.MovedTree.{moved_in_its_tree}
use Rattle.tree_laws.proofs.Facts.ChangedInPlace.{changed_in_its_tree}

-- the second of a longer lineage
second_is : (new : ℕ) (tree : Tree) (k : ℕ) → slice_get (new ∷ lineage tree k) 1 ≡ Some k
unfolding lineage
second_is new tree k = refl

module _ (tree after : Tree) (s : ℕ) (above node : Node) (m : MayJoin tree s above node) (made : with_new tree s node ≡ after) where
  -- what is read of a node stays of all that were there
  same_at : {B : Type 0} (f : Option Node → B) (k : ℕ) → f (Some (record above { children = above.children ++ next_serial tree ∷ [] })) ≡ f (Some above) → k ≢ next_serial tree → f (node_at after k) ≡ f (node_at tree k)
  same_at f k same old = elim (eqb_tells k s) [
    | inl e ↦ ap (λ i. f (node_at after i)) e.1 ∙ ap f (parent_there tree after s above node m made) ∙ same ∙ ap f (sym m.at) ∙ ap (λ i. f (node_at tree i)) (sym e.1)
    | inr e ↦ ap f (others_stay tree after s above node m made k e.1 old)
  ]

  not_drawn : (k : ℕ) → is_live tree k ≡ true → k ≢ next_serial tree
  not_drawn k live e = none (sym (past tree.nodes) ∙ ap (λ i. is_some (node_at tree i)) (sym e) ∙ live)
    where
      none : false ≡ true → ⊥
      none e = cc

      past : (xs : List (Option Node)) → is_some (get_or xs (length xs) None) ≡ false
      past [] = refl
      past (x ∷ xs) = past xs

  pub has_joined : IsJoined tree after s node
  has_joined = record {
    wide = (joined_kind tree after s above node m made).0;
    format = (joined_kind tree after s above node m made).1;
    serials = serial_drawn tree after s above node m made;
    sound = joined_sound tree after s above node m made;
    new = child_there tree after s above node m made;
    joined = last_child tree after s above node m made;
    others = others_stay tree after s above node m made;
    names = λ k old. same_at name_of k refl old;
    lists = λ k differ old. ap children_of (others_stay tree after s above node m made k differ old);
    live = λ k old. same_at is_some k refl old;
    top = above_child tree after s above node m made;
    parent = parents_by_lineage after (next_serial tree) ∙ ap (λ xs. slice_get xs 1) (above_child tree after s above node m made) ∙ second_is (next_serial tree) tree s;
    depth = child_depth tree after s above node m made;
    lineages = λ k live. above_stay tree after s above node m made k live;
    parents = λ k live. parents_by_lineage after k ∙ ap (λ xs. slice_get xs 1) (above_stay tree after s above node m made k live) ∙ sym (parents_by_lineage tree k);
    depths = λ k live. ap (λ (xs : List ℕ). length xs - 1) (above_stay tree after s above node m made k live);
  }

-- ---- a link

module _ (tree after : Tree) (at : NodeId) (wanted file path : List ℕ) (is : IsTree tree) (reached : IsReached tree (Link at wanted file path)) (made : apply tree (Link at wanted file path) ≡ Ok after) where
  above : (n : Node) × (node_at tree at.serial ≡ Some n)
  above = there (node_at tree at.serial) (reached.live at refl)

  abbrev link : Node
  link = new_link wanted (link_text file path)

  link_may_join : MayJoin tree at.serial above.0 link × (with_new tree at.serial link ≡ after)
  link_may_join =
      let all = passed (link_tests tree at.serial wanted file path) (Ok (with_new tree at.serial link)) after made in
      let none = all.0 in
      let last = or_none (nat_lt 4096 (length (link_text file path))) (nat_le (2 ^ 48) (length tree.nodes)) none.1.1.1.1.1.0 in (
        record {
          is = is;
          at = above.1;
          childless = refl;
          sound = IsNode-new_link tree.wide wanted file path (not_false _ none.0) (not_false _ none.1.1.1.1.0) (not_lt _ _ last.0);
          no_link = sym (ap is_link_in above.1) ∙ reached.no_link;
          named = subst (λ (xs : List ℕ). is_some (first_named tree xs wanted) ≡ false) (ap children_of above.1) none.1.0;
          room = subst (λ (xs : List ℕ). length xs < 2 ^ 20) (ap children_of above.1) (not_le _ _ none.1.1.0);
          high = not_le _ _ none.1.1.1.0;
          left = not_le _ _ last.1;
        },
        same_Ok all.1,
      )

-- ---- each edit that makes a node

first_of : {A B : Type 0} (a c : A) (b d : B) → ◌≡◌ {A = Option (A × B)} (Some (a, b)) (Some (c, d)) → a ≡ c
first_of {A = A} {B = B} a c b d e = ap (λ (x : A × B). x.0) (same_Some (a, b) (c, d) e)

second_of : {A B : Type 0} (a c : A) (b d : B) → ◌≡◌ {A = Option (A × B)} (Some (a, b)) (Some (c, d)) → b ≡ d
second_of {A = A} {B = B} a c b d e = ap (λ (x : A × B). x.1) (same_Some (a, b) (c, d) e)

pub joined_in_its_tree : JoinedInItsTree
joined_in_its_tree tree after (Create at wanted label) s node is reached e made =
    subst (IsJoined tree after s) (second_of at.serial s (new_node wanted label) node e)
    (subst (λ k. IsJoined tree after k (new_node wanted label)) (first_of at.serial s (new_node wanted label) node e)
    (has_joined tree after at.serial (parent tree after at wanted label is reached made).0 (new_node wanted label) (may_join tree after at wanted label is reached made) (is_new tree after at wanted label is reached made)))
joined_in_its_tree tree after (Link at wanted file path) s node is reached e made =
    let m = link_may_join tree after at wanted file path is reached made in
    subst (IsJoined tree after s) (second_of at.serial s (new_link wanted (link_text file path)) node e)
    (subst (λ k. IsJoined tree after k (new_link wanted (link_text file path))) (first_of at.serial s (new_link wanted (link_text file path)) node e)
    (has_joined tree after at.serial (above tree after at wanted file path is reached made).0 (new_link wanted (link_text file path)) m.0 m.1))
joined_in_its_tree tree after (Delete at) s node is reached e made = absurd (not_there (s, node) e)
joined_in_its_tree tree after (Rename at wanted) s node is reached e made = absurd (not_there (s, node) e)
joined_in_its_tree tree after (Move at to) s node is reached e made = absurd (not_there (s, node) e)
joined_in_its_tree tree after (SetLabel at label) s node is reached e made = absurd (not_there (s, node) e)
joined_in_its_tree tree after (SetDims at shape) s node is reached e made = absurd (not_there (s, node) e)
joined_in_its_tree tree after (PutAll at given) s node is reached e made = absurd (not_there (s, node) e)
joined_in_its_tree tree after (PutPart at selection given) s node is reached e made = absurd (not_there (s, node) e)

-- ---- serials

drawn_by : (tree after : Tree) (edit : Edit) → next_serial after ≡ next_serial tree → created_by tree edit ≡ [] → next_serial after ≡ next_serial tree + length (created_by tree edit)
drawn_by tree after edit same none = same ∙ plain (next_serial tree) ∙ ap (λ (xs : List NodeId). next_serial tree + length xs) (sym none)
  where
    plain : (n : ℕ) → n ≡ n + 0
    plain n = omega arith

one_more : (tree after : Tree) (s : ℕ) (node : Node) → IsJoined tree after s node → next_serial after ≡ next_serial tree + 1
one_more tree after s node j = let e = j.serials in omega (arith, e)

pub serials_are_drawn : SerialsAreDrawn
serials_are_drawn tree after (Create at wanted label) is reached made = one_more tree after at.serial (new_node wanted label) (joined_in_its_tree tree after (Create at wanted label) at.serial (new_node wanted label) is reached refl made)
serials_are_drawn tree after (Link at wanted file path) is reached made =
    one_more tree after at.serial (new_link wanted (link_text file path)) (joined_in_its_tree tree after (Link at wanted file path) at.serial (new_link wanted (link_text file path)) is reached refl made)
serials_are_drawn tree after (Delete node) is reached made = drawn_by tree after (Delete node) (deleted_in_its_tree tree after node is made).0 refl
serials_are_drawn tree after (Move node to) is reached made =
    let from = found (parent_of tree node.serial) AdfError.NotAChild _ after made in
    drawn_by tree after (Move node to) (moved_in_its_tree tree after node to from.0 is reached made from.1).serials refl
serials_are_drawn tree after (Rename node wanted) is reached made = drawn_by tree after (Rename node wanted) (changed_in_its_tree tree after (Rename node wanted) node.serial is reached refl made).serials refl
serials_are_drawn tree after (SetLabel node label) is reached made = drawn_by tree after (SetLabel node label) (changed_in_its_tree tree after (SetLabel node label) node.serial is reached refl made).serials refl
serials_are_drawn tree after (SetDims node shape) is reached made = drawn_by tree after (SetDims node shape) (changed_in_its_tree tree after (SetDims node shape) node.serial is reached refl made).serials refl
serials_are_drawn tree after (PutAll node given) is reached made = drawn_by tree after (PutAll node given) (changed_in_its_tree tree after (PutAll node given) node.serial is reached refl made).serials refl
serials_are_drawn tree after (PutPart node selection given) is reached made =
    drawn_by tree after (PutPart node selection given) (changed_in_its_tree tree after (PutPart node selection given) node.serial is reached refl made).serials refl
