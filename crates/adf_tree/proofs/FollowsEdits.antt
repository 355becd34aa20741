-- Lists that are kept follow each kind of edit.
use Rattle.std.proofs.Common.{◌≡◌, ℕ, refl, sym, ◌∙◌, ap, subst, List, [], ◌∷◌, ◌++◌, length, not, ◌||◌, ◌&&◌}
use Rattle.std.specs.Prelude.{IsSome, is_some, Option, None, Some, Result, Ok, nat_lt}
use Rattle.adf_format.specs.Fields.{text_field}
use Rattle.adf_format.specs.Links.{link_text}
use Rattle.adf_format.specs.Names.{is_name, is_label}
use Rattle.adf_format.specs.Tree.{IsTree, Node, Tree, next_serial, node_at, parent_of}
use Rattle.adf_model.proofs.Basics.{found, passed, same_Ok, same_Some}
use Rattle.adf_model.proofs.Trees.AncestorLemmas.{parent_tells}
use Rattle.adf_model.specs.Edits.{IsReached, apply, create_tests, data_tests, has_named, length_test, link_tests, moved, new_link, new_node, other_children, part_size, shape_tests, size_of, with_new, with_node, with_part, with_shape}
use Rattle.adf_model.specs.Selection.{selection_fits}
use Rattle.adf_model.specs.Tests.{Test, checked, if_there}
use Rattle.adf_model.specs.declared.error.AdfError.TheVariants as error
use Rattle.adf_model.specs.declared.tree.Edit.{Edit}
use Rattle.adf_model.specs.declared.tree.Edit.TheVariants.{Create, Delete, Link, Move, PutAll, PutPart, Rename, SetDims, SetLabel}
use Rattle.adf_model.specs.declared.tree.NodeId.{NodeId}
use Rattle.adf_model.specs.declared.tree.Selection.{Selection}
use Rattle.adf_model.specs.declared.tree.Shape.{Shape}
use Rattle.kept_asks.specs.Named.{children_in}
use Rattle.kept_asks.proofs.Follows.{all_but_one, all_but_two, kept_lists, moved_lists, new_lists, renamed_lists, same_kept}
use Rattle.kept_names.specs.Kept.{AreKept, Children, NamesState, StaysTied, changed}
use Rattle.tree_edits.proofs.Tables.{there}
use Rattle.tree_laws.proofs.Moves.MovedNodes.{move_made}
use Rattle.adf_tree.proofs.ReachedEdits.{reached_data, reached_label, reached_part, reached_shape}
use Rattle.adf_tree.specs.KeptLists.{FollowsEdit, IsAbove}
use Rattle.adf_tree.specs.Reached.{or_reached, with_reached}
use Rattle.adf_tree.specs.Steps.{drawn_by}

-- ---- a new child

grown : (old new : NamesState) (tree : Tree) (was : Children) (at : NodeId) (above child : Node) (is : IsTree tree) → node_at tree at.serial ≡ Some above → child.children ≡ []
    → StaysTied (λ now. changed now at.serial (now at.serial ++ (text_field 32 child.name, next_serial tree) ∷ [])) old new → AreKept old (children_in tree) was → AreKept new (children_in (with_new tree at.serial child)) was
grown old new tree was at above child is here childless tied are =
    same_kept new (changed (children_in tree) at.serial (children_in tree at.serial ++ (text_field 32 child.name, next_serial tree) ∷ [])) (children_in (with_new tree at.serial child)) was
    (new_lists tree is at.serial above child here childless) (tied (children_in tree) was are)

pub follows_create : (at : NodeId) (name label : List ℕ) (above drawn : Option ℕ) (old new : NamesState)
    → ((serial : ℕ) → drawn ≡ Some serial → StaysTied (λ now. changed now at.serial (now at.serial ++ (text_field 32 name, serial) ∷ [])) old new) → FollowsEdit (Create at name label) above drawn old new
follows_create at name label above drawn old new tied tree after was is reached made top draws are =
    let all = passed (create_tests tree at.serial name label) (Ok (with_new tree at.serial (new_node name label))) after made in
    let live = there (node_at tree at.serial) (reached.live at refl) in
    subst (λ (t : Tree). AreKept new (children_in t) was) (same_Ok all.1)
    (grown old new tree was at live.0 (new_node name label) is live.1 refl (tied (next_serial tree) draws) are)

pub follows_link : (at : NodeId) (name file path : List ℕ) (above drawn : Option ℕ) (old new : NamesState)
    → ((serial : ℕ) → drawn ≡ Some serial → StaysTied (λ now. changed now at.serial (now at.serial ++ (text_field 32 name, serial) ∷ [])) old new) → FollowsEdit (Link at name file path) above drawn old new
follows_link at name file path above drawn old new tied tree after was is reached made top draws are =
    let child = new_link name (link_text file path) in
    let all = passed (link_tests tree at.serial name file path) (Ok (with_new tree at.serial child)) after made in
    let live = there (node_at tree at.serial) (reached.live at refl) in
    subst (λ (t : Tree). AreKept new (children_in t) was) (same_Ok all.1)
    (grown old new tree was at live.0 child is live.1 refl (tied (next_serial tree) draws) are)

-- ---- another name, and another parent

live_below : (tree : Tree) → IsTree tree → (s from : ℕ) → parent_of tree s ≡ Some from → IsSome (node_at tree s)
live_below tree is s from up = (is.live from s (parent_tells tree is s from up)).0

pub follows_rename : (node : NodeId) (name : List ℕ) (above drawn : Option ℕ) (old new : NamesState)
    → ((serial : ℕ) (list : List (List ℕ × ℕ)) → above ≡ Some serial → StaysTied (λ now. changed now serial list) old new) → FollowsEdit (Rename node name) above drawn old new
follows_rename node name above drawn old new tied tree after was is reached made top draws are =
    let tests = λ (from : ℕ). (not (is_name name), error.BadName) ∷ (has_named tree (other_children tree from node.serial) name, error.Duplicate) ∷ [] in
    let ends = if_there (node_at tree node.serial) error.NoSuchNode (λ n. Ok (with_node tree node.serial (record n { name = name }))) in
    let up = found (parent_of tree node.serial) error.NotAChild (λ from. checked (tests from) ends) after made in
    let all = passed (tests up.0) ends after up.2 in
    let own = found (node_at tree node.serial) error.NoSuchNode (λ n. Ok (with_node tree node.serial (record n { name = name }))) after all.1 in
    let changes = with_node tree node.serial (record own.0 { name = name }) in
    let from = up.0 in
    subst (λ (t : Tree). AreKept new (children_in t) was) (same_Ok own.2)
    (same_kept new (changed (children_in tree) from (children_in changes from)) (children_in changes) was
    (all_but_one (children_in tree) (children_in changes) from (renamed_lists tree is from node.serial own.0 (record own.0 { name = name }) own.1 refl up.1))
    (tied from (children_in changes from) (top (live_below tree is node.serial from up.1) ∙ up.1) (children_in tree) was are))

pub follows_move : (node to : NodeId) (above drawn : Option ℕ) (old mid new : NamesState)
    → ((serial : ℕ) (list : List (List ℕ × ℕ)) → above ≡ Some serial → StaysTied (λ now. changed now serial list) old mid)
    → ((list : List (List ℕ × ℕ)) → StaysTied (λ now. changed now to.serial list) mid new) → FollowsEdit (Move node to) above drawn old new
follows_move node to above drawn old mid new first second tree after was is reached made top draws are =
    let m = move_made tree after node to made in
    let from = m.0 in
    let then = moved tree from to.serial node.serial in
    let one = first from (children_in then from) (top (live_below tree is node.serial from m.1) ∙ m.1) (children_in tree) was are in
    subst (λ (t : Tree). AreKept new (children_in t) was) m.3
    (same_kept new (changed (changed (children_in tree) from (children_in then from)) to.serial (children_in then to.serial)) (children_in then) was
    (all_but_two (children_in tree) (children_in then) from to.serial (λ q. moved_lists tree from to.serial node.serial q))
    (second (children_in then to.serial) (changed (children_in tree) from (children_in then from)) was one))

-- ---- an edit that leaves names and children

own_changes : (old : NamesState) (tree : Tree) (was : Children) (s : ℕ) (own changes : Node) → node_at tree s ≡ Some own → changes.name ≡ own.name → changes.children ≡ own.children → AreKept old (children_in tree) was → AreKept old (children_in (with_node tree s changes)) was
own_changes old tree was s own changes here name children are = same_kept old (children_in tree) (children_in (with_node tree s changes)) was (kept_lists tree s own changes here name children) are

-- the node is live, what was tested holds, and it is another
changed_node : (tests : Node → List Test) (make : Node → Node) → ((n : Node) → (make n).name ≡ n.name) → ((n : Node) → (make n).children ≡ n.children) → (node : NodeId) (names : NamesState) (tree after : Tree) (was : Children)
    → if_there (node_at tree node.serial) error.NoSuchNode (λ n. checked (tests n) (Ok (with_node tree node.serial (make n)))) ≡ Ok after → AreKept names (children_in tree) was → AreKept names (children_in after) was
changed_node tests make name children node names tree after was made are =
    let own = found (node_at tree node.serial) error.NoSuchNode (λ n. checked (tests n) (Ok (with_node tree node.serial (make n)))) after made in
    let all = passed (tests own.0) (Ok (with_node tree node.serial (make own.0))) after own.2 in
    subst (λ (t : Tree). AreKept names (children_in t) was) (same_Ok all.1)
    (own_changes names tree was node.serial own.0 (make own.0) own.1 (name own.0) (children own.0) are)

pub follows_label : (node : NodeId) (label : List ℕ) (above drawn : Option ℕ) (names : NamesState) → FollowsEdit (SetLabel node label) above drawn names names
follows_label node label above drawn names tree after was is reached made top draws are =
    changed_node (λ n. (not (is_label label), error.BadLabel) ∷ []) (λ n. record n { label = label }) (λ n. refl) (λ n. refl) node names tree after was made are

pub follows_shape : (node : NodeId) (shape : Shape) (above drawn : Option ℕ) (names : NamesState) → FollowsEdit (SetDims node shape) above drawn names names
follows_shape node shape above drawn names tree after was is reached made top draws are =
    changed_node (λ n. shape_tests tree.wide n shape) (λ n. with_shape n shape) (λ n. refl) (λ n. refl) node names tree after was made are

pub follows_data : (node : NodeId) (given : List ℕ) (above drawn : Option ℕ) (names : NamesState) → FollowsEdit (PutAll node given) above drawn names names
follows_data node given above drawn names tree after was is reached made top draws are =
    changed_node (λ n. data_tests n ++ length_test (size_of n) given ∷ []) (λ n. record n { bytes = Some given }) (λ n. refl) (λ n. refl) node names tree after was made are

pub follows_part : (node : NodeId) (selection : Selection) (given : List ℕ) (above drawn : Option ℕ) (names : NamesState) → FollowsEdit (PutPart node selection given) above drawn names names
follows_part node selection given above drawn names tree after was is reached made top draws are =
    changed_node (λ n. data_tests n ++ (not (selection_fits n.dims selection), error.BadRange) ∷ length_test (part_size n selection) given ∷ []) (λ n. with_part n selection given) (λ n. refl) (λ n. refl) node names tree after was made are

-- edits of labels and data, of the node that was reached
pub follows_rest : (edit : Edit) (there : Option NodeId) (above drawn : Option ℕ) (names : NamesState) → ((a : NodeId) (b c : List ℕ) → edit ≡ Create a b c → ⊥) → ((a : NodeId) (b c d : List ℕ) → edit ≡ Link a b c d → ⊥)
    → ((a : NodeId) → edit ≡ Delete a → ⊥) → ((a : NodeId) (b : List ℕ) → edit ≡ Rename a b → ⊥) → ((a b : NodeId) → edit ≡ Move a b → ⊥) → FollowsEdit (with_reached edit there) above drawn names names
follows_rest (Create at wanted label) there above drawn names create link delete name move = absurd (create at wanted label refl)
follows_rest (Link at wanted file path) there above drawn names create link delete name move = absurd (link at wanted file path refl)
follows_rest (Delete at) there above drawn names create link delete name move = absurd (delete at refl)
follows_rest (Rename at wanted) there above drawn names create link delete name move = absurd (name at wanted refl)
follows_rest (Move at to) there above drawn names create link delete name move = absurd (move at to refl)
follows_rest (SetLabel at label) there above drawn names create link delete name move =
    subst (λ (e : Edit). FollowsEdit e above drawn names names) (reached_label (SetLabel at label) there at (or_reached at there) label label refl refl refl) (follows_label (or_reached at there) label above drawn names)
follows_rest (SetDims at shape) there above drawn names create link delete name move =
    subst (λ (e : Edit). FollowsEdit e above drawn names names) (reached_shape (SetDims at shape) there at (or_reached at there) shape refl refl) (follows_shape (or_reached at there) shape above drawn names)
follows_rest (PutAll at given) there above drawn names create link delete name move =
    subst (λ (e : Edit). FollowsEdit e above drawn names names) (reached_data (PutAll at given) there at (or_reached at there) given given refl refl refl) (follows_data (or_reached at there) given above drawn names)
follows_rest (PutPart at selection given) there above drawn names create link delete name move =
    subst (λ (e : Edit). FollowsEdit e above drawn names names) (reached_part (PutPart at selection given) there at (or_reached at there) selection given given refl refl refl) (follows_part (or_reached at there) selection given above drawn names)
