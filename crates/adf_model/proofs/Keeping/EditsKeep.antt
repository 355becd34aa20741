-- Each edit of one file, and each group of them, keeps its tree sound.
use Rattle.std.proofs.Common.{◌≡◌, ℕ, suc, Bool, true, false, not, List, [], ◌∷◌, ◌++◌, refl, sym, ◌∙◌, ap, subst}
use Rattle.std.specs.Prelude.{Option, Some, None, IsSome, ◌||◌, Result, Ok, Err}
use Rattle.std.specs.List.{list_any}
use Rattle.adf_format.specs.Tree.{Tree, node_at, is_live, is_link_in, IsTree}
use Rattle.adf_model.specs.declared.error.AdfError.{AdfError}
use Rattle.adf_model.specs.declared.error.EditError.{EditError}
use Rattle.adf_model.specs.declared.tree.Edit.{Edit}
use Rattle.adf_model.specs.declared.tree.Edit.TheVariants.{Create, Delete, Rename, Move, SetLabel, SetDims, PutAll, PutPart, Link}
use Rattle.adf_model.specs.declared.tree.NodeId.{NodeId}
use Rattle.adf_model.specs.Edits.{apply, named_nodes, followed, IsReached, reach_tests, file_step, Work, file_group_from, file_group, created_by, at_edit}
use Rattle.adf_model.proofs.Basics.{or_none, not_false, passed, same_Ok, same_Some, not_Err}
use Rattle.adf_model.proofs.Following.StepTests.{step_tests}
use Rattle.adf_model.proofs.Keeping.Keeps.{set_label_keeps}
use Rattle.adf_model.proofs.Keeping.CreateKeeps.{create_keeps}
use Rattle.adf_model.proofs.Keeping.LinkKeeps.{link_keeps}
use Rattle.adf_model.proofs.Keeping.DataKeeps.{set_dims_keeps, put_all_keeps}
use Rattle.adf_model.proofs.Keeping.PartKeeps.{put_part_keeps}
use Rattle.adf_model.proofs.Keeping.RenameKeeps.{rename_keeps}
use Rattle.adf_model.proofs.Keeping.DeleteKeeps.{delete_keeps, some_of}
use Rattle.adf_model.proofs.Keeping.MoveKeeps.{move_keeps}

-- an edit of such nodes keeps the tree sound
pub apply_keeps : (tree after : Tree) (edit : Edit) → IsTree tree → IsReached tree edit → apply tree edit ≡ Ok after → IsTree after
apply_keeps tree after (Create at wanted label) is at_hand e = let p = some_of (node_at tree at.serial) (at_hand.live at refl) in create_keeps tree after at wanted label p.0 is p.1 (sym (ap is_link_in p.1) ∙ at_hand.no_link) e
apply_keeps tree after (Delete node) is at_hand e = delete_keeps tree after node is e
apply_keeps tree after (Rename node wanted) is at_hand e = rename_keeps tree after node wanted is e
apply_keeps tree after (Move node to) is at_hand e = move_keeps tree after node to is (at_hand.live to refl) at_hand.no_link e
apply_keeps tree after (SetLabel node label) is at_hand e = set_label_keeps tree after node label is e
apply_keeps tree after (SetDims node shape) is at_hand e = set_dims_keeps tree after node shape is e
apply_keeps tree after (PutAll node given) is at_hand e = put_all_keeps tree after node given is (λ old h. sym (ap is_link_in h) ∙ at_hand.no_link) e
apply_keeps tree after (PutPart node selection given) is at_hand e = put_part_keeps tree after node selection given is (λ old h. sym (ap is_link_in h) ∙ at_hand.no_link) e
apply_keeps tree after (Link at wanted file path) is at_hand e = let p = some_of (node_at tree at.serial) (at_hand.live at refl) in link_keeps tree after at wanted file path p.0 is p.1 (sym (ap is_link_in p.1) ∙ at_hand.no_link) e

first_live : (a b : Bool) → (not a || b) ≡ false → a ≡ true
first_live a b e = not_false a (or_none (not a) b e).0

pub at_followed : (tree : Tree) (at node : NodeId) → ◌≡◌ {A = Option NodeId} (Some at) (Some node) → is_live tree at.serial ≡ true → IsSome (node_at tree node.serial)
at_followed tree at node e live = subst (λ (n : NodeId). IsSome (node_at tree n.serial)) (same_Some at node e) live

none_some : {P : Type 0} (node : NodeId) → ◌≡◌ {A = Option NodeId} None (Some node) → P
none_some node e = cc

-- an edit whose nodes are live has a live node where links are followed
pub followed_live : (tree : Tree) (edit : Edit) → list_any (λ (node : NodeId). not (is_live tree node.serial)) (named_nodes edit) ≡ false → (node : NodeId) → followed edit ≡ Some node → IsSome (node_at tree node.serial)
followed_live tree (Create at wanted label) e node f = at_followed tree at node f (first_live _ _ e)
followed_live tree (Delete at) e node f = none_some node f
followed_live tree (Rename at wanted) e node f = none_some node f
followed_live tree (Move at to) e node f = at_followed tree to node f (first_live _ _ (or_none (not (is_live tree at.serial)) _ e).1)
followed_live tree (SetLabel at label) e node f = at_followed tree at node f (first_live _ _ e)
followed_live tree (SetDims at shape) e node f = at_followed tree at node f (first_live _ _ e)
followed_live tree (PutAll at given) e node f = at_followed tree at node f (first_live _ _ e)
followed_live tree (PutPart at selection given) e node f = at_followed tree at node f (first_live _ _ e)
followed_live tree (Link at wanted file path) e node f = at_followed tree at node f (first_live _ _ e)

-- one edit of one file keeps the tree sound
pub file_step_keeps : (tree after : Tree) (writable : Bool) (edit : Edit) → IsTree tree → file_step writable tree edit ≡ Ok after → IsTree after
file_step_keeps tree after writable edit is e =
    let all = passed (reach_tests tree edit ++ (not writable, AdfError.ReadOnly) ∷ []) (apply tree edit) after (sym (step_tests writable tree edit) ∙ e) in
    apply_keeps tree after edit is (record { live = followed_live tree edit all.0.0; no_link = all.0.1.0 }) all.1

-- and so does a group
pub one_step : (r : Result Tree AdfError) (at : ℕ) (next : Tree → Result Work EditError) (work : Work) → at_edit at r next ≡ Ok work → (tree : Tree) × (r ≡ Ok tree) × (next tree ≡ Ok work)
one_step (Ok tree) at next work e = (tree, refl, e)
one_step (Err error) at next work e = absurd (not_Err e)

group_keeps_from : (writable : Bool) (at : ℕ) (edits : List Edit) (before after : Work) → IsTree before.tree → file_group_from writable at before edits ≡ Ok after → IsTree after.tree
group_keeps_from writable at [] before after is e = subst (λ (w : Work). IsTree w.tree) (same_Ok e) is
group_keeps_from writable at (edit ∷ edits) before after is e =
    let s = one_step (file_step writable before.tree edit) at (λ tree. file_group_from writable (suc at) (record { tree = tree; created = before.created ++ created_by before.tree edit }) edits) after e in
    group_keeps_from writable (suc at) edits (record { tree = s.0; created = before.created ++ created_by before.tree edit }) after (file_step_keeps before.tree s.0 writable edit is s.1) s.2

pub file_group_keeps : (writable : Bool) (tree : Tree) (edits : List Edit) (after : Work) → IsTree tree → file_group writable tree edits ≡ Ok after → IsTree after.tree
file_group_keeps writable tree edits after is e = group_keeps_from writable 0 edits (record { tree = tree; created = [] }) after is e
