-- What a created child is: the node of the next serial, the last child of its parent and one step below it.
use Rattle.std.proofs.Common.{◌≡◌, ◌≢◌, ℕ, suc, ◌^◌, ◌<◌, true, false, List, [], ◌∷◌, ◌++◌, length, refl, sym, ◌∙◌, ap, subst}
use Rattle.std.specs.Prelude.{Option, Some, None, is_some, Result, Ok}
use Rattle.adf_model.specs.declared.error.AdfError.{AdfError}
use Rattle.adf_model.specs.declared.tree.Edit.{Edit}
use Rattle.adf_model.specs.declared.tree.NodeId.{NodeId}
use Rattle.adf_format.specs.Names.{is_name, is_label}
use Rattle.adf_format.specs.Tree.{Node, Tree, IsTree, node_at, children_at, children_of, depth_of, lineage, first_named, is_link_in, next_serial}
use Rattle.adf_model.specs.Edits.{IsReached, apply, create_tests, new_node, with_new}
use Rattle.adf_model.proofs.Basics.{NoneHolds, passed, same_Ok, not_false, not_le}
use Rattle.adf_model.proofs.Keeping.CreateKeeps.{fresh_node}
use Rattle.adf_model.proofs.Creation.PartExtents.{there}
use Rattle.adf_model.proofs.Keeping.JoinedChild.{MayJoin}
use Rattle.adf_model.proofs.Keeping.JoinedChild as joined

module _ (tree after : Tree) (at : NodeId) (name label : List ℕ) (is : IsTree tree) (reached : IsReached tree (Edit.Create at name label)) (made : apply tree (Edit.Create at name label) ≡ Ok after) where
  pub parent : (node : Node) × (node_at tree at.serial ≡ Some node)
  parent = there (node_at tree at.serial) (reached.live at refl)

  tests : NoneHolds (create_tests tree at.serial name label) × ◌≡◌ {A = Result Tree AdfError} (Ok (with_new tree at.serial (new_node name label))) (Ok after)
  tests = passed (create_tests tree at.serial name label) (Ok (with_new tree at.serial (new_node name label))) after made

  pub may_join : MayJoin tree at.serial parent.0 (new_node name label)
  may_join = record {
    is = is;
    at = parent.1;
    childless = refl;
    sound = fresh_node tree.wide name label (not_false (is_name name) tests.0.0) (not_false (is_label label) tests.0.1.0);
    no_link = sym (ap is_link_in parent.1) ∙ reached.no_link;
    named = subst (λ (xs : List ℕ). is_some (first_named tree xs name) ≡ false) (ap children_of parent.1) tests.0.1.1.0;
    room = subst (λ (xs : List ℕ). length xs < 2 ^ 20) (ap children_of parent.1) (not_le (2 ^ 20) (length (children_at tree at.serial)) tests.0.1.1.1.0);
    high = not_le 255 (depth_of tree at.serial) tests.0.1.1.1.1.0;
    left = not_le (2 ^ 48) (length tree.nodes) tests.0.1.1.1.1.1.0;
  }

  pub is_new : with_new tree at.serial (new_node name label) ≡ after
  is_new = same_Ok tests.1

  pub serial_drawn : next_serial after ≡ suc (next_serial tree)
  serial_drawn = joined.serial_drawn tree after at.serial parent.0 (new_node name label) may_join is_new

  pub child_there : node_at after (next_serial tree) ≡ Some (new_node name label)
  child_there = joined.child_there tree after at.serial parent.0 (new_node name label) may_join is_new

  pub last_child : children_at after at.serial ≡ children_at tree at.serial ++ next_serial tree ∷ []
  last_child = joined.last_child tree after at.serial parent.0 (new_node name label) may_join is_new

  pub others_stay : (k : ℕ) → k ≢ at.serial → k ≢ next_serial tree → node_at after k ≡ node_at tree k
  others_stay = joined.others_stay tree after at.serial parent.0 (new_node name label) may_join is_new

  -- an old node has those above it that it had
  pub above_stay : (k : ℕ) → is_some (node_at tree k) ≡ true → lineage after k ≡ lineage tree k
  above_stay = joined.above_stay tree after at.serial parent.0 (new_node name label) may_join is_new

  pub above_child : lineage after (next_serial tree) ≡ next_serial tree ∷ lineage tree at.serial
  above_child = joined.above_child tree after at.serial parent.0 (new_node name label) may_join is_new

  pub child_depth : depth_of after (next_serial tree) ≡ suc (depth_of tree at.serial)
  child_depth = joined.child_depth tree after at.serial parent.0 (new_node name label) may_join is_new
