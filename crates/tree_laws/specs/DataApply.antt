-- From an edit of data that is applied to what the laws of its steps ask: the node with its new shape and data, and
-- dimensions that fit their digits.
use Rattle.std.specs.Prelude.{◌≡◌, ℕ, ◌≤◌, Bool, List, length, Some, Ok}
use Rattle.adf_format.specs.Tree.{Tree, Node, IsNode, IsTree, node_at}
use Rattle.adf_model.specs.declared.tree.Edit.{Edit}
use Rattle.adf_model.specs.declared.tree.NodeId.{NodeId}
use Rattle.adf_model.specs.declared.tree.Selection.{Selection}
use Rattle.adf_model.specs.declared.tree.Shape.{Shape}
use Rattle.adf_model.specs.Edits.{IsReached, apply, with_node, with_shape, with_part}
use Rattle.adf_model.specs.Shapes.{dims_of}
use Rattle.tree_laws.specs.DataSwitch.{AreSpelled}
use Rattle.tree_laws.specs.DataEnds.{set_node}

-- the dimensions of a node are at most twelve, and each fits its digits
abbrev pub NodesAreSpelled : Type 0
NodesAreSpelled =
    (wide : Bool) (node : Node) → IsNode wide node → (length node.dims ≤ 12) × AreSpelled wide node.dims

abbrev pub SetDimsApplies : Type 0
SetDimsApplies =
    (tree after : Tree) (at : NodeId) (shape : Shape) → IsTree tree
    → apply tree (Edit.SetDims at shape) ≡ Ok after
    → (node : Node) × (node_at tree at.serial ≡ Some node)
    × (after ≡ with_node tree at.serial (set_node node shape.kind (dims_of shape) (with_shape node shape).bytes))
    × IsTree (with_node tree at.serial (set_node node shape.kind (dims_of shape) (with_shape node shape).bytes))
    × (length (dims_of shape) ≤ 12) × AreSpelled tree.wide (dims_of shape)

abbrev pub PutAllApplies : Type 0
PutAllApplies =
    (tree after : Tree) (at : NodeId) (given : List ℕ) → IsTree tree → IsReached tree (Edit.PutAll at given)
    → apply tree (Edit.PutAll at given) ≡ Ok after
    → (node : Node) × (node_at tree at.serial ≡ Some node)
    × (after ≡ with_node tree at.serial (record node { bytes = Some given }))
    × IsTree (with_node tree at.serial (record node { bytes = Some given }))

abbrev pub PutPartApplies : Type 0
PutPartApplies =
    (tree after : Tree) (at : NodeId) (selection : Selection) (given : List ℕ) → IsTree tree
    → IsReached tree (Edit.PutPart at selection given)
    → apply tree (Edit.PutPart at selection given) ≡ Ok after
    → (node : Node) × (node_at tree at.serial ≡ Some node)
    × (after ≡ with_node tree at.serial (record node { bytes = (with_part node selection given).bytes }))
    × IsTree (with_node tree at.serial (record node { bytes = (with_part node selection given).bytes }))
