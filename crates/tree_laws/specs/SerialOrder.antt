-- The gifts of a deletion by serial, and the walk that finds them, in order.
use Rattle.std.specs.Prelude.{◌≡◌, true, List, map, is_some, Ok, ℕ}
use Rattle.std.specs.List.{flat_map}
use Rattle.std.specs.List.Sorted.{IsPermutation, IsNonDecreasing}
use Rattle.adf_format.specs.Tree.{Tree, IsTree, is_live, subtree, descend}
use Rattle.adf_format.specs.Placement.{Placement, parts_of, extents_of}
use Rattle.adf_model.specs.declared.tree.Edit.{Edit}
use Rattle.adf_model.specs.declared.tree.NodeId.{NodeId}
use Rattle.adf_model.specs.Edits.{apply}
use Rattle.tree_laws.specs.Plans.{plan_deleted}

-- what a deletion gives are the parts of the nodes of the subtree, by serial
abbrev pub GivenBySerial : Type 0
GivenBySerial =
    (tree after : Tree) (p : Placement) (node : NodeId) → IsTree tree
    → map is_some p.parts ≡ map is_some tree.nodes → apply tree (Edit.Delete node) ≡ Ok after
    → (plan_deleted after p).given ≡ flat_map (λ serial. extents_of tree.wide (parts_of p serial)) (subtree tree node.serial)

-- a walk down from a node, sorted, is its subtree
abbrev pub SortedWalkIsSubtree : Type 0
SortedWalkIsSubtree =
    (tree : Tree) (top : ℕ) (serials : List ℕ) → IsTree tree → is_live tree top ≡ true
    → IsPermutation (descend 256 tree top) serials → IsNonDecreasing serials → serials ≡ subtree tree top
