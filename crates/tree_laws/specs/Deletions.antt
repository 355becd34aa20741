-- What a deletion leaves of the tree, as the table of the nodes needs it.
use Rattle.std.specs.Prelude.{◌≡◌, ◌≢◌, ℕ, true, false, Some, None, Ok, ◌==◌, if◌then◌else◌, count_by}
use Rattle.adf_format.specs.Tree.{Tree, IsTree, node_at, is_live, children_at, next_serial, parent_of, depth_of, lineage, is_within, descend, name_at}
use Rattle.adf_model.specs.declared.tree.Edit.{Edit}
use Rattle.adf_model.specs.declared.tree.NodeId.{NodeId}
use Rattle.adf_model.specs.Edits.{apply, other_children}

-- serials, names and lineages stay, and so do all nodes but the parent
abbrev pub DeletedInItsTree : Type 0
DeletedInItsTree =
    (tree after : Tree) (node : NodeId) → IsTree tree → apply tree (Edit.Delete node) ≡ Ok after
    → (next_serial after ≡ next_serial tree)
    × ((k : ℕ) → is_within tree node.serial k ≡ true → node_at after k ≡ None)
    × ((k : ℕ) → is_live tree k ≡ true → is_within tree node.serial k ≡ false → (is_live after k ≡ true) × (lineage after k ≡ lineage tree k) × (name_at after k ≡ name_at tree k))
    × ((k : ℕ) → parent_of tree node.serial ≢ Some k → is_within tree node.serial k ≡ false → node_at after k ≡ node_at tree k)

-- what a deletion leaves of parents, depths and children; the node's parent and the root are not below it
abbrev pub DeletedAbove : Type 0
DeletedAbove =
    (tree after : Tree) (node : NodeId) (parent : ℕ) → IsTree tree
    → apply tree (Edit.Delete node) ≡ Ok after → parent_of tree node.serial ≡ Some parent
    → IsTree after × (is_within tree node.serial parent ≡ false) × (is_within tree node.serial 0 ≡ false)
    × (children_at after parent ≡ other_children tree parent node.serial)
    × ((k : ℕ) → k ≢ parent → is_within tree node.serial k ≡ false → children_at after k ≡ children_at tree k)
    × ((k : ℕ) → is_live tree k ≡ true → is_within tree node.serial k ≡ false → (parent_of after k ≡ parent_of tree k) × (depth_of after k ≡ depth_of tree k))

-- a walk down from a node meets its subtree, each node once
abbrev pub WalksListSubtrees : Type 0
WalksListSubtrees =
    (tree : Tree) (top : ℕ) → IsTree tree → is_live tree top ≡ true → (k : ℕ)
    → count_by (λ s. s == k) (descend 256 tree top) ≡ (if is_within tree top k then 1 else 0)
