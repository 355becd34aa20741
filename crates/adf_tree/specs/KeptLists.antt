-- The lists of children that are kept, over an edit.
use Rattle.std.specs.Prelude.{◌≡◌, ℕ, ◌&&◌, true, if◌then◌else◌, List, Option, None, Some, IsSome, Ok, ⊤}
use Rattle.std.specs.Option.{option_and_then}
use Rattle.adf_format.specs.Tree.{IsTree, Tree, next_serial, node_at, parent_of}
use Rattle.adf_model.specs.Edits.{IsReached, apply}
use Rattle.adf_model.specs.declared.tree.Edit.{Edit}
use Rattle.adf_format.specs.Names.{is_label, is_name}
use Rattle.adf_model.specs.Counts.{Rose}
use Rattle.adf_model.specs.declared.error.AdfError.{AdfError}
use Rattle.adf_model.specs.declared.error.AdfError.TheVariants as error
use Rattle.adf_model.specs.declared.tree.Edit.TheVariants.{Create, Link, Move, Rename}
use Rattle.adf_model.specs.declared.tree.NodeId.{NodeId}
use Rattle.adf_tree.specs.Files.{FileState}
use Rattle.kept_asks.specs.Named.{children_in}
use Rattle.kept_names.specs.Kept.{AreKept, Children, NamesState, list_at}
use Rattle.tree_edits.specs.declared.rows.Row.{Row}
use Rattle.tree_edits.specs.Rows.{row_of}
use Rattle.adf_tree.specs.Steps.{drawn_by}

-- the parent that a row names
abbrev pub parent_by : Option Row → Option ℕ
parent_by None = None
parent_by (Some row) = row.parent

-- the parent of a node that an edit renames or takes elsewhere, by the rows
abbrev pub above_in : List (Option Row) → Edit → Option ℕ
above_in rows (Rename node wanted) = parent_by (row_of rows node.serial)
above_in rows (Move node to) = parent_by (row_of rows node.serial)
above_in rows edit = None

-- and that it is, of a tree
abbrev pub IsAbove : Tree → Edit → Option ℕ → Type 0
IsAbove tree (Rename node wanted) above = IsSome (node_at tree node.serial) → above ≡ parent_of tree node.serial
IsAbove tree (Move node to) above = IsSome (node_at tree node.serial) → above ≡ parent_of tree node.serial
IsAbove tree edit above = ⊤

-- lists that are those of the children of a tree are those of the tree of an edit
abbrev pub FollowsEdit : Edit → Option ℕ → Option ℕ → NamesState → NamesState → Type 0
FollowsEdit edit above drawn old new =
    (tree after : Tree) (was : Children) → IsTree tree → IsReached tree edit → apply tree edit ≡ Ok after → IsAbove tree edit above
    → drawn ≡ drawn_by edit (next_serial tree) → AreKept old (children_in tree) was → AreKept new (children_in after) was

-- the children that are kept of the parent of a node
abbrev pub siblings_at : List (Option Row) → NamesState → ℕ → Option (List (List ℕ × ℕ))
siblings_at rows names serial = option_and_then (λ parent. list_at names parent) (parent_by (row_of rows serial))

-- the node that an edit gives a child, where the child may have its name and its label
abbrev pub new_parent : Edit → Option NodeId
new_parent (Create at name label) = if is_name name && is_label label then Some at else None
new_parent (Link at name file path) = if is_name name then Some at else None
new_parent edit = None

-- a read fails before such an edit of a live node, in a file that may be written
pub record IsReadStop (edit : Edit) (old new : FileState) (e : AdfError) : Type 0 where
  pub at : NodeId
  pub parent : new_parent edit ≡ Some at
  pub live : IsSome (row_of old.core.rows.items at.serial)
  pub allowed : old.core.writable ≡ true
  pub read : e ≡ error.ReadFault
  pub rose : Rose old.device.faults new.device.faults
