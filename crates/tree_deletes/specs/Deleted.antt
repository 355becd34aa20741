-- When a node is deleted with all below it, and why it is not.
use Rattle.std.specs.Prelude.{◌≡◌, ◌⊎◌, ℕ, ◌+◌, true, false, List, Option, Some, None, IsSome}
use Rattle.adf_format.specs.RuleNumbers.{IsRule}
use Rattle.adf_model.specs.declared.error.AdfError.{AdfError}
use Rattle.adf_model.specs.declared.error.AdfError.TheVariants as error
use Rattle.adf_model.specs.declared.tree.NodeId.{NodeId}
use Rattle.cg_io.specs.Cause.{Rose}
use Rattle.tree_edits.specs.declared.listed.Listed.{Listed}
use Rattle.tree_edits.specs.declared.memory.Core.{Core}
use Rattle.tree_edits.specs.declared.rows.Row.{Row}
use Rattle.tree_edits.specs.Causes.{named_row}
use Rattle.tree_edits.specs.Left.{leave_cost}
use Rattle.tree_edits.specs.Listed.{IsListed, IsUnlisted}
use Rattle.tree_edits.specs.Names.{IsChildRow}
use Rattle.tree_edits.specs.Rows.{row_of}
use Rattle.tree_deletes.specs.declared.doomed.Doomed.{Doomed}
use Rattle.tree_deletes.specs.Doomed.{IsSubtree, MeansNone}
use Rattle.tree_deletes.specs.Given.{gift_cost}

-- what is tested before any byte is read: the node is a child, and the file may be written
pub record MayLook (core : Core) (node : NodeId) : Type 0 where
  pub row : Row
  pub parent : ℕ
  pub child : IsChildRow core node row parent
  pub allowed : core.writable ≡ true

-- a node that is to be deleted: the row of its parent, where it is listed, and the nodes of its subtree
pub record IsDeletion (core : Core) (node : NodeId) (held : Option (List ℕ)) (above : Row) (listed : Listed) (nodes : List Doomed) : Type 0 where
  pub may : MayLook core node
  pub found : row_of core.rows.items may.parent ≡ Some above
  pub is : IsListed core held may.row.place may.parent listed
  pub below : IsSubtree core held node.serial nodes

pub record MayDelete (core : Core) (node : NodeId) (held : Option (List ℕ)) : Type 0 where
  pub above : Row
  pub listed : Listed
  pub nodes : List Doomed
  pub is : IsDeletion core node held above listed nodes

-- of a deletion: no such node; a file that may not be written; the root
abbrev pub IsDeleteCause : Core → NodeId → Option (List ℕ) → ℕ → ℕ → AdfError → Type 0
IsDeleteCause core node held before now error.Memory = MayLook core node
IsDeleteCause core node held before now error.ReadFault = MayLook core node × Rose before now
IsDeleteCause core node held before now (error.Layout rule at) =
    (may : MayLook core node)
    × (IsUnlisted core held may.row.place may.parent rule at ⊎ (IsRule rule × MeansNone core held))
IsDeleteCause core node held before now error.NoSuchNode = named_row core node ≡ None
IsDeleteCause core node held before now error.ReadOnly = IsSome (named_row core node) × (core.writable ≡ false)
IsDeleteCause core node held before now error.NotAChild =
    (core.writable ≡ true) × ((row : Row) × (named_row core node ≡ Some row) × (row.parent ≡ None))
IsDeleteCause core node held before now other = ⊥

-- the blocks that may wait: none before the subtree is known, and then those of the list and of the parts
abbrev pub DeletesWithin : Core → NodeId → Option (List ℕ) → ℕ → Type 0
DeletesWithin core node held n =
    (n ≡ 0) ⊎ ((m : MayDelete core node held) × (n ≡ leave_cost m.listed + gift_cost m.nodes))
