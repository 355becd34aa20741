-- When a node gets another name, and why it does not.
use Rattle.std.specs.Prelude.{◌≡◌, ℕ, Bool, true, false, List, Option, Some, None, IsSome}
use Rattle.adf_format.specs.Fields.{text_field}
use Rattle.adf_format.specs.Names.{is_name}
use Rattle.adf_model.specs.declared.error.AdfError.{AdfError}
use Rattle.adf_model.specs.declared.error.AdfError.TheVariants as error
use Rattle.adf_model.specs.declared.tree.NodeId.{NodeId}
use Rattle.cg_io.specs.Cause.{Rose}
use Rattle.node_reads.specs.declared.find.Wanted.TheVariants.{Name}
use Rattle.node_reads.specs.declared.header.ChildTable.{ChildTable}
use Rattle.tree_edits.specs.declared.listed.Listed.{Listed}
use Rattle.tree_edits.specs.declared.memory.Core.{Core}
use Rattle.tree_edits.specs.declared.rows.Row.{Row}
use Rattle.tree_edits.specs.Causes.{named_row}
use Rattle.tree_edits.specs.Listed.{IsTableOf, IsListed, IsUnlisted, FindsFirst, is_another}

-- the row of a node that has a parent
pub record IsChildRow (core : Core) (node : NodeId) (row : Row) (parent : ℕ) : Type 0 where
  pub found : named_row core node ≡ Some row
  pub above : row.parent ≡ Some parent

-- what is tested before any byte is read: the node is a child, the file may be written, and it is a name
pub record MayLook (core : Core) (node : NodeId) (name : List ℕ) : Type 0 where
  pub row : Row
  pub parent : ℕ
  pub child : IsChildRow core node row parent
  pub allowed : core.writable ≡ true
  pub good : is_name name ≡ true

-- where a node is listed, and the first entry of its parent's table that has a name; none, where none has
pub record Looked (core : Core) (node : NodeId) (name : List ℕ) (held : Option (List ℕ)) (another : Bool) : Type 0 where
  pub may : MayLook core node name
  pub listed : Listed
  pub is : IsListed core held may.row.place may.parent listed
  pub found : Option ℕ
  pub first : FindsFirst held listed.table (Name (text_field 32 name)) found
  pub other : is_another found listed.position ≡ another

-- a node that gets a name: no other child of its parent has it
abbrev pub MayRename : Core → NodeId → List ℕ → Option (List ℕ) → Type 0
MayRename core node name held = Looked core node name held false

-- a table is that of a node's parent
pub record IsTableAbove (core : Core) (node : NodeId) (held : Option (List ℕ)) (table : ChildTable) : Type 0 where
  pub row : Row
  pub parent : ℕ
  pub child : IsChildRow core node row parent
  pub table_is : IsTableOf core held parent table

-- of a name: no such node; a file that may not be written; the root; no name; another child of the parent has it
abbrev pub IsNameCause : Core → NodeId → List ℕ → Option (List ℕ) → ℕ → ℕ → AdfError → Type 0
IsNameCause core node name held before now error.Memory = MayRename core node name held
IsNameCause core node name held before now error.ReadFault = MayLook core node name × Rose before now
IsNameCause core node name held before now (error.Layout rule at) =
    (may : MayLook core node name) × IsUnlisted core held may.row.place may.parent rule at
IsNameCause core node name held before now error.NoSuchNode = named_row core node ≡ None
IsNameCause core node name held before now error.ReadOnly = IsSome (named_row core node) × (core.writable ≡ false)
IsNameCause core node name held before now error.NotAChild =
    (core.writable ≡ true) × ((row : Row) × (named_row core node ≡ Some row) × (row.parent ≡ None))
IsNameCause core node name held before now error.BadName =
    (core.writable ≡ true) × ((row : Row) × (parent : ℕ) × IsChildRow core node row parent) × (is_name name ≡ false)
IsNameCause core node name held before now error.Duplicate = Looked core node name held true
IsNameCause core node name held before now other = ⊥
