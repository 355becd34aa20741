-- When a node may get a new child, and why it may not.
use Rattle.std.specs.Prelude.{◌≡◌, ℕ, ◌^◌, ◌≤◌, ◌<◌, Bool, true, false, List, length, Option, Some, None, IsSome}
use Rattle.adf_format.specs.Fields.{text_field}
use Rattle.adf_format.specs.Names.{is_name, is_label, is_lk}
use Rattle.adf_format.specs.RecordFields.{node_length}
use Rattle.adf_model.specs.declared.error.AdfError.{AdfError}
use Rattle.adf_model.specs.declared.error.AdfError.TheVariants as error
use Rattle.adf_model.specs.declared.tree.NodeId.{NodeId}
use Rattle.adf_records.specs.declared.NodeHeader.{NodeHeader}
use Rattle.cg_io.specs.Cause.{Rose}
use Rattle.node_reads.specs.declared.find.Wanted.TheVariants.{Name}
use Rattle.node_reads.specs.declared.header.ChildTable.{ChildTable}
use Rattle.node_reads.specs.Reads.{ReadAt}
use Rattle.node_reads.specs.Headers.{IsHeader}
use Rattle.tree_edits.specs.declared.memory.Core.{Core}
use Rattle.tree_edits.specs.declared.room.Parent.{Parent}
use Rattle.tree_edits.specs.declared.rows.Row.{Row}
use Rattle.tree_edits.specs.Causes.{named_row}
use Rattle.tree_edits.specs.Listed.{NamesTable, TableBreaks, FindsFirst}

-- what was read of the header of a node says that it is a link, or that it is none
pub record SaysKind (core : Core) (at : NodeId) (held : Option (List ℕ)) (link : Bool) (row : Row) : Type 0 where
  pub found : named_row core at ≡ Some row
  pub header : NodeHeader
  pub read : ReadAt held row.place (node_length core.wide) (IsHeader core.wide row.place None header)
  pub kind : is_lk header.kind ≡ link

-- a node that is no link, in a file that may be written, and a name and a label
pub record MayAsk (core : Core) (at : NodeId) (name label : List ℕ) (held : Option (List ℕ)) (row : Row) : Type 0 where
  pub node : SaysKind core at held false row
  pub allowed : core.writable ≡ true
  pub named : is_name name ≡ true
  pub labelled : is_label label ≡ true

-- the same, and the first child of its table that has the name, or none
pub record HasAsked (core : Core) (at : NodeId) (name label : List ℕ) (held : Option (List ℕ)) (row : Row) (table : ChildTable) (found : Option ℕ) : Type 0 where
  pub may : MayAsk core at name label held row
  pub named_by : NamesTable core.wide held row.place table
  pub first : FindsFirst held table (Name (text_field 32 name)) found

-- a node with so many children, so far below the root, may have one more, where so many serials were drawn
pub record HasRoom (count depth drawn : ℕ) : Type 0 where
  pub few : count < 2 ^ 20
  pub shallow : depth < 255
  pub left : drawn < 2 ^ 48

-- why it may not, in this order
abbrev pub IsRoomRefusal : ℕ → ℕ → ℕ → AdfError → Type 0
IsRoomRefusal count depth drawn error.TooManyChildren = 2 ^ 20 ≤ count
IsRoomRefusal count depth drawn error.TooDeep = (count < 2 ^ 20) × (255 ≤ depth)
IsRoomRefusal count depth drawn error.TooLarge = (count < 2 ^ 20) × (depth < 255) × (2 ^ 48 ≤ drawn)
IsRoomRefusal count depth drawn other = ⊥

-- a node that gets a child: none of its children has the name, and there is room
pub record MayCreate (core : Core) (at : NodeId) (name label : List ℕ) (held : Option (List ℕ)) (parent : Parent) : Type 0 where
  pub asked : HasAsked core at name label held parent.row parent.table None
  pub room : HasRoom parent.table.count parent.row.depth (length core.rows.items)

-- a node without room for a child
pub record LacksRoom (core : Core) (at : NodeId) (name label : List ℕ) (held : Option (List ℕ)) (e : AdfError) : Type 0 where
  pub row : Row
  pub table : ChildTable
  pub asked : HasAsked core at name label held row table None
  pub lacks : IsRoomRefusal table.count row.depth (length core.rows.items) e

-- of a new child: no such node; a link; a file that may not be written; no name; no label; a child has the name; no room
abbrev pub IsRoomCause : Core → NodeId → List ℕ → List ℕ → Option (List ℕ) → ℕ → ℕ → AdfError → Type 0
IsRoomCause core at name label held before now error.ReadFault = IsSome (named_row core at) × Rose before now
IsRoomCause core at name label held before now (error.Layout rule place) =
    (row : Row) × (named_row core at ≡ Some row) × TableBreaks core.wide held row.place rule place
IsRoomCause core at name label held before now error.NoSuchNode = named_row core at ≡ None
IsRoomCause core at name label held before now error.LinkMissing = (row : Row) × SaysKind core at held true row
IsRoomCause core at name label held before now error.ReadOnly =
    ((row : Row) × SaysKind core at held false row) × (core.writable ≡ false)
IsRoomCause core at name label held before now error.BadName =
    ((row : Row) × SaysKind core at held false row) × (core.writable ≡ true) × (is_name name ≡ false)
IsRoomCause core at name label held before now error.BadLabel =
    ((row : Row) × SaysKind core at held false row) × (core.writable ≡ true) × (is_name name ≡ true)
    × (is_label label ≡ false)
IsRoomCause core at name label held before now error.Duplicate =
    (row : Row) × (table : ChildTable) × (i : ℕ) × HasAsked core at name label held row table (Some i)
IsRoomCause core at name label held before now error.TooManyChildren = LacksRoom core at name label held error.TooManyChildren
IsRoomCause core at name label held before now error.TooDeep = LacksRoom core at name label held error.TooDeep
IsRoomCause core at name label held before now error.TooLarge = LacksRoom core at name label held error.TooLarge
IsRoomCause core at name label held before now other = ⊥
