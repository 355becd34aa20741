-- When a node may move below another, and why it may not: causes that hold also where the bytes are not told.
use Rattle.std.specs.Prelude.{◌≡◌, ◌⊎◌, ℕ, ◌+◌, ◌^◌, ◌≤◌, ◌<◌, ◌==◌, not, Bool, true, false, if◌then◌else◌, List, Option, Some, None, IsSome}
use Rattle.adf_format.specs.RecordFields.{node_length, table_length}
use Rattle.adf_format.specs.RuleNumbers.{IsRule}
use Rattle.adf_model.specs.declared.error.AdfError.{AdfError}
use Rattle.adf_model.specs.declared.error.AdfError.TheVariants as error
use Rattle.adf_model.specs.declared.tree.NodeId.{NodeId}
use Rattle.adf_records.specs.declared.NodeHeader.{NodeHeader}
use Rattle.cg_io.specs.Answers.{IsUntold}
use Rattle.cg_io.specs.Cause.{Rose}
use Rattle.node_reads.specs.declared.find.Wanted.TheVariants.{Name}
use Rattle.node_reads.specs.declared.header.ChildTable.{ChildTable}
use Rattle.node_reads.specs.Reads.{ReadAt}
use Rattle.node_reads.specs.Headers.{IsHeader}
use Rattle.tree_edits.specs.declared.listed.Listed.{Listed}
use Rattle.tree_edits.specs.declared.memory.Core.{Core}
use Rattle.tree_edits.specs.declared.room.Parent.{Parent}
use Rattle.tree_edits.specs.declared.rows.Row.{Row}
use Rattle.tree_edits.specs.Causes.{named_row, HeaderBreaks}
use Rattle.tree_edits.specs.Joined.{LacksTable}
use Rattle.tree_edits.specs.Listed.{NamesTable, TableBreaks, IsListed, IsUnlisted, FindsFirst}
use Rattle.tree_edits.specs.Room.{SaysKind}
use Rattle.tree_edits.specs.Rows.{row_of}
use Rattle.tree_moves.specs.declared.place.Move.{Move}
use Rattle.tree_moves.specs.declared.place.Source.{Source}
use Rattle.tree_moves.specs.Below.{is_below, IsDeepest}

-- ---- the new parent

-- a node that is no link, in a file that may be written, and its table
pub record IsTarget (core : Core) (at : NodeId) (held : Option (List ℕ)) (to : Parent) : Type 0 where
  pub node : SaysKind core at held false to.row
  pub allowed : core.writable ≡ true
  pub named_by : NamesTable core.wide held to.row.place to.table

-- no such node; a link; a file that may not be written; a header that breaks a rule, or its table
abbrev pub IsTargetCause : Core → NodeId → Option (List ℕ) → ℕ → ℕ → AdfError → Type 0
IsTargetCause core at held before now error.ReadFault = IsSome (named_row core at) × Rose before now
IsTargetCause core at held before now (error.Layout rule place) =
    (row : Row) × (named_row core at ≡ Some row) × TableBreaks core.wide held row.place rule place
IsTargetCause core at held before now error.NoSuchNode = named_row core at ≡ None
IsTargetCause core at held before now error.LinkMissing = (row : Row) × SaysKind core at held true row
IsTargetCause core at held before now error.ReadOnly = ((row : Row) × SaysKind core at held false row) × (core.writable ≡ false)
IsTargetCause core at held before now other = ⊥

-- ---- the old parent

-- a node with this row has a parent, and another one does not stand below it
pub record LeavesParent (core : Core) (node at : NodeId) (row : Row) (parent : ℕ) : Type 0 where
  pub above : row.parent ≡ Some parent
  pub outside : is_below core.rows.items node.serial row.depth at.serial ≡ false

-- it is the root, or the other one stands below it
abbrev pub LacksParent : Core → NodeId → NodeId → Row → AdfError → Type 0
LacksParent core node at row error.NotAChild = row.parent ≡ None
LacksParent core node at row error.IntoItself =
    IsSome row.parent × (is_below core.rows.items node.serial row.depth at.serial ≡ true)
LacksParent core node at row other = ⊥

-- where a node is listed, and the name in its header
pub record IsSource (core : Core) (held : Option (List ℕ)) (row : Row) (parent : ℕ) (source : Source) : Type 0 where
  pub from : row_of core.rows.items parent ≡ Some source.from
  pub listed : IsListed core held row.place parent source.listed
  pub header : NodeHeader
  pub read : ReadAt held row.place (node_length core.wide) (IsHeader core.wide row.place None header)
  pub name : source.name ≡ header.name

-- its entry is not found, or its header breaks a rule
abbrev pub SourceBreaks : Core → Option (List ℕ) → Row → ℕ → ℕ → ℕ → Type 0
SourceBreaks core held row parent rule at =
    IsUnlisted core held row.place parent rule at ⊎ HeaderBreaks core.wide held row.place rule at

-- ---- the name, and room

-- an entry was found, and another than one's own
abbrev pub clashes : Option ℕ → Option ℕ → Bool
clashes None own = false
clashes (Some i) None = true
clashes (Some i) (Some own) = not (i == own)

-- the first entry of a table with a name, and whether that is another than one's own
pub record LooksUp (held : Option (List ℕ)) (table : ChildTable) (name : List ℕ) (own : Option ℕ) (clash : Bool) : Type 0 where
  pub entry : Option ℕ
  pub first : FindsFirst held table (Name name) entry
  pub free : clashes entry own ≡ clash

-- a node with so many children has room for one that moves with the deepest node below it
pub record HasMoveRoom (core : Core) (node : NodeId) (row : Row) (to : Parent) : Type 0 where
  pub few : to.table.count < 2 ^ 20
  pub deepest : ℕ
  pub is : IsDeepest core.rows.items node.serial row.depth deepest
  pub fits : to.row.depth + 1 + deepest ≤ 255 + row.depth

-- why it has none, in this order
abbrev pub LacksMoveRoom : Core → NodeId → Row → Parent → AdfError → Type 0
LacksMoveRoom core node row to error.TooManyChildren = 2 ^ 20 ≤ to.table.count
LacksMoveRoom core node row to error.TooDeep =
    (to.table.count < 2 ^ 20)
    × ((deepest : ℕ) × IsDeepest core.rows.items node.serial row.depth deepest × (255 + row.depth < to.row.depth + 1 + deepest))
LacksMoveRoom core node row to other = ⊥

-- ---- the move

-- a node with this row and a new parent, in a file that may be written
pub record MayTry (core : Core) (node at : NodeId) (held : Option (List ℕ)) (row : Row) (to : Parent) : Type 0 where
  pub found : named_row core node ≡ Some row
  pub target : IsTarget core at held to

-- the same, where the new parent does not stand below it
pub record MayLeave (core : Core) (node at : NodeId) (held : Option (List ℕ)) (row : Row) (to : Parent) (parent : ℕ) : Type 0 where
  pub may : MayTry core node at held row to
  pub leaves : LeavesParent core node at row parent

-- the entry of a node in the table of its new parent: none where that is another than the old one
abbrev pub own_entry : Bool → Listed → Option ℕ
own_entry last listed = if last then Some listed.position else None

-- the same, with its entry and its name, and the first entry with that name in the table of the new parent
pub record HasLooked (core : Core) (node at : NodeId) (held : Option (List ℕ)) (row : Row) (to : Parent) (source : Source) (parent : ℕ) (last clash : Bool) : Type 0 where
  pub may : MayLeave core node at held row to parent
  pub source_is : IsSource core held row parent source
  pub last_is : last ≡ (parent == at.serial)
  pub same : last ≡ true → to.table ≡ source.listed.table
  pub name : LooksUp held to.table source.name (own_entry last source.listed) clash

-- a node that moves: no other child of its new parent has its name, and there is room
pub record MayMove (core : Core) (node at : NodeId) (held : Option (List ℕ)) (its : Move) : Type 0 where
  pub parent : ℕ
  pub looked : HasLooked core node at held its.row its.to its.source parent its.last false
  pub room : HasMoveRoom core node its.row its.to

-- the tables end by the last place, and have as many entries as are in use
pub record IsMoveNear (its : Move) : Type 0 where
  pub few : its.to.table.count ≤ its.to.table.entries
  pub to : its.to.table.place + table_length its.to.table.entries ≤ 2 ^ 44
  pub from : its.source.listed.table.place + table_length its.source.listed.table.entries ≤ 2 ^ 44

abbrev pub IsMovable : Core → NodeId → NodeId → Option (List ℕ) → Type 0
IsMovable core node at held = (its : Move) × MayMove core node at held its

-- a node that looked, and another child of the new parent has its name
pub record IsTaken (core : Core) (node at : NodeId) (held : Option (List ℕ)) : Type 0 where
  pub row : Row
  pub to : Parent
  pub source : Source
  pub parent : ℕ
  pub last : Bool
  pub looked : HasLooked core node at held row to source parent last true

-- no other has it, and the new parent has no room
pub record IsCrowded (core : Core) (node at : NodeId) (held : Option (List ℕ)) (e : AdfError) : Type 0 where
  pub row : Row
  pub to : Parent
  pub source : Source
  pub parent : ℕ
  pub last : Bool
  pub looked : HasLooked core node at held row to source parent last false
  pub lacks : LacksMoveRoom core node row to e

-- a node that is not moved away from its parent, as it has none, or the new one stands below it
pub record IsHeld (core : Core) (node at : NodeId) (held : Option (List ℕ)) (e : AdfError) : Type 0 where
  pub row : Row
  pub to : Parent
  pub may : MayTry core node at held row to
  pub lacks : LacksParent core node at row e

-- a rule that the header of the new parent breaks, or its table, or that of the old one, or the header of the node
abbrev pub MoveBreaks : Core → NodeId → NodeId → Option (List ℕ) → ℕ → ℕ → Type 0
MoveBreaks core node at held rule place =
    (IsSome (named_row core node) × ((row : Row) × (named_row core at ≡ Some row) × TableBreaks core.wide held row.place rule place))
    ⊎ ((row : Row) × (to : Parent) × (parent : ℕ) × MayLeave core node at held row to parent × SourceBreaks core held row parent rule place)

-- before anything is taken: no such node; a link; a file that may not be written; the root; below itself; the name; no room
abbrev pub IsPlaceCause : Core → NodeId → NodeId → Option (List ℕ) → ℕ → ℕ → AdfError → Type 0
IsPlaceCause core node at held before now error.ReadFault =
    IsSome (named_row core node) × IsSome (named_row core at) × Rose before now
IsPlaceCause core node at held before now (error.Layout rule place) = MoveBreaks core node at held rule place
IsPlaceCause core node at held before now error.NoSuchNode = (named_row core node ≡ None) ⊎ (named_row core at ≡ None)
IsPlaceCause core node at held before now error.LinkMissing =
    IsSome (named_row core node) × ((row : Row) × SaysKind core at held true row)
IsPlaceCause core node at held before now error.ReadOnly =
    IsSome (named_row core node) × ((row : Row) × SaysKind core at held false row) × (core.writable ≡ false)
IsPlaceCause core node at held before now error.NotAChild = IsHeld core node at held error.NotAChild
IsPlaceCause core node at held before now error.IntoItself = IsHeld core node at held error.IntoItself
IsPlaceCause core node at held before now error.Duplicate = IsTaken core node at held
IsPlaceCause core node at held before now error.TooManyChildren = IsCrowded core node at held error.TooManyChildren
IsPlaceCause core node at held before now error.TooDeep = IsCrowded core node at held error.TooDeep
IsPlaceCause core node at held before now other = ⊥

-- of a move: one of these; want of memory, no room, or a rule that bytes break that are not told
abbrev pub IsMoveCause : Core → NodeId → NodeId → Option (List ℕ) → ℕ → ℕ → AdfError → Type 0
IsMoveCause core node at held before now error.Memory = IsMovable core node at held
IsMoveCause core node at held before now (error.Full asked end) =
    (its : Move) × MayMove core node at held its × LacksTable core.heap.limit its.to core.heap.work.heap asked end
IsMoveCause core node at held before now (error.Layout rule place) =
    MoveBreaks core node at held rule place ⊎ (IsMovable core node at held × IsRule rule × IsUntold held)
IsMoveCause core node at held before now other = IsPlaceCause core node at held before now other
