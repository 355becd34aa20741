-- When a node gets a link, and why it does not: causes that hold also where the bytes are not told.
use Rattle.std.specs.Prelude.{◌≡◌, ◌⊎◌, ℕ, ◌+◌, ◌^◌, ◌<◌, ◌≤◌, Bool, true, false, ◌&&◌, if◌then◌else◌, List, [], length, Option, None, IsSome}
use Rattle.adf_format.specs.HeapRule.{chunk_length_for}
use Rattle.adf_format.specs.Links.{is_link_file, is_link_path, link_text}
use Rattle.adf_format.specs.RecordFields.{node_length}
use Rattle.adf_format.specs.RuleNumbers.{IsRule}
use Rattle.adf_model.specs.declared.error.AdfError.{AdfError}
use Rattle.adf_model.specs.declared.error.AdfError.TheVariants as error
use Rattle.adf_model.specs.declared.tree.NodeId.{NodeId}
use Rattle.cg_io.specs.Answers.{IsUntold}
use Rattle.cg_io.specs.Cause.{Rose}
use Rattle.node_reads.specs.declared.header.ChildTable.{ChildTable}
use Rattle.tree_edits.specs.declared.memory.Core.{Core}
use Rattle.tree_edits.specs.declared.room.Parent.{Parent}
use Rattle.tree_edits.specs.declared.rows.Row.{Row}
use Rattle.tree_edits.specs.Causes.{named_row}
use Rattle.tree_edits.specs.Listed.{IsTableOf}
use Rattle.tree_edits.specs.Room.{MayCreate, HasAsked, IsRoomCause}
use Rattle.tree_edits.specs.Joined.{join_cost}
use Rattle.tree_edits.specs.Linked.{LacksRooms}

-- a file and a path are those of a link
abbrev pub are_linked : List ℕ → List ℕ → Bool
are_linked file path = is_link_file file && is_link_path path

-- the refusal of a new node as that of a link: serials are counted only for what is a link
abbrev pub link_error : AdfError → Bool → AdfError
link_error error.TooLarge linked = if linked then error.TooLarge else error.BadLink
link_error other linked = other

-- a node that gets a link, as it would get a node without a label; a file and a path of a link, and a text that is not too long
pub record MayLink (core : Core) (at : NodeId) (name file path : List ℕ) (held : Option (List ℕ)) (parent : Parent) : Type 0 where
  pub room : MayCreate core at name [] held parent
  pub linked : are_linked file path ≡ true
  pub short : length (link_text file path) ≤ 4096

abbrev pub IsLinkable : Core → NodeId → List ℕ → List ℕ → List ℕ → Option (List ℕ) → Type 0
IsLinkable core at name file path held = (parent : Parent) × MayLink core at name file path held parent

-- a node with room for one child more that has the name, however many serials were drawn
pub record HasPlace (core : Core) (at : NodeId) (name : List ℕ) (held : Option (List ℕ)) : Type 0 where
  pub row : Row
  pub table : ChildTable
  pub asked : HasAsked core at name [] held row table None
  pub few : table.count < 2 ^ 20
  pub shallow : row.depth < 255

-- of a link: a node that may not have one more child; no file or no path of a link; a text that is too long, or no serial left
abbrev pub IsLinkRoomCause : Core → NodeId → List ℕ → List ℕ → List ℕ → Option (List ℕ) → ℕ → ℕ → AdfError → Type 0
IsLinkRoomCause core at name file path held before now error.Memory = HasPlace core at name held × (are_linked file path ≡ true)
IsLinkRoomCause core at name file path held before now error.BadLink = HasPlace core at name held × (are_linked file path ≡ false)
IsLinkRoomCause core at name file path held before now error.TooLarge =
    HasPlace core at name held × (are_linked file path ≡ true)
    × ((4096 < length (link_text file path)) ⊎ (2 ^ 48 ≤ length core.rows.items))
IsLinkRoomCause core at name file path held before now other = IsRoomCause core at name [] held before now other

-- of a link whose text may be joined: want of memory, no room, or a rule that bytes break that are not told
abbrev pub IsLinkCause : Core → NodeId → List ℕ → List ℕ → List ℕ → Option (List ℕ) → ℕ → ℕ → AdfError → Type 0
IsLinkCause core at name file path held before now error.ReadFault = IsSome (named_row core at) × Rose before now
IsLinkCause core at name file path held before now (error.Full asked end) =
    (parent : Parent) × MayLink core at name file path held parent
    × LacksRooms core.heap.limit (node_length core.wide) (chunk_length_for (length (link_text file path))) parent
    core.heap.work.heap asked end
IsLinkCause core at name file path held before now (error.Layout rule place) =
    IsLinkRoomCause core at name file path held before now (error.Layout rule place)
    ⊎ (IsLinkable core at name file path held × IsRule rule × IsUntold held)
IsLinkCause core at name file path held before now other = IsLinkRoomCause core at name file path held before now other

-- the blocks that may wait: none before the table is known, and then those of the link and of the table
abbrev pub LinksWithin : Core → NodeId → Option (List ℕ) → ℕ → Type 0
LinksWithin core at held n =
    (n ≡ 0) ⊎ ((table : ChildTable) × IsTableOf core held at.serial table × (n ≡ 32 + join_cost table))
