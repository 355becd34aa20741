-- A node leaves the list of its parent, and joins that of another, or the end of its own.
use Rattle.std.specs.Prelude.{◌≡◌, ℕ, ◌+◌, ◌*◌, ◌/◌, ◌^◌, ◌<◌, ◌≤◌, nat_lt, Bool, true, false, if◌then◌else◌, List, ◌++◌, Option, Some, None}
use Rattle.adf_format.specs.declared.types.Extent.{Extent}
use Rattle.adf_format.specs.declared.types.ExtentKind.{ExtentKind}
use Rattle.adf_format.specs.Hex.{hex_text}
use Rattle.adf_format.specs.HeapRule.{grown_entries}
use Rattle.adf_format.specs.Parts.{table_length}
use Rattle.adf_format.specs.Placement.{Heap}
use Rattle.adf_format.specs.Pointer.{To, pointer_text}
use Rattle.adf_format.specs.Records.{entry_text}
use Rattle.cg_io.specs.Answers.{Then}
use Rattle.file_heap.specs.Heap.{FreeSpace, IsThreaded}
use Rattle.node_reads.specs.declared.header.ChildTable.{ChildTable}
use Rattle.tree_laws.specs.MidEdit.{Puts}
use Rattle.tree_edits.specs.declared.listed.Listed.{Listed}
use Rattle.tree_edits.specs.declared.room.Parent.{Parent}
use Rattle.tree_edits.specs.Joined.{OwnsTable, WritesTable, GivesTable, JoinsUnused}
use Rattle.tree_edits.specs.Left.{MovesUp, LeavesList, entry_place, length_behind}
use Rattle.tree_edits.specs.Linked.{FitsTable, TakesTable}
use Rattle.tree_edits.specs.Waiting.{list_ranges, parent_ranges}
use Rattle.tree_moves.specs.declared.place.Move.{Move}

-- the entry of a node that moves
abbrev pub moved_entry : Move → List ℕ
moved_entry its = entry_text its.source.name (To its.row.place)

-- ---- a longer table

-- the fields of a header that count as many children as before, and name their longer table
abbrev pub kept_fields : ℕ → ℕ → List ℕ
kept_fields place count = hex_text 8 count ++ hex_text 8 (grown_entries count) ++ pointer_text (To place)

-- the longer table of a parent at a place: as many of its entries are in use as before
abbrev pub longer_table : Parent → ℕ → ChildTable
longer_table parent place = record { place = place; entries = grown_entries parent.table.count; count = parent.table.count }

-- the table in which an entry is unused: a parent's own, or a longer one
abbrev pub table_in : Parent → Option ℕ → ChildTable
table_in parent None = parent.table
table_in parent (Some place) = longer_table parent place

-- a longer table is written, with the entry behind those in use, and the header names it
abbrev pub OpensLonger : Parent → ℕ → List ℕ → List ℕ → List ℕ → Type 0
OpensLonger parent place entry =
    Then (WritesTable parent.table place entry)
    (Puts ExtentKind.Node (parent.row.place + 68) 28 (kept_fields place parent.table.count))

abbrev pub OpensIn : Parent → Option ℕ → List ℕ → List ℕ → List ℕ → Type 0
OpensIn parent None entry old new = new ≡ old
OpensIn parent (Some place) entry old new = OpensLonger parent place entry old new

-- ---- the entry

-- a parent with another table
abbrev pub with_table : Parent → ChildTable → Parent
with_table parent table = record parent { table = table }

-- the entry leaves one list, and joins another in an unused entry
abbrev pub MovesOver : Move → ChildTable → List ℕ → List ℕ → List ℕ → Type 0
MovesOver its table entry =
    Then (LeavesList its.source.from.place its.source.listed) (JoinsUnused (with_table its.to table) entry)

-- the entries behind a child's own move up by one, and its own is written behind them
abbrev pub MovesLast : Listed → List ℕ → List ℕ → List ℕ → Type 0
MovesLast listed entry =
    Then (MovesUp (entry_place listed + 44) (entry_place listed) (length_behind listed))
    (Puts ExtentKind.SubNodes (entry_place listed + length_behind listed) 44 entry)

abbrev pub MovesBy : Bool → Move → ChildTable → List ℕ → List ℕ → List ℕ → Type 0
MovesBy true its table entry = MovesLast (record { table = table; position = its.source.listed.position }) entry
MovesBy false its table entry = MovesOver its table entry

-- a table that was replaced is given
abbrev pub ClosesIn : ChildTable → Option ℕ → FreeSpace → FreeSpace → List ℕ → List ℕ → Type 0
ClosesIn table None was now old new = (now ≡ was) × (new ≡ old)
ClosesIn table (Some place) was now old new = GivesTable table was now old new

-- a table ends by the last place, and has as many entries as are in use; one of these is a child's
pub record IsListNear (listed : Listed) : Type 0 where
  pub table : listed.table.place + table_length listed.table.entries ≤ 2 ^ 44
  pub within : listed.position < listed.table.count
  pub few : listed.table.count ≤ listed.table.entries

-- A node is listed as the last child of its new parent.
pub record Relists (limit : ℕ) (its : Move) (was now : FreeSpace) (old new : List ℕ) : Type 0 where
  pub room : Option ℕ
  pub taken : FreeSpace
  pub start : List ℕ
  pub opened : List ℕ
  pub linked : List ℕ
  pub takes : TakesTable limit its.to room was taken old start
  pub fits : FitsTable its.to room
  pub opens : OpensIn its.to room (moved_entry its) start opened
  pub links : MovesBy its.last its (table_in its.to room) (moved_entry its) opened linked
  pub closes : ClosesIn its.to.table room taken now linked new
  pub threads : IsThreaded now new

-- the fields of both headers, and both tables, lie in no gap, and within the bytes
pub record OwnsLists (its : Move) (heap : Heap) (bytes : List ℕ) : Type 0 where
  pub from : OwnsTable (record { row = its.source.from; table = its.source.listed.table }) heap bytes
  pub to : OwnsTable its.to heap bytes

-- what a move writes of its own: in the headers of both parents, and in both tables
abbrev pub move_ranges : Move → List Extent
move_ranges its = list_ranges its.source.from.place its.source.listed.table ++ parent_ranges its.to

-- the blocks that may wait: of a longer table and the header, and of a gift
abbrev pub open_cost : ChildTable → Option ℕ → ℕ
open_cost table None = 0
open_cost table (Some place) = 12 + table_length (grown_entries table.count) / 4096

abbrev pub close_cost : Option ℕ → ℕ
close_cost None = 0
close_cost (Some place) = 12

-- the blocks that may wait: of the entries behind its own, of the count and the new entry, and of a longer table
abbrev pub link_cost : Move → ℕ
link_cost its = 8 + 44 * its.source.listed.table.count / 4096

abbrev pub grow_cost : ChildTable → ℕ
grow_cost table = if nat_lt table.count table.entries then 0 else 24 + table_length (grown_entries table.count) / 4096

abbrev pub move_cost : Move → ℕ
move_cost its = 9 + link_cost its + grow_cost its.to.table
