-- A new child is listed as the last of its parent: in an unused entry, or in a longer table.
use Rattle.std.specs.Prelude.{◌≡◌, ◌⊎◌, ℕ, suc, ◌+◌, ◌-◌, ◌*◌, ◌/◌, ◌^◌, ◌<◌, ◌≤◌, nat_lt, if◌then◌else◌, List, [], ◌∷◌, ◌++◌, length}
use Rattle.adf_format.specs.declared.types.Extent.{Extent}
use Rattle.adf_format.specs.declared.types.ExtentKind.{ExtentKind}
use Rattle.adf_format.specs.Fields.{field}
use Rattle.adf_format.specs.Hex.{hex_text}
use Rattle.adf_format.specs.HeapBytes.{ChangesOnly}
use Rattle.adf_format.specs.HeapRule.{give_all, grown_entries}
use Rattle.adf_format.specs.Parts.{table_length}
use Rattle.adf_format.specs.Placement.{Heap, extent}
use Rattle.adf_format.specs.Pointer.{To, pointer_text}
use Rattle.adf_format.specs.Records.{SubNodes}
use Rattle.adf_format.specs.Spelled.{framed_text}
use Rattle.adf_model.specs.Creation.{unused_entries}
use Rattle.cg_io.specs.Answers.{Then}
use Rattle.file_heap.specs.Heap.{FreeSpace, MayGive, IsThreaded}
use Rattle.node_reads.specs.declared.header.ChildTable.{ChildTable}
use Rattle.tree_laws.specs.MidEdit.{Puts, GivesAll}
use Rattle.tree_edits.specs.declared.room.Parent.{Parent}
use Rattle.tree_edits.specs.Taken.{TakesText, LacksBytes}

-- a header's fields of its table, and the table, lie in no gap, and within the bytes
pub record OwnsTable (parent : Parent) (heap : Heap) (bytes : List ℕ) : Type 0 where
  pub header : MayGive (parent.row.place + 68) 28 heap
  pub table : 0 < parent.table.entries → MayGive parent.table.place (table_length parent.table.entries) heap
  pub within : 0 < parent.table.entries → parent.table.place + table_length parent.table.entries ≤ length bytes

-- the entries of a table that are in use
abbrev pub entries_in : List ℕ → ChildTable → List ℕ
entries_in bytes table = field bytes (table.place + 16) (44 * table.count)

-- the entries in use of a table do not meet the longer table at a place
abbrev pub AreRangesApart : ChildTable → ℕ → Type 0
AreRangesApart old place =
    (old.place + 16 + 44 * old.count ≤ place) ⊎ (place + table_length (grown_entries old.count) ≤ old.place + 16)

-- the extent of a table: none without entries
abbrev pub extents_of_table : ChildTable → List Extent
extents_of_table table = if nat_lt 0 table.entries then extent ExtentKind.SubNodes table.place (table_length table.entries) ∷ [] else []

-- an unused entry names the child, and the count is one more
abbrev pub JoinsUnused : Parent → List ℕ → List ℕ → List ℕ → Type 0
JoinsUnused parent entry =
    Then (Puts ExtentKind.SubNodes (parent.table.place + 16 + 44 * parent.table.count) 44 entry)
    (Puts ExtentKind.Node (parent.row.place + 68) 8 (hex_text 8 (suc parent.table.count)))

-- the text of a longer table of so many children at a place, with one entry more
abbrev pub longer_text : ℕ → ℕ → List ℕ → List ℕ → List ℕ
longer_text place count used entry =
    framed_text SubNodes place (used ++ entry ++ unused_entries (grown_entries count - suc count))

-- the fields of a header that count children and entries and name the table
abbrev pub table_fields : ℕ → ℕ → List ℕ
table_fields place count = hex_text 8 (suc count) ++ hex_text 8 (grown_entries count) ++ pointer_text (To place)

-- A longer table with the entries in use of another stands at a place, and nothing else changes; where the ranges of both do
-- not meet, and the other lies within the bytes, the entries are those that stood there.
pub record WritesTable (old : ChildTable) (place : ℕ) (entry was now : List ℕ) : Type 0 where
  pub stands : (0 < old.count → AreRangesApart old place × (old.place + 16 + 44 * old.count ≤ length was))
      → field now place (table_length (grown_entries old.count)) ≡ longer_text place old.count (entries_in was old) entry
  pub reaches : place + table_length (grown_entries old.count) ≤ length now
  pub only : ChangesOnly (extent ExtentKind.Node place (table_length (grown_entries old.count)) ∷ []) was now

-- A table is given, where it has entries.
pub record GivesTable (table : ChildTable) (was now : FreeSpace) (old new : List ℕ) : Type 0 where
  pub gives : GivesAll (extents_of_table table) was.heap old new
  pub heap : now.heap ≡ give_all (extents_of_table table) was.heap
  pub threads : IsThreaded now new

-- A longer table takes the place of the old one, which is given.
pub record JoinsLonger (limit : ℕ) (parent : Parent) (entry : List ℕ) (was now : FreeSpace) (old new : List ℕ) : Type 0 where
  pub place : ℕ
  pub between : FreeSpace
  pub written : List ℕ
  pub named : List ℕ
  pub takes : TakesText limit (table_length (grown_entries parent.table.count)) place
      (longer_text place parent.table.count (entries_in old parent.table) entry) was between old written
  pub used : entries_in written parent.table ≡ entries_in old parent.table
  pub near : place + table_length (grown_entries parent.table.count) ≤ 2 ^ 44
  pub names : Puts ExtentKind.Node (parent.row.place + 68) 28 (table_fields place parent.table.count) written named
  pub gives : GivesAll (extents_of_table parent.table) between.heap named new
  pub heap : now.heap ≡ give_all (extents_of_table parent.table) between.heap
  pub threads : IsThreaded now new

-- the one where an entry is unused, and the other where none is
abbrev pub JoinsChild : ℕ → Parent → List ℕ → FreeSpace → FreeSpace → List ℕ → List ℕ → Type 0
JoinsChild limit parent entry was now old new =
    ((parent.table.count < parent.table.entries) × (now ≡ was) × JoinsUnused parent entry old new)
    ⊎ ((parent.table.entries ≡ parent.table.count) × JoinsLonger limit parent entry was now old new)

-- the limit leaves no room for a longer table where one is needed
abbrev pub LacksTable : ℕ → Parent → Heap → ℕ → ℕ → Type 0
LacksTable limit parent heap asked end =
    (parent.table.entries ≡ parent.table.count)
    × LacksBytes limit (table_length (grown_entries parent.table.count)) heap asked end

-- the blocks that may wait
abbrev pub join_cost : ChildTable → ℕ
join_cost table =
    if nat_lt table.count table.entries then 4
    else 33 + table_length (grown_entries table.count) / 4096
