-- A link is put in its file: room is taken for its header, for a longer table of its parent where that one's is full, and for its chunk; these are written, and the parent lists it.
use Rattle.std.specs.Prelude.{◌≡◌, ◌⊎◌, ℕ, ◌+◌, ◌-◌, ◌^◌, ◌<◌, ◌≤◌, Bool, List, ◌++◌, length, replicate, Option, Some, None, Ok, ⊤}
use Rattle.adf_format.specs.declared.types.ExtentKind.{ExtentKind}
use Rattle.adf_format.specs.Fields.{text_field}
use Rattle.adf_format.specs.HeapRule.{heap_take, give_all, grown_entries, chunk_length_for}
use Rattle.adf_format.specs.Parts.{node_length, table_length}
use Rattle.adf_format.specs.Placement.{Heap}
use Rattle.adf_format.specs.Pointer.{To}
use Rattle.adf_format.specs.Records.{Data, node_text, entry_text}
use Rattle.adf_format.specs.Spelled.{framed_text}
use Rattle.cg_io.specs.Answers.{Then}
use Rattle.file_heap.specs.Heap.{FreeSpace, MayGive, IsThreaded}
use Rattle.tree_laws.specs.MidEdit.{Puts, GivesAll}
use Rattle.tree_laws.specs.NodeJoin.{link_record}
use Rattle.tree_edits.specs.declared.room.Parent.{Parent}
use Rattle.tree_edits.specs.declared.link_rooms.Rooms.{Rooms}
use Rattle.tree_edits.specs.Taken.{Takes, FillsWith, LacksBytes}
use Rattle.tree_edits.specs.Joined.{OwnsTable, AreRangesApart, JoinsUnused, LacksTable, entries_in, extents_of_table, longer_text, table_fields}

-- ---- texts

-- data, and zeros behind them where a chunk has more bytes
abbrev pub filled_up : List ℕ → List ℕ
filled_up text = text ++ replicate (12 - length text) 0

-- the text of a chunk at a place that has these data
abbrev pub chunk_text : ℕ → List ℕ → List ℕ
chunk_text place text = framed_text Data place (filled_up text)

-- ---- takes

-- how long the table is that takes the place of a full one
abbrev pub longer_length : Parent → ℕ
longer_length parent = table_length (grown_entries parent.table.count)

-- room for a longer table near enough to be named, where a parent's table is full; else none
abbrev pub FitsTable : Parent → Option ℕ → Type 0
FitsTable parent None = parent.table.count < parent.table.entries
FitsTable parent (Some place) = (parent.table.entries ≡ parent.table.count) × (place + longer_length parent ≤ 2 ^ 44)

-- room for it is taken where the table is full
abbrev pub TakesTable : ℕ → Parent → Option ℕ → FreeSpace → FreeSpace → List ℕ → List ℕ → Type 0
TakesTable limit parent None was now old new = (now ≡ was) × (new ≡ old)
TakesTable limit parent (Some place) was now old new = Takes limit (longer_length parent) place was now old new

-- the same of the heap alone
abbrev pub HeapTakesTable : ℕ → Parent → Option ℕ → Heap → Heap → Type 0
HeapTakesTable limit parent None was now = (parent.table.count < parent.table.entries) × (now ≡ was)
HeapTakesTable limit parent (Some place) was now =
    (parent.table.entries ≡ parent.table.count) × (heap_take limit (longer_length parent) was ≡ Ok (place, now))

-- room for a header of n bytes, for a longer table where one is needed, and for a chunk of m bytes
pub record TakesRooms (limit n m : ℕ) (parent : Parent) (rooms : Rooms) (was now : FreeSpace) (old new : List ℕ) : Type 0 where
  pub between : FreeSpace
  pub again : FreeSpace
  pub one : List ℕ
  pub two : List ℕ
  pub header : Takes limit n rooms.header was between old one
  pub table : TakesTable limit parent rooms.table between again one two
  pub chunk : Takes limit m rooms.chunk again now two new

-- each of them near enough to be named
pub record AreRoomsNear (n m : ℕ) (parent : Parent) (rooms : Rooms) : Type 0 where
  pub header : rooms.header + n ≤ 2 ^ 44
  pub table : FitsTable parent rooms.table
  pub chunk : rooms.chunk + m ≤ 2 ^ 44

-- the limit leaves no room for the table, or for the chunk behind it
abbrev pub LacksRest : ℕ → ℕ → Parent → Heap → ℕ → ℕ → Type 0
LacksRest limit m parent between asked end =
    LacksTable limit parent between asked end
    ⊎ ((table : Option ℕ) × (again : Heap) × HeapTakesTable limit parent table between again
    × LacksBytes limit m again asked end)

-- the limit leaves no room for the header, or for what is taken behind it
abbrev pub LacksRooms : ℕ → ℕ → ℕ → Parent → Heap → ℕ → ℕ → Type 0
LacksRooms limit n m parent heap asked end =
    LacksBytes limit n heap asked end
    ⊎ ((place : ℕ) × (between : Heap) × (heap_take limit n heap ≡ Ok (place, between)) × LacksRest limit m parent between asked end)

-- ---- what is written

-- the chunk of a link, and then its header
abbrev pub WritesLink : Bool → List ℕ → List ℕ → Rooms → List ℕ → List ℕ → Type 0
WritesLink wide name text rooms =
    Then (FillsWith rooms.chunk (chunk_length_for (length text)) (chunk_text rooms.chunk text))
    (FillsWith rooms.header (node_length wide) (node_text (link_record wide name (length text) rooms.chunk)))

-- The bytes thread the free chunks; a parent's fields, its table and the room for a longer one lie in no gap, and the two tables
-- apart.
pub record MayReplace (parent : Parent) (place : ℕ) (free : FreeSpace) (bytes : List ℕ) : Type 0 where
  pub threads : IsThreaded free bytes
  pub own : OwnsTable parent free.heap bytes
  pub room : MayGive place (longer_length parent) free.heap
  pub apart : 0 < parent.table.count → AreRangesApart parent.table place

-- A longer table is written in its room, the header names it, and the old one is given.
pub record ReplacesTable (parent : Parent) (place : ℕ) (entry : List ℕ) (was now : FreeSpace) (old new : List ℕ) : Type 0 where
  pub written : List ℕ
  pub named : List ℕ
  pub fills : FillsWith place (longer_length parent)
      (longer_text place parent.table.count (entries_in old parent.table) entry) old written
  pub used : entries_in written parent.table ≡ entries_in old parent.table
  pub names : Puts ExtentKind.Node (parent.row.place + 68) 28 (table_fields place parent.table.count) written named
  pub gives : GivesAll (extents_of_table parent.table) was.heap named new
  pub heap : now.heap ≡ give_all (extents_of_table parent.table) was.heap
  pub threads : IsThreaded now new

-- ready for a child to be listed: in an unused entry, or in the room of a longer table
abbrev pub MayList : Parent → Option ℕ → FreeSpace → List ℕ → Type 0
MayList parent None free bytes = ⊤
MayList parent (Some place) free bytes = MayReplace parent place free bytes

-- a child is listed there
abbrev pub ListsIn : Parent → List ℕ → Option ℕ → FreeSpace → FreeSpace → List ℕ → List ℕ → Type 0
ListsIn parent entry None was now old new = (now ≡ was) × JoinsUnused parent entry old new
ListsIn parent entry (Some place) was now old new = ReplacesTable parent place entry was now old new

-- A link is put in its file, and its parent lists it.
pub record PutsLink (limit : ℕ) (wide : Bool) (parent : Parent) (name text : List ℕ) (place : ℕ) (was now : FreeSpace) (old new : List ℕ) : Type 0 where
  pub rooms : Rooms
  pub taken : FreeSpace
  pub made : List ℕ
  pub written : List ℕ
  pub takes : TakesRooms limit (node_length wide) (chunk_length_for (length text)) parent rooms was taken old made
  pub near : AreRoomsNear (node_length wide) (chunk_length_for (length text)) parent rooms
  pub writes : WritesLink wide name text rooms made written
  pub lists : ListsIn parent (entry_text (text_field 32 name) (To rooms.header)) rooms.table taken now written new
  pub here : place ≡ rooms.header
