-- Chunks and tables that are put into the room of the heap, and data of another size.
use Rattle.std.specs.Prelude.{◌≡◌, ◌≢◌, ◌⊎◌, ℕ, ◌+◌, ◌-◌, ◌*◌, ◌/◌, ◌^◌, ◌<◌, ◌≤◌, List, [], ◌∷◌, ◌++◌, length, take, replicate, nat_lt, if◌then◌else◌, Option, Some, None, Ok, Err}
use Rattle.std.specs.List.{AllByRecursion}
use Rattle.adf_format.specs.declared.types.Extent.{Extent}
use Rattle.adf_format.specs.Fields.{field}
use Rattle.adf_format.specs.Pointer.{To}
use Rattle.adf_format.specs.Parts.{SpellsChunk, payload, chunk_table_length}
use Rattle.adf_format.specs.Records.{chunk_entry_text}
use Rattle.adf_format.specs.Tiles.{cover}
use Rattle.adf_format.specs.Placement.{Heap, NodeParts, ChunkPart, chunk_table_extents}
use Rattle.adf_format.specs.LaysOut.{HasChunkTable, chunk_pointer, payloads}
use Rattle.adf_format.specs.Spelled.{pointer_to}
use Rattle.adf_format.specs.Changes.{heap_fields}
use Rattle.adf_format.specs.HeapRule.{LimitReached, heap_take, give_all, chunk, chunk_length_for, payload_length, data_extents}
use Rattle.adf_model.specs.Edits.{resized}
use Rattle.adf_model.specs.NodeData.{DataSpot, HoldsData, resized_spot, resized_from, grown_range}
use Rattle.file_heap.specs.Heap.{FreeSpace, IsThreaded, MovesEnd, KeepsFillers}
use Rattle.adf_data.specs.declared.place.DataPlace.{DataPlace}
use Rattle.adf_data.specs.Ranges.{AreIn, byte_place}
use Rattle.adf_data.specs.Runs.{Names}
use Rattle.cg_io.specs.Waits.{how_many}
use Rattle.disk_ptr.specs.View.{view}
use Rattle.adf_data.specs.Sizes.{extents_in, MayGiveAll}

-- the entry of a chunk in a table
abbrev pub entry_of : ChunkPart → List ℕ
entry_of c = chunk_entry_text (To c.place) (To (c.place + c.length - 4))

-- what the heap may write: its own fields, the gaps, and the bytes by which the end grows
abbrev pub room_of : Heap → Heap → List Extent
room_of before after = heap_fields ++ grown_range before after ∷ before.gaps

-- the same beside some extents
abbrev pub changed_ranges : List Extent → Heap → Heap → List Extent
changed_ranges es before after = heap_fields ++ es ++ grown_range before after ∷ before.gaps

-- no byte of the data stands in some ranges
abbrev pub AreClear : List ChunkPart → List Extent → Type 0
AreClear parts ranges = (j : ℕ) → j < payload_length parts → cover ranges (byte_place parts j) ≡ 0

-- a new chunk stands in the room of the heap: the first bytes of the data, and zeros behind them
pub record PutsChunk (parts : List ChunkPart) (kept n place : ℕ) (before after : Heap) (old new : List ℕ) : Type 0 where
  pub spells : SpellsChunk (field new place n) place n
  pub body : AreClear parts (room_of before after) → AreIn parts old → payload new place n ≡ take kept (payloads old parts) ++ replicate (n - 20 - kept) 0

-- a table of some chunks stands at a place, where these end below the greatest place
abbrev pub PutsTable : List ChunkPart → ℕ → List ℕ → Type 0
PutsTable parts place bytes = AllByRecursion (λ (c : ChunkPart). (4 ≤ c.length) × (c.place + c.length ≤ 2 ^ 44)) parts → HasChunkTable bytes parts (Some place)

-- ---- data of another size

-- the length of data, 0 where there are none
abbrev pub IsSizeOf : ℕ → Option (List ℕ) → Type 0
IsSizeOf size None = size ≡ 0
IsSizeOf size (Some bytes) = size ≡ length bytes

-- The data have a size: the chunks stand where the rule places them, the place names them, they hold the first bytes that were
-- there and zeros behind them; the lists thread the free chunks as they are remembered, the end pointer follows the end, and fillers
-- stay so.
pub record Resizes (limit size : ℕ) (now : DataPlace) (bytes : Option (List ℕ)) (spot : DataSpot) (after : NodeParts) (later : FreeSpace) (old new : List ℕ) : Type 0 where
  pub placed : resized_spot limit size spot ≡ Ok (after, later.heap)
  pub named : Names now after
  pub holds : HoldsData new after (Some (resized_from bytes size))
  pub threads : IsThreaded later new
  pub end : MovesEnd spot.1.end later.heap.end old new
  pub fillers : KeepsFillers spot.1.gaps later.heap.gaps old new

-- chunks that the place names in these bytes hold data of a size, and may be given
pub record AreOwn (at : DataPlace) (size : ℕ) (parts : NodeParts) (bytes : Option (List ℕ)) (heap : Heap) (image : List ℕ) : Type 0 where
  pub named : Names at parts
  pub holds : HoldsData image parts bytes
  pub long : IsSizeOf size bytes
  pub apart : MayGiveAll (data_extents parts) heap

-- the same of bytes that are told
abbrev pub Owns : DataPlace → ℕ → NodeParts → Option (List ℕ) → Heap → Option (List ℕ) → Type 0
Owns at size parts bytes heap None = ⊥
Owns at size parts bytes heap (Some image) = AreOwn at size parts bytes heap image

-- whatever data the place names, they have the size afterwards
abbrev pub ResizesData : ℕ → ℕ → ℕ → DataPlace → DataPlace → Heap → FreeSpace → List ℕ → List ℕ → Type 0
ResizesData limit was size at now before later old new =
    (parts : NodeParts) (bytes : Option (List ℕ)) → AreOwn at was parts bytes before old
    → (after : NodeParts) × Resizes limit size now bytes (parts, before) after later old new

-- ---- the two ways to grow

abbrev pub AllSpelled : List ℕ → List ChunkPart → Type 0
AllSpelled image chunks = AllByRecursion (λ (c : ChunkPart). SpellsChunk (field image c.place c.length) c.place c.length) chunks

-- the chunks stand in these bytes with their table, hold so many bytes or more, and may be given
pub record AreReady (table : Option ℕ) (parts : List ChunkPart) (was : ℕ) (heap : Heap) (image : List ℕ) : Type 0 where
  pub table_stands : HasChunkTable image parts table
  pub spelled : AllSpelled image parts
  pub enough : was ≤ payload_length parts
  pub apart : MayGiveAll (extents_in table parts) heap

-- what is added to data stands in the heap as before: lists, end pointer and fillers
pub record KeepsHeap (before : Heap) (later : FreeSpace) (old new : List ℕ) : Type 0 where
  pub threads : IsThreaded later new
  pub end : MovesEnd before.end later.heap.end old new
  pub fillers : KeepsFillers before.gaps later.heap.gaps old new

-- the data were gathered in one new chunk, and the old chunks and their table given
pub record Gathers (limit : ℕ) (table : Option ℕ) (parts : List ChunkPart) (was size : ℕ) (now : DataPlace) (before : Heap) (later : FreeSpace) (old new : List ℕ) : Type 0 where
  pub place : ℕ
  pub between : Heap
  pub taken : heap_take limit (chunk_length_for size) before ≡ Ok (place, between)
  pub gives : later.heap ≡ give_all (extents_in table parts) between
  pub count : now.count ≡ 1
  pub pointer : view now.pointer ≡ To place
  pub spells : SpellsChunk (field new place (chunk_length_for size)) place (chunk_length_for size)
  pub body : payload new place (chunk_length_for size) ≡ take was (payloads old parts) ++ replicate (chunk_length_for size - 20 - was) 0
  pub heap : KeepsHeap before later old new

abbrev pub GathersData : ℕ → Option ℕ → List ChunkPart → ℕ → ℕ → DataPlace → Heap → FreeSpace → List ℕ → List ℕ → Type 0
GathersData limit table parts was size now before later old new = AreReady table parts was before old → Gathers limit table parts was size now before later old new

-- one more chunk was put behind the others, and a table of all, and the old table given
pub record Extends (limit : ℕ) (table : Option ℕ) (parts : List ChunkPart) (was added : ℕ) (now : DataPlace) (before : Heap) (later : FreeSpace) (old new : List ℕ) : Type 0 where
  pub place : ℕ
  pub list : ℕ
  pub middle : Heap
  pub between : Heap
  pub chunk_taken : heap_take limit (chunk_length_for added) before ≡ Ok (place, middle)
  pub table_taken : heap_take limit (chunk_table_length (length parts + 1)) middle ≡ Ok (list, between)
  pub gives : later.heap ≡ give_all (chunk_table_extents table (length parts)) between
  pub count : now.count ≡ length parts + 1
  pub pointer : view now.pointer ≡ To list
  pub table_stands : HasChunkTable new (parts ++ chunk place (chunk_length_for added) ∷ []) (Some list)
  pub spelled : AllSpelled new (parts ++ chunk place (chunk_length_for added) ∷ [])
  pub body : payloads new (parts ++ chunk place (chunk_length_for added) ∷ []) ≡ take was (payloads old parts) ++ replicate (payload_length parts - was + (chunk_length_for added - 20)) 0
  pub heap : KeepsHeap before later old new

abbrev pub ExtendsData : ℕ → Option ℕ → List ChunkPart → ℕ → ℕ → DataPlace → Heap → FreeSpace → List ℕ → List ℕ → Type 0
ExtendsData limit table parts was added now before later old new = AreReady table parts was before old → Extends limit table parts was added now before later old new

-- one of two takes in a row is refused
abbrev pub IsFullAt : ℕ → ℕ → ℕ → Heap → LimitReached → Type 0
IsFullAt limit n m heap full =
    (heap_take limit n heap ≡ Err full) ⊎ ((place : ℕ) × (middle : Heap) × (heap_take limit n heap ≡ Ok (place, middle)) × (heap_take limit m middle ≡ Err full))

-- the data got a size: the chunks stand where the rule places them, with their table, and begin with the first bytes that were
-- there and zeros
pub record Grows (limit : ℕ) (table : Option ℕ) (parts : List ChunkPart) (was size : ℕ) (now : DataPlace) (before : Heap) (later : FreeSpace) (old new : List ℕ) : Type 0 where
  pub chunks : List ChunkPart
  pub list : Option ℕ
  pub placed : (at : NodeParts) → at.chunks ≡ parts → at.chunk_table ≡ table → resized_spot limit size (at, before) ≡ Ok (record at { chunks = chunks; chunk_table = list }, later.heap)
  pub some : chunks ≢ []
  pub count : now.count ≡ length chunks
  pub pointer : view now.pointer ≡ pointer_to (chunk_pointer chunks list)
  pub table_stands : HasChunkTable new chunks list
  pub spelled : AllSpelled new chunks
  pub begins : take size (payloads new chunks) ≡ resized (take was (payloads old parts)) size
  pub heap : KeepsHeap before later old new

abbrev pub GrowsData : ℕ → Option ℕ → List ChunkPart → ℕ → ℕ → DataPlace → Heap → FreeSpace → List ℕ → List ℕ → Type 0
GrowsData limit table parts was size now before later old new = AreReady table parts was before old → Grows limit table parts was size now before later old new

-- the rule refuses the size for such chunks
abbrev pub IsFullFor : ℕ → Option ℕ → List ChunkPart → ℕ → Heap → LimitReached → Type 0
IsFullFor limit table parts size heap full = (at : NodeParts) → at.chunks ≡ parts → at.chunk_table ≡ table → resized_spot limit size (at, heap) ≡ Err full

-- Data were put where there were none: one chunk stands where the rule places it and holds the text, the place names it; the lists
-- thread the free chunks as they are remembered, the end pointer follows the end, and fillers stay so.
pub record Puts (limit : ℕ) (text : List ℕ) (now : DataPlace) (spot : DataSpot) (after : NodeParts) (later : FreeSpace) (old new : List ℕ) : Type 0 where
  pub placed : resized_spot limit (length text) spot ≡ Ok (after, later.heap)
  pub named : Names now after
  pub holds : HoldsData new after (Some text)
  pub heap : KeepsHeap spot.1 later old new

abbrev pub PutsData : ℕ → List ℕ → DataPlace → Heap → FreeSpace → List ℕ → List ℕ → Type 0
PutsData limit text now before later old new =
    (parts : NodeParts) → parts.chunks ≡ [] → parts.chunk_table ≡ None → (after : NodeParts) × Puts limit text now (parts, before) after later old new

-- the longest table that is taken beside a chunk, where there are so many chunks
abbrev pub room_of_table : ℕ → ℕ
room_of_table count = if nat_lt 0 count then 1556 else 0

-- How many blocks wait anew where data get a size: at most two a chunk, and some for the heap, beside those that what is added
-- fills; or, where they are gathered, those that all of them fill.
abbrev pub WaitsToGrow : ℕ → ℕ → ℕ → List ℕ → List ℕ → Type 0
WaitsToGrow count was size old new =
    ((1 ≤ count) × (count < 64) → how_many new ≤ how_many old + ((size - was) / 4096 + 36 + 2 * count))
    × (how_many new ≤ how_many old + (size / 4096 + 36 + 12 * count))

-- ---- for callers

-- what may change where data get another size
abbrev pub sized_ranges : NodeParts → Heap → Heap → List Extent
sized_ranges parts before later = changed_ranges (data_extents parts) before later
