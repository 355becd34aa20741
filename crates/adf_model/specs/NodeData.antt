-- The data of one node by themselves: what a change of their size, and their release, do to the chunks and the heap.
use Rattle.std.specs.Prelude.{◌≡◌, ℕ, ◌+◌, ◌-◌, List, [], ◌∷◌, ◌++◌, Option, Some, None, Result, Ok}
use Rattle.std.specs.List.{AllByRecursion}
use Rattle.adf_format.specs.declared.types.Extent.{Extent}
use Rattle.adf_format.specs.declared.types.ExtentKind.{ExtentKind}
use Rattle.adf_format.specs.Fields.{field}
use Rattle.adf_format.specs.Parts.{SpellsChunk}
use Rattle.adf_format.specs.Tiles.{cover}
use Rattle.adf_format.specs.Placement.{Placement, NodeParts, ChunkPart, Heap, extent}
use Rattle.adf_format.specs.LaysOut.{HasChunkTable, HasData, ThreadsFreeChunks}
use Rattle.adf_format.specs.Changes.{KeepsBut, heap_fields}
use Rattle.adf_format.specs.HeapBytes.{KeepsFillers, MovesEnd}
use Rattle.adf_format.specs.HeapRule.{LimitReached, parts_at, with_parts, data_extents, hold, release, ◌>>=◌}
use Rattle.adf_model.specs.Edits.{resized}

-- the parts of one node, and the heap that its data are taken from
abbrev pub DataSpot : Type 0
DataSpot = NodeParts × Heap

abbrev pub alone : DataSpot → Placement
alone spot = record { parts = Some spot.0 ∷ []; heap = spot.1 }

abbrev pub spot_of : Placement → DataSpot
spot_of p = (parts_at p 0, p.heap)

-- the chunks and the heap where the data get a size, or the take that is refused
abbrev pub resized_spot : ℕ → ℕ → DataSpot → Result DataSpot LimitReached
resized_spot limit size spot = hold limit (alone spot) 0 size spot.0.chunks >>= λ (q : Placement). Ok (spot_of q)

-- the chunks and the heap where the data become none
abbrev pub released_spot : DataSpot → DataSpot
released_spot spot = spot_of (release (alone spot) 0)

-- a file with these parts of a node and this heap in place of its own
abbrev pub with_spot : Placement → ℕ → DataSpot → Placement
with_spot p serial spot = record (with_parts p serial spot.0) { heap = spot.1 }

abbrev pub with_spot_or : Placement → ℕ → Result DataSpot LimitReached → Result Placement LimitReached
with_spot_or p serial r = r >>= λ (spot : DataSpot). Ok (with_spot p serial spot)

-- the bytes that data of a size begin with, after others or none
abbrev pub resized_from : Option (List ℕ) → ℕ → List ℕ
resized_from None size = resized [] size
resized_from (Some bytes) size = resized bytes size

-- the chunks hold these data
pub record HoldsData (image : List ℕ) (parts : NodeParts) (bytes : Option (List ℕ)) : Type 0 where
  pub chunk_table : HasChunkTable image parts.chunks parts.chunk_table
  pub chunks : AllByRecursion (λ (c : ChunkPart). SpellsChunk (field image c.place c.length) c.place c.length) parts.chunks
  pub begins : HasData image parts.chunks bytes

-- the parts of an image that the data of a node and their heap may change
abbrev pub KeepsOthers : DataSpot → List ℕ → List ℕ → Type 0
KeepsOthers spot old new = KeepsBut (heap_fields ++ spot.1.gaps ++ data_extents spot.0) spot.1.end old new

-- the bytes by which the end grew
abbrev pub grown_range : Heap → Heap → Extent
grown_range before after = extent ExtentKind.Filler (before.end + 1) (after.end - before.end)

-- chunks, chunk table and gaps are together the bytes of those before, and those by which the end grew
abbrev pub SharesRoom : DataSpot → DataSpot → Type 0
SharesRoom spot after =
    (b : ℕ) → cover (data_extents after.0 ++ after.1.gaps) b
    ≡ cover (data_extents spot.0 ++ spot.1.gaps) b + cover (grown_range spot.1 after.1 ∷ []) b

-- the data of a node got a size: the first bytes stay, zeros follow, and nothing else changes
pub record IsResized (limit size : ℕ) (bytes : Option (List ℕ)) (spot after : DataSpot) (old new : List ℕ) : Type 0 where
  pub placed : resized_spot limit size spot ≡ Ok after
  pub holds : HoldsData new after.0 (Some (resized_from bytes size))
  pub others : KeepsOthers spot old new
  pub threads : ThreadsFreeChunks new after.1.gaps
  pub end : MovesEnd spot.1.end after.1.end old new
  pub fillers : KeepsFillers spot.1.gaps after.1.gaps old new

-- the data of a node became none, and nothing else changes
pub record IsReleased (spot after : DataSpot) (old new : List ℕ) : Type 0 where
  pub placed : after ≡ released_spot spot
  pub others : KeepsOthers spot old new
  pub threads : ThreadsFreeChunks new after.1.gaps
  pub end : MovesEnd spot.1.end after.1.end old new
  pub fillers : KeepsFillers spot.1.gaps after.1.gaps old new
