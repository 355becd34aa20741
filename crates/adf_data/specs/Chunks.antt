-- The chunks of some data, and where each byte of the data stands.
use Rattle.std.specs.Prelude.{◌≡◌, ℕ, ◌+◌, ◌-◌, ◌<◌, ◌≤◌, ◌^◌, List, length, map, get_or, Option, Some, None, codes}
use Rattle.std.specs.List.{AllByRecursion}
use Rattle.adf_format.specs.Fields.{field}
use Rattle.adf_format.specs.Pointer.{PointsTo}
use Rattle.adf_format.specs.Parts.{HasTag, SpellsChunk}
use Rattle.adf_format.specs.Placement.{NodeParts, ChunkPart}
use Rattle.adf_format.specs.LaysOut.{HasChunkTable, chunk_pointer}
use Rattle.adf_format.specs.HeapRule.{chunk}
use Rattle.adf_format.specs.Spelled.{pointer_to}
use Rattle.disk_ptr.specs.View.{view}
use Rattle.adf_data.specs.declared.place.DataPlace.{DataPlace}
use Rattle.adf_data.specs.declared.chunks.Chunk.{Chunk}

-- ---- chunks

abbrev pub part_of : Chunk → ChunkPart
part_of c = chunk c.place c.length

abbrev pub parts_of : List Chunk → List ChunkPart
parts_of chunks = map part_of chunks

abbrev pub part_at : List ChunkPart → ℕ → ChunkPart
part_at parts i = get_or parts i (chunk 0 0)

-- it has a payload, which ends below the greatest place
abbrev pub IsSane : Chunk → Type 0
IsSane c = (21 ≤ c.length) × (c.place + c.length < 2 ^ 44 + 4)

-- an entry of a chunk table names a chunk
abbrev pub SaysChunk : List ℕ → ChunkPart → Type 0
SaysChunk bytes c = PointsTo (field bytes 0 12) c.place × PointsTo (field bytes 12 12) (c.place + c.length - 4)

-- a head is that of a data chunk, and points to its end tag
abbrev pub HeadSaysChunk : List ℕ → ChunkPart → Type 0
HeadSaysChunk bytes c = HasTag bytes 0 (codes "DaTa") × PointsTo (field bytes 4 12) (c.place + c.length - 4)

-- ---- what a place names in some bytes

-- the place names these chunks and this chunk table, and the bytes spell them
pub record AreNamed (at : DataPlace) (parts : NodeParts) (bytes : List ℕ) : Type 0 where
  pub count : at.count ≡ length parts.chunks
  pub pointer : view at.pointer ≡ pointer_to (chunk_pointer parts.chunks parts.chunk_table)
  pub chunk_table : HasChunkTable bytes parts.chunks parts.chunk_table
  pub chunks : AllByRecursion (λ (c : ChunkPart). SpellsChunk (field bytes c.place c.length) c.place c.length) parts.chunks

-- the same of bytes that are told
abbrev pub Named : DataPlace → NodeParts → Option (List ℕ) → Type 0
Named at parts None = ⊥
Named at parts (Some bytes) = AreNamed at parts bytes

-- the place names no chunks in these bytes, or they are not told
abbrev pub NoneNamed : DataPlace → Option (List ℕ) → Type 0
NoneNamed at image = (parts : NodeParts) → Named at parts image → ⊥
