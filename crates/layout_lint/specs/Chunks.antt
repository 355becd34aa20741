-- Chunks of data, one by one.
use Rattle.std.specs.Prelude.{◌≡◌, ◌≤◌, ◌<◌, ◌^◌, ◌++◌, map, length, ℕ, ◌+◌, ◌*◌, Bool, cond, ◌&&◌, nat_le, nat_lt, List, [], ◌∷◌, Option, Some, None}
use Rattle.adf_format.specs.Pointer.{is_place, place_of}
use Rattle.adf_format.specs.Fields.{field}
use Rattle.std.specs.List.{All}
use Rattle.adf_format.specs.declared.types.Extent.{Extent}
use Rattle.adf_format.specs.declared.types.ExtentKind.{ExtentKind}
use Rattle.adf_format.specs.Parts.{chunk_table_length}
use Rattle.adf_format.specs.Placement.{extent}
use Rattle.adf_format.specs.Checks.{Row, row}
use Rattle.adf_format.specs.FirstFault.{ChunkVisit, agrees, chunk_length, count_up}
use Rattle.layout_lint.specs.declared.chunks.Chunk.{Chunk}
use Rattle.layout_lint.specs.declared.chunks.Listed.{Listed}

-- the chunk as the definitions have it
abbrev pub visit_of : Chunk → ChunkVisit
visit_of c = record { place = c.place; listed = c.listed }

-- the chunk of an entry of a table
abbrev pub entry_visit : Listed → ChunkVisit
entry_visit l = record { place = l.place; listed = Some l.tail }

-- the rule of an entry of a table of chunks
abbrev pub chunk_entry_row : List ℕ → ℕ → Row
chunk_entry_row image at = row 25 at (is_place (field image at 12) && is_place (field image (at + 12) 12))

-- what such an entry says
abbrev pub listed_chunk : List ℕ → ℕ → ChunkVisit
listed_chunk image at = record { place = place_of (field image at 12); listed = Some (place_of (field image (at + 12) 12)) }

-- what so many of them say
abbrev pub listed_chunks : List ℕ → ℕ → ℕ → List ChunkVisit
listed_chunks image c count = map (λ i. listed_chunk image (c + 16 + 24 * i)) (count_up count)

-- these are the entries of the table of so many chunks, if there is one
abbrev pub AreListed : List ℕ → ℕ → ℕ → List Listed → Type 0
AreListed image c count list = 1 < count → map entry_visit list ≡ listed_chunks image c count

-- an entry names a place in reach
abbrev pub IsNear : Listed → Type 0
IsNear l = l.place < 2 ^ 44

-- the table of so many chunks, if there is one, has as many entries
pub record IsList (count : ℕ) (list : List Listed) : Type 0 where
  pub all : 1 < count → length list ≡ count
  pub near : All IsNear list

-- what the bytes of such an entry say, if both are places
abbrev pub chunk_said : List ℕ → Option ChunkVisit
chunk_said bytes = cond (is_place (field bytes 0 12) && is_place (field bytes 12 12)) (Some (record { place = place_of (field bytes 0 12); listed = Some (place_of (field bytes 12 12)) })) None

-- the chunk at a position
abbrev pub chunk_visit : List ℕ → ℕ → ℕ → ℕ → ChunkVisit
chunk_visit image c count i = cond (nat_lt count 2) (record { place = c; listed = None }) (listed_chunk image (c + 16 + 24 * i))

-- the rule of the pointer to the end tag of a chunk
abbrev pub has_tail : List ℕ → ℕ → ChunkVisit → Bool
has_tail image end v =
    let tail = place_of (field image (v.place + 4) 12) in
    is_place (field image (v.place + 4) 12) && nat_le (v.place + 21) (tail + 4) && nat_le (tail + 4) (end + 1) && agrees v.listed tail

-- where its end tag stands, if the pointer names it and it agrees
abbrev pub tail_said : ℕ → ChunkVisit → List ℕ → Option ℕ
tail_said end v bytes =
    cond (is_place bytes && nat_le (v.place + 21) (place_of bytes + 4) && nat_le (place_of bytes + 4) (end + 1) && agrees v.listed (place_of bytes)) (Some (place_of bytes)) None

-- the chunks of a node in their order, by what the code knows of them
abbrev pub chunk_list : List ℕ → ℕ → ℕ → List ChunkVisit
chunk_list image c count = map (chunk_visit image c count) (count_up count)

abbrev pub data_extent : List ℕ → ChunkVisit → Extent
data_extent image v = extent ExtentKind.DataChunk v.place (chunk_length image v.place)

-- the extent of the table of so many chunks, if there is one
abbrev pub list_extents : ℕ → ℕ → List Extent
list_extents c count = cond (nat_lt count 2) [] (extent ExtentKind.ChunkTable c (chunk_table_length count) ∷ [])

-- an extent of a data chunk, up to the end
pub record IsChunk (end : ℕ) (e : Extent) : Type 0 where
  pub long : 21 ≤ e.length
  pub inside : e.place + e.length ≤ end + 1

-- some chunks are put behind the extents found so far
pub record AddsChunks (end total : ℕ) (old new : List Extent) : Type 0 where
  pub more : List Extent
  pub added : new ≡ old ++ more
  pub chunks : All (IsChunk end) more
  pub count : length more ≡ total
  pub kinds : All (λ (e : Extent). e.kind ≡ ExtentKind.DataChunk) more
