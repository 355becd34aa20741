-- What the heads and entries in code say.
use Rattle.std.specs.Prelude.{List, ℕ, if◌then◌else◌, Option, None, option_map}
use Rattle.std.specs.Option.{option_zip}
use Rattle.adf_format.specs.Fields.{holds}
use Rattle.adf_format.specs.declared.fields.TheConstants.{HEAD_POINTER, FREE_NEXT, ENTRY_NAME, ENTRY_CHILD, CHUNK_START, CHUNK_END}
use Rattle.adf_format.specs.RecordFields.{field_in}
use Rattle.adf_format.specs.Pointer.{Pointer, pointer}
use Rattle.adf_format.specs.Records.{start_tag}
use Rattle.adf_format.specs.Records as format
use Rattle.disk_ptr.specs.View.{view, HasOffset}
use Rattle.adf_chunks.specs.declared.Part.{Part}
use Rattle.adf_chunks.specs.declared.Part.TheVariants.{SubNodes, Data, Chunks, Free}
use Rattle.adf_chunks.specs.declared.FreeHead.{FreeHead}
use Rattle.adf_chunks.specs.declared.NodeEntry.{NodeEntry}
use Rattle.adf_chunks.specs.declared.ChunkEntry.{ChunkEntry}

-- the part of a file that it names
abbrev pub part_of : Part → format.Part
part_of SubNodes = format.SubNodes
part_of Data = format.Data
part_of Chunks = format.Chunks
part_of Free = format.Free

-- a free chunk's pointers: to its end tag, and to the next of its list
abbrev pub free_view : FreeHead → Pointer × Pointer
free_view h = (view h.end_tag, view h.next)

abbrev pub HasFreeOffsets : FreeHead → Type 0
HasFreeOffsets h = HasOffset h.end_tag × HasOffset h.next

-- a name field, and the pointer to the child
abbrev pub entry_view : NodeEntry → List ℕ × Pointer
entry_view e = (e.name, view e.child)

-- a chunk's pointers: to its start, and to its end tag
abbrev pub chunk_view : ChunkEntry → Pointer × Pointer
chunk_view e = (view e.start, view e.end_tag)

abbrev pub HasChunkOffsets : ChunkEntry → Type 0
HasChunkOffsets e = HasOffset e.start × HasOffset e.end_tag

-- ---- what the bytes of a head or an entry say; none where they are none

-- a start tag, and the pointer to the end tag
abbrev pub head_said : format.Part → List ℕ → Option Pointer
head_said part bytes = if holds bytes 0 (start_tag part) then pointer (field_in bytes HEAD_POINTER) else None

abbrev pub free_head_said : List ℕ → Option (Pointer × Pointer)
free_head_said bytes = if holds bytes 0 (start_tag format.Free) then option_zip (pointer (field_in bytes HEAD_POINTER)) (pointer (field_in bytes FREE_NEXT)) else None

abbrev pub entry_said : List ℕ → Option (List ℕ × Pointer)
entry_said bytes = option_map (λ p. (field_in bytes ENTRY_NAME, p)) (pointer (field_in bytes ENTRY_CHILD))

abbrev pub chunk_entry_said : List ℕ → Option (Pointer × Pointer)
chunk_entry_said bytes = option_zip (pointer (field_in bytes CHUNK_START)) (pointer (field_in bytes CHUNK_END))
