-- Reading and writing undo each other.
use Rattle.std.specs.Prelude.{◌≡◌, ℕ, List, length, Option, Some, IfSome, option_map}
use Rattle.adf_format.specs.Records.{head_text, free_head_text, entry_text, chunk_entry_text}
use Rattle.disk_ptr.specs.declared.DiskPtr.{DiskPtr}
use Rattle.disk_ptr.specs.View.{view, HasOffset, IsWritable}
use Rattle.adf_chunks.specs.declared.Part.{Part}
use Rattle.adf_chunks.specs.declared.FreeHead.{FreeHead}
use Rattle.adf_chunks.specs.declared.NodeEntry.{NodeEntry}
use Rattle.adf_chunks.specs.declared.ChunkEntry.{ChunkEntry}
use Rattle.adf_format.specs.declared.fields.TheConstants.{ENTRY_NAME, HEAD_LENGTH, FREE_HEAD_LENGTH, ENTRY_LENGTH, CHUNK_ENTRY_LENGTH}
use Rattle.adf_format.specs.RecordFields.{head_fields, free_head_fields, entry_fields, chunk_entry_fields}
use Rattle.adf_format.specs.Records.{start_field}
use Rattle.adf_format.specs.Case.{in_upper_case, letters_in}
use Rattle.adf_chunks.specs.View.{part_of, free_view, HasFreeOffsets, entry_view, chunk_view, HasChunkOffsets, head_said, free_head_said, entry_said, chunk_entry_said}

-- ---- what a reader may answer of a written text is the value that was written

abbrev pub HeadIsReadAgain : Type 0
HeadIsReadAgain = (part : Part) (p : DiskPtr) (read : Option DiskPtr) → IsWritable p
    → option_map view read ≡ head_said (part_of part) (head_text (part_of part) (view p)) → IfSome read HasOffset → read ≡ Some p

abbrev pub FreeHeadIsReadAgain : Type 0
FreeHeadIsReadAgain = (h : FreeHead) (read : Option FreeHead) → IsWritable h.end_tag → IsWritable h.next
    → option_map free_view read ≡ free_head_said (free_head_text (view h.end_tag) (view h.next)) → IfSome read HasFreeOffsets → read ≡ Some h

abbrev pub EntryIsReadAgain : Type 0
EntryIsReadAgain = (e : NodeEntry) (read : Option NodeEntry) → length e.name ≡ ENTRY_NAME.length → IsWritable e.child
    → option_map entry_view read ≡ entry_said (entry_text e.name (view e.child)) → IfSome read (λ r. HasOffset r.child) → read ≡ Some e

abbrev pub ChunkEntryIsReadAgain : Type 0
ChunkEntryIsReadAgain = (e : ChunkEntry) (read : Option ChunkEntry) → IsWritable e.start → IsWritable e.end_tag
    → option_map chunk_view read ≡ chunk_entry_said (chunk_entry_text (view e.start) (view e.end_tag)) → IfSome read HasChunkOffsets → read ≡ Some e

-- ---- what is written of a value that was read are the bytes, with the letters of pointers in upper case

abbrev pub HeadIsWrittenAgain : Type 0
HeadIsWrittenAgain = (part : Part) (bytes : List ℕ) (p : DiskPtr) → length bytes ≡ HEAD_LENGTH
    → head_said (part_of part) bytes ≡ Some (view p) → head_text (part_of part) (view p) ≡ in_upper_case (letters_in (head_fields (start_field (part_of part)))) bytes

abbrev pub FreeHeadIsWrittenAgain : Type 0
FreeHeadIsWrittenAgain = (bytes : List ℕ) (h : FreeHead) → length bytes ≡ FREE_HEAD_LENGTH
    → free_head_said bytes ≡ Some (free_view h) → free_head_text (view h.end_tag) (view h.next) ≡ in_upper_case (letters_in free_head_fields) bytes

abbrev pub EntryIsWrittenAgain : Type 0
EntryIsWrittenAgain = (bytes : List ℕ) (e : NodeEntry) → length bytes ≡ ENTRY_LENGTH
    → entry_said bytes ≡ Some (entry_view e) → entry_text e.name (view e.child) ≡ in_upper_case (letters_in entry_fields) bytes

abbrev pub ChunkEntryIsWrittenAgain : Type 0
ChunkEntryIsWrittenAgain = (bytes : List ℕ) (e : ChunkEntry) → length bytes ≡ CHUNK_ENTRY_LENGTH
    → chunk_entry_said bytes ≡ Some (chunk_view e) → chunk_entry_text (view e.start) (view e.end_tag) ≡ in_upper_case (letters_in chunk_entry_fields) bytes
