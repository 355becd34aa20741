-- The entries of tables of children and of data chunks, and the heads of data chunks.
use Rattle.std.specs.Prelude.{ℕ, ◌+◌, ◌/◌, nat_le, Bool, ◌&&◌, cond, List, [], ◌∷◌, Option, Some, None, bytes_eq}
use Rattle.adf_format.specs.declared.fields.TheConstants.{HEAD_POINTER, TAG_LENGTH, ENTRY_NAME, ENTRY_CHILD, CHUNK_START, CHUNK_END, DATA_TAG}
use Rattle.adf_format.specs.Fields.{holds}
use Rattle.adf_format.specs.RecordFields.{field_in, tag_text}
use Rattle.adf_format.specs.Pointer.{is_place, place_of}
use Rattle.adf_format.specs.Checks.{Row, row}
use Rattle.adf_format.specs.FirstFault.{is_name_field, is_pointer_to, entry_name, entry_pointer}
use Rattle.node_reads.specs.declared.entries.ListedChild.{ListedChild}
use Rattle.node_reads.specs.declared.find.Wanted.{Wanted}
use Rattle.node_reads.specs.declared.find.Wanted.TheVariants.{Name, Place}
use Rattle.node_reads.specs.declared.chunks.ListedChunk.{ListedChunk}

-- ---- children

-- a name field, and the place of the child
abbrev pub child_view : ListedChild → List ℕ × ℕ
child_view child = (child.name, child.place)

-- the child in an entry; none where its name is no name, or its pointer names no place
abbrev pub child_said : List ℕ → Option (List ℕ × ℕ)
child_said bytes =
    cond (is_name_field (field_in bytes ENTRY_NAME) && is_place (field_in bytes ENTRY_CHILD))
    (Some (field_in bytes ENTRY_NAME, place_of (field_in bytes ENTRY_CHILD))) None

-- whether an entry is wanted, for its name field or for the place of its child
abbrev pub is_wanted : Wanted → List ℕ → Bool
is_wanted (Name name) bytes = bytes_eq (field_in bytes ENTRY_NAME) name
is_wanted (Place place) bytes = is_pointer_to (field_in bytes ENTRY_CHILD) place

-- whether the i-th entry of the table at a place is
abbrev pub is_wanted_at : Wanted → List ℕ → ℕ → ℕ → Bool
is_wanted_at (Name name) image table i = bytes_eq (entry_name image table i) name
is_wanted_at (Place place) image table i = is_pointer_to (entry_pointer image table i) place

-- how many pieces of 93 entries so many are
abbrev pub pieces_of : ℕ → ℕ
pieces_of count = (count + 92) / 93

-- ---- chunks

-- the places of a chunk and of its end tag
abbrev pub chunk_view : ListedChunk → ℕ × ℕ
chunk_view chunk = (chunk.place, chunk.tail)

-- the chunk in an entry; none where a pointer names no place
abbrev pub chunk_said : List ℕ → Option (ℕ × ℕ)
chunk_said bytes =
    cond (is_place (field_in bytes CHUNK_START) && is_place (field_in bytes CHUNK_END))
    (Some (place_of (field_in bytes CHUNK_START), place_of (field_in bytes CHUNK_END))) None

-- rule 26 as far as the head of a chunk at a place tells: its tag, and an end tag 17 bytes behind the start or more
abbrev pub chunk_head_rows : ℕ → List ℕ → List Row
chunk_head_rows place bytes =
    row 26 place (holds bytes 0 (tag_text DATA_TAG))
    ∷ row 26 (place + HEAD_POINTER.offset)
    (is_place (field_in bytes HEAD_POINTER) && nat_le (place + 21) (place_of (field_in bytes HEAD_POINTER) + TAG_LENGTH)) ∷ []
