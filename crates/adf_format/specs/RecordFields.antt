-- The fields of each record, in the order in which they stand. The table is that of the code
-- (`fields`): whatever is said of the bytes of a record names a field of it.
use Rattle.std.specs.Prelude.{◌≡◌, ℕ, ◌+◌, ◌*◌, nat_le, ◌==◌, Bool, true, false, ◌&&◌, List, [], ◌∷◌, ◌++◌, length, map}
use Rattle.std.specs.List.{range_with_len}
use Rattle.adf_format.specs.Fields.{field, number, holds}
use Rattle.adf_format.specs.declared.fields.Field.{Field}
use Rattle.adf_format.specs.declared.fields.FieldKind.{FieldKind}
use Rattle.adf_format.specs.declared.fields.FieldKind.TheVariants.{Tag, Number, Digits, Pointer, TypeWord, FormatLetter}
use Rattle.adf_format.specs.declared.fields.TheConstants.{HEADER_WHAT, HEADER_TAG_0, HEADER_CREATED, HEADER_TAG_1, HEADER_MODIFIED, HEADER_TAG_2, HEADER_FORMAT, HEADER_SIZE_LETTER, HEADER_TAG_3, HEADER_SIZES, HEADER_TAG_4, HEADER_ROOT, HEADER_END, HEADER_FREE_TABLE, HEADER_EXTRA, HEADER_TAG_5, HEADER_SIZE, TAG_LENGTH, WHAT_PRODUCT, WHAT_VERSION, WHAT_NUMBER, WHAT_CLOSING, FREE_TAG, SMALL_FIRST, SMALL_LAST, MEDIUM_FIRST, MEDIUM_LAST, LARGE_FIRST, LARGE_LAST, FREE_END_TAG, NODE_TAG, NODE_NAME, NODE_LABEL, NODE_CHILDREN, NODE_ENTRIES, NODE_TABLE, NODE_TYPE, NODE_RANK, NARROW_DIMENSION, WIDE_DIMENSION, NODE_CHUNKS, NODE_CHUNK, NODE_END_TAG, NODE_TAIL_LENGTH, FREE_CHUNK_TAG, HEAD_POINTER, HEAD_LENGTH, FREE_NEXT, ENTRY_NAME, ENTRY_CHILD, ENTRY_LENGTH, CHUNK_START, CHUNK_END, CHUNK_ENTRY_LENGTH}

-- ---- what a field holds

-- the text of a tag; none of another field
abbrev pub text_of_kind : FieldKind → List ℕ
text_of_kind (Tag text) = text
text_of_kind kind = []

abbrev pub tag_text : Field → List ℕ
tag_text f = text_of_kind f.kind

abbrev pub is_tag_kind : FieldKind → Bool
is_tag_kind (Tag text) = true
is_tag_kind kind = false

abbrev pub is_tag : Field → Bool
is_tag f = is_tag_kind f.kind

abbrev pub is_number_kind : FieldKind → Bool
is_number_kind Number = true
is_number_kind kind = false

abbrev pub is_number_field : Field → Bool
is_number_field f = is_number_kind f.kind

abbrev pub is_pointer_kind : FieldKind → Bool
is_pointer_kind Pointer = true
is_pointer_kind kind = false

abbrev pub is_pointer_field : Field → Bool
is_pointer_field f = is_pointer_kind f.kind

-- whether a field can be so long
abbrev pub suits : FieldKind → ℕ → Bool
suits (Tag text) n = n == length text
suits Number n = nat_le 1 n && nat_le n 8
suits Pointer n = n == 12
suits TypeWord n = n == 32
suits FormatLetter n = n == 1
suits kind n = nat_le 1 n

-- ---- the bytes of a field

abbrev pub field_in : List ℕ → Field → List ℕ
field_in bytes f = field bytes f.offset f.length

abbrev pub number_in : List ℕ → Field → ℕ
number_in bytes f = number bytes f.offset f.length

-- the tag stands in its field
abbrev pub holds_tag : List ℕ → Field → Bool
holds_tag bytes f = holds bytes f.offset (tag_text f)

-- the byte behind a field
abbrev pub field_end : Field → ℕ
field_end f = f.offset + f.length

-- the field of a record that stands at a place
abbrev pub at_place : ℕ → Field → Field
at_place place f = record f { offset = place + f.offset }

-- the i-th of equal parts, of which this field is in the first
abbrev pub in_part : Field → ℕ → ℕ → Field
in_part f size i = record f { offset = f.offset + size * i }

-- ---- fields in a row

-- each field begins where the one before it ends, the first at an offset, and the last ends at another; each is as long as what it holds
abbrev pub StandInRow : ℕ → List Field → ℕ → Type 0
StandInRow offset [] end = offset ≡ end
StandInRow offset (f ∷ fields) end = (f.offset ≡ offset) × (suits f.kind f.length ≡ true) × StandInRow (field_end f) fields end

-- ---- the file header

abbrev pub header_fields : List Field
header_fields =
    HEADER_WHAT ∷ HEADER_TAG_0 ∷ HEADER_CREATED ∷ HEADER_TAG_1 ∷ HEADER_MODIFIED ∷ HEADER_TAG_2 ∷ HEADER_FORMAT ∷ HEADER_SIZE_LETTER ∷ HEADER_TAG_3 ∷ HEADER_SIZES
    ∷ HEADER_TAG_4 ∷ HEADER_ROOT ∷ HEADER_END ∷ HEADER_FREE_TABLE ∷ HEADER_EXTRA ∷ HEADER_TAG_5 ∷ []

-- what a file says that it is
abbrev pub what_fields : List Field
what_fields = WHAT_PRODUCT ∷ WHAT_VERSION ∷ WHAT_NUMBER ∷ WHAT_CLOSING ∷ []

-- the k-th of the twelve sizes
abbrev pub header_size : ℕ → Field
header_size k = in_part HEADER_SIZE HEADER_SIZE.length k

-- ---- the free table

abbrev pub free_table_fields : List Field
free_table_fields = FREE_TAG ∷ SMALL_FIRST ∷ SMALL_LAST ∷ MEDIUM_FIRST ∷ MEDIUM_LAST ∷ LARGE_FIRST ∷ LARGE_LAST ∷ FREE_END_TAG ∷ []

-- the k-th of the six pointers of the table at a place
abbrev pub list_end : ℕ → ℕ → Field
list_end place k = in_part (at_place place SMALL_FIRST) SMALL_FIRST.length k

-- the first and the last pointer of the small (0), the medium (1) or the large (2) list
abbrev pub list_first : ℕ → ℕ → Field
list_first place k = in_part (at_place place SMALL_FIRST) (SMALL_FIRST.length + SMALL_LAST.length) k

abbrev pub list_last : ℕ → ℕ → Field
list_last place k = in_part (at_place place SMALL_LAST) (SMALL_FIRST.length + SMALL_LAST.length) k

-- ---- a node

-- the digits of a dimension
abbrev pub dimension_digits : Bool → ℕ
dimension_digits false = NARROW_DIMENSION.length
dimension_digits true = WIDE_DIMENSION.length

-- the i-th dimension of the node at a place
abbrev pub node_dimension : Bool → ℕ → ℕ → Field
node_dimension wide place i = record { offset = place + NARROW_DIMENSION.offset + dimension_digits wide * i; length = dimension_digits wide; kind = Digits }

-- where the chunk count of a node header stands: behind the twelve dimensions
abbrev pub chunk_count_at : Bool → ℕ
chunk_count_at wide = NARROW_DIMENSION.offset + 12 * dimension_digits wide

-- 246 bytes in a narrow file, 342 in a wide one
abbrev pub node_length : Bool → ℕ
node_length wide = chunk_count_at wide + NODE_TAIL_LENGTH

abbrev pub node_chunks : Bool → Field
node_chunks wide = record NODE_CHUNKS { offset = chunk_count_at wide }

abbrev pub node_chunk : Bool → Field
node_chunk wide = at_place (chunk_count_at wide) NODE_CHUNK

abbrev pub node_end_tag : Bool → Field
node_end_tag wide = at_place (chunk_count_at wide) NODE_END_TAG

abbrev pub node_fields : Bool → List Field
node_fields wide =
    NODE_TAG ∷ NODE_NAME ∷ NODE_LABEL ∷ NODE_CHILDREN ∷ NODE_ENTRIES ∷ NODE_TABLE ∷ NODE_TYPE ∷ NODE_RANK
    ∷ map (node_dimension wide 0) (range_with_len 0 12) ++ node_chunks wide ∷ node_chunk wide ∷ node_end_tag wide ∷ []

-- ---- the other parts

-- the start tag differs from part to part
abbrev pub head_fields : Field → List Field
head_fields tag = tag ∷ HEAD_POINTER ∷ []

abbrev pub free_head_fields : List Field
free_head_fields = FREE_CHUNK_TAG ∷ HEAD_POINTER ∷ FREE_NEXT ∷ []

abbrev pub entry_fields : List Field
entry_fields = ENTRY_NAME ∷ ENTRY_CHILD ∷ []

abbrev pub chunk_entry_fields : List Field
chunk_entry_fields = CHUNK_START ∷ CHUNK_END ∷ []

abbrev pub table_length : ℕ → ℕ
table_length entries = (HEAD_LENGTH + TAG_LENGTH) + ENTRY_LENGTH * entries

abbrev pub chunk_table_length : ℕ → ℕ
chunk_table_length count = (HEAD_LENGTH + TAG_LENGTH) + CHUNK_ENTRY_LENGTH * count

-- a field of the i-th of entries of one size, in the table at a place
abbrev pub in_entry : ℕ → ℕ → Field → ℕ → Field
in_entry size place f i = in_part (at_place place (at_place HEAD_LENGTH f)) size i

abbrev pub entry_name_at : ℕ → ℕ → Field
entry_name_at place i = in_entry ENTRY_LENGTH place ENTRY_NAME i

abbrev pub entry_child_at : ℕ → ℕ → Field
entry_child_at place i = in_entry ENTRY_LENGTH place ENTRY_CHILD i

abbrev pub chunk_start_at : ℕ → ℕ → Field
chunk_start_at place i = in_entry CHUNK_ENTRY_LENGTH place CHUNK_START i

abbrev pub chunk_end_at : ℕ → ℕ → Field
chunk_end_at place i = in_entry CHUNK_ENTRY_LENGTH place CHUNK_END i
