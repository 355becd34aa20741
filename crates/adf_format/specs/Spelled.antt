-- What the writer's records say, and the text of a part with a body between its head and its end tag.
use Rattle.std.specs.Prelude.{◌≡◌, ℕ, ◌+◌, ◌*◌, ◌^◌, ◌<◌, ◌≤◌, Bool, List, [], ◌∷◌, ◌++◌, length, slice_get, Option, Some, None, IsTrue, ⊤}
use Rattle.std.specs.List.{flat_map}
use Rattle.adf_format.specs.Hex.{hex_value, is_hex}
use Rattle.adf_format.specs.Pointer.{Pointer, Blank, To}
use Rattle.adf_format.specs.Fields.{field, text_field}
use Rattle.adf_format.specs.declared.fields.TheConstants.{HEADER_WHAT, HEADER_CREATED, HEADER_MODIFIED, HEADER_SIZE_LETTER, HEADER_SIZES, HEADER_EXTRA, HEADER_SIZE, WHAT_PRODUCT, WHAT_VERSION, WHAT_CLOSING, PRODUCT, CLOSING, FREE_TABLE_PLACE, NODE_NAME, NODE_LABEL, NODE_CHILDREN, NODE_ENTRIES, NODE_CHUNKS, HEAD_LENGTH}
use Rattle.adf_format.specs.RecordFields.{field_in, dimension_digits}
use Rattle.adf_format.specs.declared.types.Format.{Format}
use Rattle.adf_format.specs.Parts.{NodeFields, version_letter}
use Rattle.adf_format.specs.Records.{HeaderRecord, NodeRecord, Part, head_text, end_tag}

-- the pointer to a place, or the blank one
abbrev pub pointer_to : Option ℕ → Pointer
pointer_to None = Blank
pointer_to (Some place) = To place

-- the place, if there is one, is one that a pointer can name
abbrev pub IsInReach : Option ℕ → Type 0
IsInReach None = ⊤
IsInReach (Some place) = place < 2 ^ 44

-- each text of a list has this length
abbrev pub AllWide : ℕ → List (List ℕ) → Type 0
AllWide width texts = (i : ℕ) (text : List ℕ) → slice_get texts i ≡ Some text → length text ≡ width

-- a record of the file header says this, and its fields have their lengths
pub record SaysHeader (h : HeaderRecord) (wide : Bool) (format : Format) (root end : ℕ) : Type 0 where
  pub long : length h.what ≡ HEADER_WHAT.length
  pub what : field_in h.what WHAT_PRODUCT ≡ PRODUCT
  pub letter : field_in h.what WHAT_VERSION ≡ version_letter wide
  pub what_end : field_in h.what WHAT_CLOSING ≡ CLOSING
  pub created : length h.created ≡ HEADER_CREATED.length
  pub modified : length h.modified ≡ HEADER_MODIFIED.length
  pub numbers : h.format ≡ format
  pub size_letter : length h.size_letter ≡ HEADER_SIZE_LETTER.length
  pub twelve : length h.sizes ≡ HEADER_SIZES.length
  pub sizes : (k : ℕ) → k < 12 → IsTrue (is_hex (field h.sizes (HEADER_SIZE.length * k) HEADER_SIZE.length))
  pub root_pointer : h.root ≡ To root
  pub root_in_reach : root < 2 ^ 44
  pub end_pointer : h.end ≡ To end
  pub end_in_reach : end < 2 ^ 44
  pub free_table : h.free_table ≡ To FREE_TABLE_PLACE
  pub extra : length h.extra ≡ HEADER_EXTRA.length

-- a record of a node header says this, and its fields have their lengths
pub record SaysNode (wide : Bool) (r : NodeRecord) (node : NodeFields) : Type 0 where
  pub name : r.name ≡ text_field NODE_NAME.length node.name
  pub long_name : length r.name ≡ NODE_NAME.length
  pub label : r.label ≡ text_field NODE_LABEL.length node.label
  pub long_label : length r.label ≡ NODE_LABEL.length
  pub children : r.children ≡ node.children
  pub few_children : r.children < 16 ^ NODE_CHILDREN.length
  pub entries : r.entries ≡ node.entries
  pub few_entries : r.entries < 16 ^ NODE_ENTRIES.length
  pub table : r.table ≡ pointer_to node.table
  pub table_in_reach : IsInReach node.table
  pub kind : r.kind ≡ node.kind
  pub rank : r.rank ≡ length node.dims
  pub few_dims : length node.dims ≤ 12
  pub twelve : length r.dims ≡ 12
  pub long_dims : AllWide (dimension_digits wide) r.dims
  pub dims : (i d : ℕ) (text : List ℕ) → slice_get node.dims i ≡ Some d → slice_get r.dims i ≡ Some text → hex_value text ≡ Some d
  pub chunks : r.chunks ≡ node.chunks
  pub few_chunks : r.chunks < 16 ^ NODE_CHUNKS.length
  pub chunk : r.chunk ≡ pointer_to node.chunk
  pub chunk_in_reach : IsInReach node.chunk

-- the six pointers of the free table
abbrev pub list_pointers : List (Option ℕ × Option ℕ) → List Pointer
list_pointers ends = flat_map (λ (e : Option ℕ × Option ℕ). pointer_to e.0 ∷ pointer_to e.1 ∷ []) ends

-- each of them is one that a pointer can spell
abbrev pub AreInReach : List (Option ℕ × Option ℕ) → Type 0
AreInReach ends = (k : ℕ) (e : Option ℕ × Option ℕ) → slice_get ends k ≡ Some e → IsInReach e.0 × IsInReach e.1

-- texts one behind the other
abbrev pub in_row : List (List ℕ) → List ℕ
in_row [] = []
in_row (text ∷ texts) = text ++ in_row texts

-- a part at a place: its head, which points to its end tag, its body, and the end tag
abbrev pub framed_text : Part → ℕ → List ℕ → List ℕ
framed_text part place body = head_text part (To (place + HEAD_LENGTH + length body)) ++ body ++ end_tag part
