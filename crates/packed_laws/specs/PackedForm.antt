-- The packed file of a tree: where its parts stand, and its bytes. Behind the file header and the free table stand the nodes by number, each with its header, a table of exactly its children, and its data in one chunk.
use Rattle.std.specs.Prelude.{ℕ, ◌+◌, ◌-◌, Bool, List, [], ◌∷◌, ◌++◌, length, map, replicate, Option, Some, None, option_map}
use Rattle.adf_format.specs.Hex.{hex_text}
use Rattle.adf_format.specs.Pointer.{Blank, To}
use Rattle.adf_format.specs.Fields.{text_field}
use Rattle.adf_format.specs.declared.fields.TheConstants.{HEADER_CREATED, HEADER_MODIFIED, NODE_NAME, NODE_LABEL, ENTRY_NAME}
use Rattle.adf_format.specs.RecordFields.{dimension_digits, node_length}
use Rattle.adf_format.specs.declared.types.Format.{Format}
use Rattle.adf_format.specs.Tree.{Tree, Node, name_at}
use Rattle.adf_format.specs.Placement.{Placement, NodeParts, TablePart, ChunkPart}
use Rattle.adf_format.specs.LaysOut.{entry_count, chunk_pointer}
use Rattle.adf_format.specs.HeapRule.{chunk_length_for, parts_at}
use Rattle.adf_format.specs.Packed.{packed_table, packed_data, packed_length}
use Rattle.adf_format.specs.Records.{HeaderRecord, NodeRecord, SubNodes, Data, header_text, free_table_text, node_text, entry_text}
use Rattle.adf_format.specs.Spelled.{pointer_to, in_row, framed_text}
use Rattle.adf_format.specs.Fresh.{fresh_header}

-- ---- places

-- the table of a node: none without children
abbrev pub table_at : ℕ → List ℕ → Option TablePart
table_at place [] = None
table_at place (c ∷ cs) = Some (record { place = place; entries = length (c ∷ cs) })

-- its data: no chunk, or one
abbrev pub chunks_at : ℕ → Option (List ℕ) → List ChunkPart
chunks_at place None = []
chunks_at place (Some bytes) = record { place = place; length = chunk_length_for (length bytes) } ∷ []

-- behind its header, and behind its table
abbrev pub table_place : Bool → ℕ → ℕ
table_place wide place = place + node_length wide

abbrev pub chunk_place : Bool → ℕ → Node → ℕ
chunk_place wide place node = table_place wide place + packed_table node.children

-- its parts, of which the header stands at a place
abbrev pub packed_parts : Bool → ℕ → Node → NodeParts
packed_parts wide place node = record {
  header = place;
  table = table_at (table_place wide place) node.children;
  chunks = chunks_at (chunk_place wide place node) node.bytes;
  chunk_table = None;
}

-- the bytes of its parts together
abbrev pub packed_room : Bool → Node → ℕ
packed_room wide node = node_length wide + packed_table node.children + packed_data node.bytes

-- the parts of some nodes, one behind the other, from a place on
abbrev pub packed_from : Bool → ℕ → List (Option Node) → List (Option NodeParts)
packed_from wide place [] = []
packed_from wide place (None ∷ nodes) = None ∷ packed_from wide place nodes
packed_from wide place (Some node ∷ nodes) = Some (packed_parts wide place node) ∷ packed_from wide (place + packed_room wide node) nodes

-- of a tree, from behind the free table on
abbrev pub packed_placement : Tree → Placement
packed_placement tree = record { parts = packed_from tree.wide 266 tree.nodes; heap = record { gaps = []; end = packed_length tree - 1 } }

-- ---- bytes

-- dates are zeros; all else is that of a fresh file, but for the byte order and the end
abbrev pub packed_header_of : Bool → Format → ℕ → HeaderRecord
packed_header_of wide format end = record (fresh_header wide) {
  created = replicate HEADER_CREATED.length 0;
  modified = replicate HEADER_MODIFIED.length 0;
  format = format;
  end = To end;
}

abbrev pub packed_header : Tree → HeaderRecord
packed_header tree = packed_header_of tree.wide tree.format (packed_length tree - 1)

-- the dimensions, and zeros past the rank
abbrev pub packed_dims : Bool → List ℕ → List (List ℕ)
packed_dims wide dims = map (λ (d : ℕ). hex_text (dimension_digits wide) d) dims ++ replicate (12 - length dims) (replicate (dimension_digits wide) 48)

abbrev pub packed_record : Bool → Node → NodeParts → NodeRecord
packed_record wide node parts = record {
  name = text_field NODE_NAME.length node.name;
  label = text_field NODE_LABEL.length node.label;
  children = length node.children;
  entries = entry_count parts.table;
  table = pointer_to (option_map (λ (t : TablePart). t.place) parts.table);
  kind = node.kind;
  rank = length node.dims;
  dims = packed_dims wide node.dims;
  chunks = length parts.chunks;
  chunk = pointer_to (chunk_pointer parts.chunks parts.chunk_table);
}

-- the entry of a child
abbrev pub packed_entry : Tree → Placement → ℕ → List ℕ
packed_entry tree p child = entry_text (text_field ENTRY_NAME.length (name_at tree child)) (To (parts_at p child).header)

abbrev pub packed_entries : Tree → Placement → List ℕ → List (List ℕ)
packed_entries tree p children = map (packed_entry tree p) children

-- the table of a node: no bytes without children
abbrev pub table_text : Tree → Placement → ℕ → List ℕ → List ℕ
table_text tree p place [] = []
table_text tree p place (c ∷ cs) = framed_text SubNodes place (in_row (packed_entries tree p (c ∷ cs)))

-- its data, with zeros up to 12 bytes
abbrev pub packed_payload : List ℕ → List ℕ
packed_payload bytes = bytes ++ replicate (12 - length bytes) 0

abbrev pub chunk_text : ℕ → Option (List ℕ) → List ℕ
chunk_text place None = []
chunk_text place (Some bytes) = framed_text Data place (packed_payload bytes)

-- a node whose header stands at a place
abbrev pub packed_node_text : Tree → Placement → ℕ → Node → List ℕ
packed_node_text tree p place node =
    node_text (packed_record tree.wide node (packed_parts tree.wide place node))
    ++ (table_text tree p (table_place tree.wide place) node.children ++ chunk_text (chunk_place tree.wide place node) node.bytes)

-- some nodes, one behind the other, from a place on
abbrev pub packed_nodes_text : Tree → Placement → ℕ → List (Option Node) → List ℕ
packed_nodes_text tree p place [] = []
packed_nodes_text tree p place (None ∷ nodes) = packed_nodes_text tree p place nodes
packed_nodes_text tree p place (Some node ∷ nodes) = packed_node_text tree p place node ++ packed_nodes_text tree p (place + packed_room tree.wide node) nodes

-- the file
unfoldable pub packed_text : Tree → List ℕ
packed_text tree =
    header_text (packed_header tree) ++ (free_table_text (replicate 6 Blank) ++ packed_nodes_text tree (packed_placement tree) 266 tree.nodes)
