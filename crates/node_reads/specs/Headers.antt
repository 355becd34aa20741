-- The header of a node as it is read, and the table of children that it names.
use Rattle.std.specs.Prelude.{◌≡◌, ℕ, ◌+◌, ◌^◌, nat_le, Bool, ◌&&◌, List, [], ◌∷◌, length, Option, Some, None}
use Rattle.adf_format.specs.declared.fields.TheConstants.{NODE_NAME, NODE_CHILDREN}
use Rattle.adf_format.specs.Fields.{text_field}
use Rattle.adf_format.specs.RecordFields.{field_in, table_length}
use Rattle.adf_format.specs.Pointer.{place_value}
use Rattle.adf_format.specs.Parts.{NodeFields, SpellsNode}
use Rattle.adf_format.specs.Records.{node_record}
use Rattle.adf_format.specs.Checks.{Row, row, first_broken}
use Rattle.adf_format.specs.FirstFault.{node_rows, is_same_name}
use Rattle.disk_ptr.specs.View.{view, place_of}
use Rattle.adf_records.specs.declared.NodeHeader.{NodeHeader}
use Rattle.adf_records.specs.View.{record_of}
use Rattle.node_reads.specs.declared.header.ChildTable.{ChildTable}

-- rules 15 to 21 of the header at a place, where an entry with this name field led to it, or none
abbrev pub header_rows : Bool → ℕ → Option (List ℕ) → List ℕ → List Row
header_rows wide place entry bytes = node_rows wide place (is_same_name entry (field_in bytes NODE_NAME)) bytes

-- a header is what the bytes say, and they break none of these rules
pub record IsHeader (wide : Bool) (place : ℕ) (entry : Option (List ℕ)) (header : NodeHeader) (bytes : List ℕ) : Type 0 where
  pub kept : first_broken (header_rows wide place entry bytes) ≡ None
  pub says : record_of header ≡ node_record wide bytes

-- the place of the table of children; 0 where there is none
abbrev pub table_of : NodeHeader → ℕ
table_of header = place_value (Some (view header.table))

-- rules 22 and 23 as far as a header at a place tells: not more children than entries, and than a node may have, and a
-- table that ends by the last place
abbrev pub table_rows : NodeHeader → ℕ → List Row
table_rows header place =
    row 22 (place + NODE_CHILDREN.offset) (nat_le header.children header.entries && nat_le header.children (2 ^ 20))
    ∷ row 23 (table_of header) (nat_le (table_of header + table_length header.entries) (2 ^ 44)) ∷ []

-- the table that a header names, and how many of its entries are in use
abbrev pub table_named : NodeHeader → ChildTable
table_named header = record { place = table_of header; entries = header.entries; count = header.children }

-- a header has these fields
pub record SaysFields (header : NodeHeader) (node : NodeFields) : Type 0 where
  pub name : header.name ≡ text_field 32 node.name
  pub label : header.label ≡ text_field 32 node.label
  pub children : header.children ≡ node.children
  pub entries : header.entries ≡ node.entries
  pub table : place_of header.table ≡ node.table
  pub kind : header.kind ≡ node.kind
  pub rank : header.rank ≡ length node.dims
  pub chunks : header.chunks ≡ node.chunks
  pub chunk : place_of header.chunk ≡ node.chunk

-- what is read of bytes that spell a node are the node's fields
abbrev pub FieldsAreRead : Type 0
FieldsAreRead =
    (wide : Bool) (bytes : List ℕ) (node : NodeFields) (header : NodeHeader)
    → SpellsNode wide bytes node → record_of header ≡ node_record wide bytes → SaysFields header node
