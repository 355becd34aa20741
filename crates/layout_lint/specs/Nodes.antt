-- The rules of a node's header, by what the code knows of it.
use Rattle.std.specs.Prelude.{◌≡◌, ◌≤◌, ◌<◌, ◌*◌, ◌-◌, ◌==◌, cond, Some, None, ℕ, ◌+◌, Bool, not, nat_lt, List, [], ◌∷◌, ◌++◌, map, take, unwrap_or, slice_index_or}
use Rattle.adf_format.specs.Hex.{hex_value}
use Rattle.adf_format.specs.Pointer.{place_value}
use Rattle.adf_format.specs.RecordFields.{field_in, at_place}
use Rattle.adf_format.specs.declared.fields.TheConstants.{NODE_TYPE}
use Rattle.disk_ptr.specs.View.{view}
use Rattle.adf_records.specs.declared.NodeHeader.{NodeHeader}
use Rattle.adf_format.specs.Fields.{field}
use Rattle.adf_format.specs.Parts.{node_length, dimension_digits, table_length}
use Rattle.adf_format.specs.Placement.{extent}
use Rattle.adf_format.specs.declared.types.ExtentKind.{ExtentKind}
use Rattle.adf_format.specs.Checks.{Row, row}
use Rattle.adf_format.specs.FirstFault.{fits, has_room, node_rows, is_same_name, visit_extents, table_in, children_in, entries_in, chunk_count, chunk_in, chunks_in, dims_in, type_or_mt, count_up, rows_unless, table_rows, entry_rows, chunk_table_rows, chunk_rows, data_rows, chunk_table_extents_at}
use Rattle.adf_format.specs.declared.types.Extent.{Extent}
use Rattle.adf_format.specs.Tiles.{total_length}
use Rattle.layout_lint.specs.Chunks.{data_extent}
use Rattle.layout_lint.specs.declared.node.Met.{Met}
use Rattle.layout_lint.specs.declared.look.Next.{Next}

-- it fits, is met for the first time, and has room
unfoldable pub place_rows : Bool → ℕ → Bool → ℕ → ℕ → List Row
place_rows wide end known used p = row 12 p (fits end p (node_length wide)) ∷ row 13 p (not known) ∷ row 14 p (has_room end used (node_length wide)) ∷ []

-- the rules of the header's bytes
abbrev pub bytes_rows : List ℕ → Bool → Met → List Row
bytes_rows image wide m = node_rows wide m.place (is_same_name m.entry (field image (m.place + 4) 32)) (field image m.place (node_length wide))

-- rules 12 to 21
abbrev pub header_rows_at : List ℕ → Bool → ℕ → Bool → ℕ → Met → List Row
header_rows_at image wide end known used m = place_rows wide end known used m.place ++ bytes_rows image wide m

-- ---- what the header names

-- the twelve dimensions as numbers
abbrev pub numbers_of : NodeHeader → List ℕ
numbers_of n = map (λ i. unwrap_or (hex_value (take (dimension_digits n.wide) (slice_index_or n.dims i []))) 0) (count_up 12)

-- where a pointer of the header leads; 0 where it leads nowhere
abbrev pub table_of : NodeHeader → ℕ
table_of n = place_value (Some (view n.table))

abbrev pub chunk_of : NodeHeader → ℕ
chunk_of n = place_value (Some (view n.chunk))

-- a header as code has it says what the one at a place of the image says
pub record IsHeaderAt (image : List ℕ) (wide : Bool) (p : ℕ) (n : NodeHeader) : Type 0 where
  pub children : n.children ≡ children_in image p
  pub entries : n.entries ≡ entries_in image p
  pub table : table_of n ≡ table_in image p
  pub kind : n.kind ≡ type_or_mt (field_in image (at_place p NODE_TYPE))
  pub rank : n.rank ≤ 12
  pub dims : take n.rank (numbers_of n) ≡ dims_in image wide p
  pub chunks : n.chunks ≡ chunk_count image wide p
  pub chunk : chunk_of n ≡ chunk_in image wide p

-- the rules of a table of children with these entries and children, if there is one: 23, 14 and 24
abbrev pub children_rows : List ℕ → ℕ → ℕ → ℕ → ℕ → ℕ → List Row
children_rows image end used table entries children = rows_unless (entries == 0) (table_rows image end used table entries) ++ entry_rows image table children

-- the extent of such a table, if there is one
abbrev pub table_extents : ℕ → ℕ → List Extent
table_extents table entries = cond (entries == 0) [] (extent ExtentKind.SubNodes table (table_length entries) ∷ [])

-- the rules of the chunks of a node, and of what they hold: 25, 14 and 26 to 28
abbrev pub data_rows_at : List ℕ → Bool → ℕ → ℕ → ℕ → List Row
data_rows_at image wide end used p =
    rows_unless (nat_lt (chunk_count image wide p) 2) (chunk_table_rows image end used (chunk_in image wide p) (chunk_count image wide p))
    ++ chunk_rows image end (used + total_length (chunk_table_extents_at image wide p)) (chunks_in image wide p)
    ++ data_rows image wide p

-- the extents of the chunks of a node and of their table
abbrev pub data_extents_at : List ℕ → Bool → ℕ → List Extent
data_extents_at image wide p = chunk_table_extents_at image wide p ++ map (data_extent image) (chunks_in image wide p)

-- ---- what a sound node leads to, and its extents

-- the extents of the node whose header stands at a place
abbrev pub extents_at : List ℕ → Bool → ℕ → List Extent
extents_at image wide p = visit_extents image wide (record { place = p; entry = None; path = [] })

-- its table and its children, and the bytes of all extents with its own
pub record LeadsTo (image : List ℕ) (wide : Bool) (used place : ℕ) (next : Next) : Type 0 where
  pub table : next.table.place ≡ table_in image place
  pub children : next.children ≡ children_in image place
  pub spent : next.used ≡ used + total_length (extents_at image wide place)

-- what the code has tested of it, whether bytes are told or not
pub record IsNext (end used depth : ℕ) (next : Next) : Type 0 where
  pub more : used < next.used
  pub room : next.used ≤ end + 1
  pub shallow : 0 < next.children → depth < 255
  pub within : 0 < next.children → next.table.place + 16 + 44 * next.children ≤ end + 1
  pub few : 2 * next.children ≤ next.used - used
