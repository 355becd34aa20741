-- The shape and the data of a node change: its header says them, and its chunks stand in ranges that were taken, or
-- in its own.
use Rattle.std.specs.Prelude.{◌≡◌, ℕ, ◌+◌, ◌^◌, ◌<◌, ◌≤◌, Bool, List, ◌∷◌, ◌++◌, length, map, slice_get, Option, Some}
use Rattle.adf_format.specs.declared.types.DataType.{DataType}
use Rattle.adf_format.specs.declared.types.Extent.{Extent}
use Rattle.adf_format.specs.declared.types.ExtentKind.{ExtentKind}
use Rattle.adf_format.specs.Hex.{hex_text}
use Rattle.adf_format.specs.Pointer.{pointer_text}
use Rattle.adf_format.specs.Fields.{field, text_field}
use Rattle.adf_format.specs.Tree.{Tree, Node, IsTree, node_at}
use Rattle.adf_format.specs.Tiles.{cover}
use Rattle.adf_format.specs.Parts.{NodeFields, SpellsNode, type_word, dimension_digits, chunk_count_at, node_length}
use Rattle.adf_format.specs.Placement.{Placement, NodeParts, ChunkPart, extent, parts_of}
use Rattle.adf_format.specs.LaysOut.{fields_of, chunk_pointer}
use Rattle.adf_format.specs.Changes.{Writes}
use Rattle.adf_format.specs.HeapRule.{data_extents, with_parts}
use Rattle.adf_format.specs.Spelled.{in_row, pointer_to, IsInReach}
use Rattle.adf_model.specs.NodeData.{HoldsData}
use Rattle.adf_model.specs.Edits.{with_node}
use Rattle.tree_laws.specs.Holding.{Holds, ChangesIn}

-- the parts of a node with other data
abbrev pub with_data : NodeParts → List ChunkPart → Option ℕ → NodeParts
with_data from chunks table = record from { chunks = chunks; chunk_table = table }

-- What is written lies in the node's header, in its data and in ranges that were taken; taken ranges and the node's
-- data share the same bytes before and after; the header says the node as it is now, and the new chunks hold its
-- data.
pub record Switches (ranges : List Extent) (wide : Bool) (now : Node) (from : NodeParts)
    (chunks : List ChunkPart) (table : Option ℕ) (taken kept : List Extent)
    (old new : List ℕ) : Type 0 where
  pub changes : ChangesIn ranges old new
  pub within : (b : ℕ) → 0 < cover ranges b
      → 0 < cover (extent ExtentKind.Node from.header (node_length wide) ∷ data_extents from ++ taken) b
  pub owners : (b : ℕ)
      → cover (kept ++ data_extents (with_data from chunks table)) b ≡ cover (taken ++ data_extents from) b
  pub header : SpellsNode wide (field new from.header (node_length wide)) (fields_of now (with_data from chunks table))
  pub holds : HoldsData new (with_data from chunks table) now.bytes

-- one step for each edit of data: new chunks or the old ones, more of them, or none
abbrev pub DataSwitches : Type 0
DataSwitches =
    (ranges : List Extent) (old new : List ℕ) (tree : Tree) (p : Placement) (taken kept : List Extent)
    (s : ℕ) (node now : Node) (from : NodeParts) (chunks : List ChunkPart) (table : Option ℕ)
    → Holds old tree p taken → node_at tree s ≡ Some node → parts_of p s ≡ Some from → now.name ≡ node.name
    → now.children ≡ node.children
    → Switches ranges tree.wide now from chunks table taken kept old new → IsTree (with_node tree s now)
    → Holds new (with_node tree s now) (with_parts p s (with_data from chunks table)) kept

-- ---- what is written in the header

-- the type, the rank and the dimensions
abbrev pub shape_text : Bool → DataType → List ℕ → List ℕ
shape_text wide kind dims =
    text_field 32 (type_word kind) ++ hex_text 2 (length dims) ++ in_row (map (hex_text (dimension_digits wide)) dims)

-- the count of the chunks and the pointer to them
abbrev pub chunks_text : ℕ → Option ℕ → List ℕ
chunks_text count place = hex_text 4 count ++ pointer_text (pointer_to place)

-- each dimension fits its digits
abbrev pub AreSpelled : Bool → List ℕ → Type 0
AreSpelled wide dims = (i d : ℕ) → slice_get dims i ≡ Some d → d < 16 ^ dimension_digits wide

abbrev pub ShapeWritten : Type 0
ShapeWritten =
    (wide : Bool) (old new : List ℕ) (place : ℕ) (was : NodeFields) (kind : DataType) (dims : List ℕ)
    → Writes (place + 96) (shape_text wide kind dims) old new → place + node_length wide ≤ length old
    → length dims ≤ 12 → AreSpelled wide dims
    → SpellsNode wide (field old place (node_length wide)) was
    → SpellsNode wide (field new place (node_length wide)) (record was { kind = kind; dims = dims })

abbrev pub ChunksWritten : Type 0
ChunksWritten =
    (wide : Bool) (old new : List ℕ) (place : ℕ) (was : NodeFields) (count : ℕ) (chunk : Option ℕ)
    → Writes (place + chunk_count_at wide) (chunks_text count chunk) old new
    → place + node_length wide ≤ length old → length was.dims ≤ 12 → count < 16 ^ 4 → IsInReach chunk
    → SpellsNode wide (field old place (node_length wide)) was
    → SpellsNode wide (field new place (node_length wide)) (record was { chunks = count; chunk = chunk })

-- ---- the two edits, in the words of what they write

-- new chunks stand, in ranges that were taken or among the node's own, and the header says the shape and the chunks
abbrev pub ShapeIsSet : Type 0
ShapeIsSet =
    (old middle new : List ℕ) (tree : Tree) (p : Placement) (taken kept : List Extent) (s : ℕ) (node : Node)
    (kind : DataType) (dims : List ℕ) (bytes : Option (List ℕ)) (from : NodeParts) (chunks : List ChunkPart)
    (table : Option ℕ)
    → Holds old tree p taken → node_at tree s ≡ Some node → parts_of p s ≡ Some from → length dims ≤ 12
    → AreSpelled tree.wide dims → length chunks < 16 ^ 4 → IsInReach (chunk_pointer chunks table)
    → HoldsData old (with_data from chunks table) bytes
    → ((b : ℕ) → cover (kept ++ data_extents (with_data from chunks table)) b ≡ cover (taken ++ data_extents from) b)
    → Writes (from.header + 96) (shape_text tree.wide kind dims) old middle
    → Writes (from.header + chunk_count_at tree.wide) (chunks_text (length chunks) (chunk_pointer chunks table)) middle new
    → IsTree (with_node tree s (record node { kind = kind; dims = dims; bytes = bytes }))
    → Holds new (with_node tree s (record node { kind = kind; dims = dims; bytes = bytes })) (with_parts p s (with_data from chunks table)) kept

-- the same where the shape stays
abbrev pub DataIsReplaced : Type 0
DataIsReplaced =
    (old new : List ℕ) (tree : Tree) (p : Placement) (taken kept : List Extent) (s : ℕ) (node : Node)
    (bytes : Option (List ℕ)) (from : NodeParts) (chunks : List ChunkPart) (table : Option ℕ)
    → Holds old tree p taken → node_at tree s ≡ Some node → parts_of p s ≡ Some from
    → length chunks < 16 ^ 4 → IsInReach (chunk_pointer chunks table)
    → HoldsData old (with_data from chunks table) bytes
    → ((b : ℕ) → cover (kept ++ data_extents (with_data from chunks table)) b ≡ cover (taken ++ data_extents from) b)
    → Writes (from.header + chunk_count_at tree.wide) (chunks_text (length chunks) (chunk_pointer chunks table)) old new
    → IsTree (with_node tree s (record node { bytes = bytes }))
    → Holds new (with_node tree s (record node { bytes = bytes })) (with_parts p s (with_data from chunks table)) kept

-- and where the data are written over in the chunks that they have
abbrev pub DataIsOverwritten : Type 0
DataIsOverwritten =
    (ranges : List Extent) (old new : List ℕ) (tree : Tree) (p : Placement) (taken : List Extent) (s : ℕ)
    (node : Node) (bytes : Option (List ℕ)) (from : NodeParts)
    → Holds old tree p taken → node_at tree s ≡ Some node → parts_of p s ≡ Some from
    → ChangesIn ranges old new → ((b : ℕ) → 0 < cover ranges b → 0 < cover (data_extents from) b)
    → HoldsData new from bytes → IsTree (with_node tree s (record node { bytes = bytes }))
    → Holds new (with_node tree s (record node { bytes = bytes })) p taken
