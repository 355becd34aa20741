-- The edits of data with their gifts: they end where the rule of the heap puts the data.
use Rattle.std.specs.Prelude.{◌≡◌, ℕ, ◌+◌, ◌^◌, ◌<◌, ◌≤◌, Bool, List, [], ◌∷◌, ◌++◌, length, Option, Some, None, Ok}
use Rattle.adf_format.specs.declared.types.DataType.{DataType}
use Rattle.adf_format.specs.declared.types.Extent.{Extent}
use Rattle.adf_format.specs.declared.types.ExtentKind.{ExtentKind}
use Rattle.adf_format.specs.Tree.{Tree, Node, IsTree, node_at}
use Rattle.adf_format.specs.Parts.{chunk_count_at, chunk_table_length}
use Rattle.adf_format.specs.Placement.{Placement, NodeParts, ChunkPart, Heap, extent, parts_of, chunk_table_extents}
use Rattle.adf_format.specs.LaysOut.{chunk_pointer}
use Rattle.adf_format.specs.Changes.{Writes}
use Rattle.adf_format.specs.HeapRule.{heap_take, chunk, chunk_length_for, data_extents, in_one_chunk, in_one_more, release}
use Rattle.adf_model.specs.NodeData.{HoldsData}
use Rattle.adf_model.specs.Edits.{with_node}
use Rattle.tree_laws.specs.Holding.{Holds}
use Rattle.tree_laws.specs.Gifts.{GivesEach}
use Rattle.tree_laws.specs.DataSwitch.{with_data, shape_text, chunks_text, AreSpelled}

-- the node with another shape and other data
abbrev pub set_node : Node → DataType → List ℕ → Option (List ℕ) → Node
set_node node kind dims bytes = record node { kind = kind; dims = dims; bytes = bytes }

-- where a node gets a shape and chunks, the header is written, and something is given
pub record Rewrites (wide : Bool) (kind : DataType) (dims : List ℕ) (header : ℕ) (chunks : List ChunkPart)
    (table : Option ℕ) (given : List Extent) (heap : Heap) (old new : List ℕ) : Type 0 where
  pub few : length dims ≤ 12
  pub spelled : AreSpelled wide dims
  pub middle : List ℕ
  pub shape : Writes (header + 96) (shape_text wide kind dims) old middle
  pub written : List ℕ
  pub counted : Writes (header + chunk_count_at wide) (chunks_text (length chunks) (chunk_pointer chunks table)) middle written
  pub gives : GivesEach given heap written new

-- all data are in one new chunk that was taken: the old chunks and the old chunk table are given
abbrev pub OneChunkEnds : Type 0
OneChunkEnds =
    (limit size : ℕ) (old new : List ℕ) (tree : Tree) (p : Placement) (heap : Heap) (taken : List Extent)
    (ek : ExtentKind) (s place : ℕ) (node : Node) (kind : DataType) (dims : List ℕ)
    (bytes : Option (List ℕ)) (from : NodeParts)
    → heap_take limit (chunk_length_for size) p.heap ≡ Ok (place, heap)
    → Holds old tree (record p { heap = heap }) (extent ek place (chunk_length_for size) ∷ taken)
    → node_at tree s ≡ Some node → parts_of p s ≡ Some from → place < 2 ^ 44
    → HoldsData old (with_data from (chunk place (chunk_length_for size) ∷ []) None) bytes
    → Rewrites tree.wide kind dims from.header (chunk place (chunk_length_for size) ∷ []) None (data_extents from) heap old new
    → IsTree (with_node tree s (set_node node kind dims bytes))
    → (q : Placement) × (in_one_chunk limit p s size ≡ Ok q)
    × Holds new (with_node tree s (set_node node kind dims bytes)) q taken

-- what is added is in one more chunk, and a longer chunk table names all: both were taken, and the old chunk table
-- is given
abbrev pub OneMoreEnds : Type 0
OneMoreEnds =
    (limit added : ℕ) (old new : List ℕ) (tree : Tree) (p : Placement) (between heap : Heap)
    (taken : List Extent) (ek et : ExtentKind) (s place table : ℕ) (node : Node) (kind : DataType)
    (dims : List ℕ) (bytes : Option (List ℕ)) (from : NodeParts)
    → heap_take limit (chunk_length_for added) p.heap ≡ Ok (place, between)
    → heap_take limit (chunk_table_length (length from.chunks + 1)) between ≡ Ok (table, heap)
    → Holds old tree (record p { heap = heap }) (extent et table (chunk_table_length (length from.chunks + 1)) ∷ extent ek place (chunk_length_for added) ∷ taken)
    → node_at tree s ≡ Some node → parts_of p s ≡ Some from → length from.chunks + 1 < 16 ^ 4
    → table < 2 ^ 44
    → HoldsData old (with_data from (from.chunks ++ chunk place (chunk_length_for added) ∷ []) (Some table)) bytes
    → Rewrites tree.wide kind dims from.header (from.chunks ++ chunk place (chunk_length_for added) ∷ []) (Some table) (chunk_table_extents from.chunk_table (length from.chunks)) heap old new
    → IsTree (with_node tree s (set_node node kind dims bytes))
    → (q : Placement) × (in_one_more limit p s added ≡ Ok q)
    × Holds new (with_node tree s (set_node node kind dims bytes)) q taken

-- the data become none: all chunks are given
abbrev pub ReleaseEnds : Type 0
ReleaseEnds =
    (old new : List ℕ) (tree : Tree) (p : Placement) (taken : List Extent) (s : ℕ) (node : Node)
    (kind : DataType) (dims : List ℕ) (from : NodeParts)
    → Holds old tree p taken → node_at tree s ≡ Some node → parts_of p s ≡ Some from
    → Rewrites tree.wide kind dims from.header [] None (data_extents from) p.heap old new
    → IsTree (with_node tree s (set_node node kind dims None))
    → Holds new (with_node tree s (set_node node kind dims None)) (release p s) taken

-- the chunks stay: the header says another shape, and the chunks hold the data already
abbrev pub ShapeInPlace : Type 0
ShapeInPlace =
    (old new : List ℕ) (tree : Tree) (p : Placement) (taken : List Extent) (s : ℕ) (node : Node)
    (kind : DataType) (dims : List ℕ) (bytes : Option (List ℕ)) (from : NodeParts)
    → Holds old tree p taken → node_at tree s ≡ Some node → parts_of p s ≡ Some from → length dims ≤ 12
    → AreSpelled tree.wide dims → HoldsData old from bytes
    → Writes (from.header + 96) (shape_text tree.wide kind dims) old new
    → IsTree (with_node tree s (set_node node kind dims bytes))
    → Holds new (with_node tree s (set_node node kind dims bytes)) p taken
