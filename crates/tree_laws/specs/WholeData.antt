-- Edits of shape and data whole: from their tests and their writes to what the file then holds, where the rule of the heap puts it, and what is left.
use Rattle.std.specs.Prelude.{◌≡◌, ℕ, ◌+◌, ◌*◌, ◌<◌, Bool, List, [], ◌∷◌, ◌++◌, length, Option, Some, Ok}
use Rattle.std.specs.List.{AllByRecursion}
use Rattle.adf_format.specs.declared.types.Extent.{Extent}
use Rattle.adf_format.specs.declared.types.ExtentKind.{ExtentKind}
use Rattle.adf_format.specs.HeapBytes.{ChangesOnly}
use Rattle.adf_format.specs.Tree.{Tree, Node, node_at}
use Rattle.adf_format.specs.Tiles.{cover}
use Rattle.adf_format.specs.Parts.{dimension_digits, chunk_count_at}
use Rattle.adf_format.specs.Placement.{Placement, NodeParts, ChunkPart, Heap, extent, parts_of}
use Rattle.adf_format.specs.LaysOut.{LaysOut}
use Rattle.adf_format.specs.HeapRule.{Placed, data_extents, with_parts, after_gives, place_edit}
use Rattle.adf_model.specs.declared.tree.Edit.{Edit}
use Rattle.adf_model.specs.declared.tree.NodeId.{NodeId}
use Rattle.adf_model.specs.declared.tree.Selection.{Selection}
use Rattle.adf_model.specs.declared.tree.Shape.{Shape}
use Rattle.adf_model.specs.Edits.{file_step, with_shape, with_part}
use Rattle.adf_model.specs.Shapes.{dims_of}
use Rattle.tree_laws.specs.DataSwitch.{Switches, with_data}
use Rattle.tree_laws.specs.MidEdit.{IsMidEdit, GivesAll}
use Rattle.tree_laws.specs.Spared.{IsEditWhole}

-- the ranges of a change of data: the count of the chunks with the pointer to them, and the chunks and the chunk table
abbrev pub data_ranges : Bool → NodeParts → List Extent
data_ranges wide from = extent ExtentKind.Node (from.header + chunk_count_at wide) 16 ∷ data_extents from

-- of a change of shape, besides, the type, the rank and as many dimensions
abbrev pub shape_ranges : Bool → NodeParts → ℕ → List Extent
shape_ranges wide from rank = extent ExtentKind.Node (from.header + 96) (34 + rank * dimension_digits wide) ∷ data_ranges wide from

-- what is said of an edit that sets a node to another, in some ranges: where its new chunks stand in what the heap gave and among its own, and the header names them, what it had and has no more is given
abbrev pub SetsData : Edit → NodeId → (Node → Node) → (Bool → NodeParts → List Extent) → Type 0
SetsData edit at change ranges_of =
    (limit : ℕ) (writable : Bool) (old a written new : List ℕ) (tree after : Tree) (p : Placement) (heap : Heap)
    (taken given ranges : List Extent) (node : Node) (from : NodeParts) (chunks : List ChunkPart) (table : Option ℕ)
    → LaysOut old tree p → file_step writable tree edit ≡ Ok after
    → node_at tree at.serial ≡ Some node → parts_of p at.serial ≡ Some from
    → place_edit limit tree after (Placed.Data at.serial) p
    ≡ Ok (after_gives (with_parts (record p { heap = heap }) at.serial (with_data from chunks table)) given)
    → IsMidEdit (ranges_of tree.wide from) p old tree (record p { heap = heap }) taken a
    → Switches ranges tree.wide (change node) from chunks table taken (given ++ []) a written
    → ChangesOnly ranges a written
    → ((b : ℕ) → 0 < cover ranges b → 0 < cover (taken ++ ranges_of tree.wide from) b)
    → AllByRecursion (λ (e : Extent). 0 < e.length) given → GivesAll given heap written new
    → IsEditWhole limit writable edit tree p after
    (after_gives (with_parts (record p { heap = heap }) at.serial (with_data from chunks table)) given) old new

abbrev pub SetDimsIsWhole : Type 0
SetDimsIsWhole =
    (at : NodeId) (shape : Shape)
    → SetsData (Edit.SetDims at shape) at (λ node. with_shape node shape) (λ wide from. shape_ranges wide from (length (dims_of shape)))

abbrev pub PutAllIsWhole : Type 0
PutAllIsWhole =
    (at : NodeId) (bytes : List ℕ) → SetsData (Edit.PutAll at bytes) at (λ node. record node { bytes = Some bytes }) data_ranges

abbrev pub PutPartIsWhole : Type 0
PutPartIsWhole =
    (at : NodeId) (selection : Selection) (bytes : List ℕ)
    → SetsData (Edit.PutPart at selection bytes) at (λ node. with_part node selection bytes) data_ranges
