-- A node whose data stand elsewhere, or are gone, at once: what is written, and what the file then holds.
use Rattle.std.specs.Prelude.{◌≡◌, ℕ, ◌≤◌, Bool, List, ◌++◌, length, Option, Some, Ok}
use Rattle.adf_format.specs.declared.types.Extent.{Extent}
use Rattle.adf_format.specs.Changes.{heap_fields}
use Rattle.adf_format.specs.Fields.{field}
use Rattle.adf_format.specs.HeapBytes.{ChangesOnly, MovesEnd, KeepsFillers}
use Rattle.adf_format.specs.HeapRule.{Placed, place_edit, with_parts}
use Rattle.adf_format.specs.LaysOut.{LaysOut, AreGapsInOrder, ThreadsFreeChunks, fields_of}
use Rattle.adf_format.specs.Parts.{SpellsNode, node_length}
use Rattle.adf_format.specs.Placement.{Placement, NodeParts, ChunkPart, Heap, parts_of}
use Rattle.adf_format.specs.Tree.{Tree, Node, node_at}
use Rattle.adf_model.specs.declared.tree.Edit.{Edit}
use Rattle.adf_model.specs.declared.tree.NodeId.{NodeId}
use Rattle.adf_model.specs.declared.tree.Selection.{Selection}
use Rattle.adf_model.specs.declared.tree.Shape.{Shape}
use Rattle.adf_model.specs.Edits.{file_step, with_shape, with_part}
use Rattle.adf_model.specs.NodeData.{HoldsData, SharesRoom}
use Rattle.adf_model.specs.Shapes.{dims_of}
use Rattle.tree_laws.specs.DataSwitch.{with_data}
use Rattle.tree_laws.specs.MidEdit.{room}
use Rattle.tree_laws.specs.Spared.{IsEditWhole}
use Rattle.tree_laws.specs.WholeData.{data_ranges, shape_ranges}

-- the file with other data of a node, and another heap
abbrev pub settled : Placement → ℕ → NodeParts → List ChunkPart → Option ℕ → Heap → Placement
settled p serial from chunks table heap = record (with_parts p serial (with_data from chunks table)) { heap = heap }

-- What is written lies in the heap's fields, in the gaps, behind the end and in the ranges of the edit; the chunks, the chunk table
-- and the gaps are afterwards the bytes of those before, and those by which the end grew; the header says the node as it is now,
-- and the chunks hold its data.
pub record Settles (ranges : List Extent) (wide : Bool) (now : Node) (from : NodeParts)
    (chunks : List ChunkPart) (table : Option ℕ) (before later : Heap) (old new : List ℕ) : Type 0 where
  pub changes : ChangesOnly (heap_fields ++ room ranges before later) old new
  pub rise : before.end ≤ later.end
  pub share : SharesRoom (from, before) (with_data from chunks table, later)
  pub header : SpellsNode wide (field new from.header (node_length wide)) (fields_of now (with_data from chunks table))
  pub holds : HoldsData new (with_data from chunks table) now.bytes
  pub order : AreGapsInOrder later.gaps
  pub threads : ThreadsFreeChunks new later.gaps
  pub end : MovesEnd before.end later.end old new
  pub fillers : KeepsFillers before.gaps later.gaps old new

-- an edit that sets a node to another is done where its parts then stand, whatever the order of what was written
abbrev pub SettlesWhole : Edit → NodeId → (Node → Node) → (Bool → NodeParts → List Extent) → Type 0
SettlesWhole edit at change ranges_of =
    (limit : ℕ) (writable : Bool) (old new : List ℕ) (tree after : Tree) (p : Placement) (node : Node)
    (from : NodeParts) (chunks : List ChunkPart) (table : Option ℕ) (later : Heap)
    → LaysOut old tree p → file_step writable tree edit ≡ Ok after
    → node_at tree at.serial ≡ Some node → parts_of p at.serial ≡ Some from
    → place_edit limit tree after (Placed.Data at.serial) p ≡ Ok (settled p at.serial from chunks table later)
    → Settles (ranges_of tree.wide from) tree.wide (change node) from chunks table p.heap later old new
    → IsEditWhole limit writable edit tree p after (settled p at.serial from chunks table later) old new

abbrev pub SetDimsSettles : Type 0
SetDimsSettles =
    (at : NodeId) (shape : Shape)
    → SettlesWhole (Edit.SetDims at shape) at (λ node. with_shape node shape) (λ wide from. shape_ranges wide from (length (dims_of shape)))

abbrev pub PutAllSettles : Type 0
PutAllSettles =
    (at : NodeId) (bytes : List ℕ) → SettlesWhole (Edit.PutAll at bytes) at (λ node. record node { bytes = Some bytes }) data_ranges

abbrev pub PutPartSettles : Type 0
PutPartSettles =
    (at : NodeId) (selection : Selection) (bytes : List ℕ)
    → SettlesWhole (Edit.PutPart at selection bytes) at (λ node. with_part node selection bytes) data_ranges
