-- A file in the midst of an edit: it holds a tree, and some ranges are taken that no node uses.
use Rattle.std.specs.Prelude.{◌≡◌, ℕ, ◌<◌, ◌≤◌, true, false, IsTrue, List, ◌++◌, length, map, slice_get, Some, is_some, ◌⊎◌}
use Rattle.adf_format.specs.declared.types.Extent.{Extent}
use Rattle.adf_format.specs.declared.fields.TheConstants.{HEADER_LENGTH, HEADER_END}
use Rattle.adf_format.specs.Fields.{field}
use Rattle.adf_format.specs.Tree.{Tree, Node, IsTree, node_at, is_among}
use Rattle.adf_format.specs.Tiles.{Tiles, cover, is_filler}
use Rattle.adf_format.specs.Parts.{SpellsHeader, IsFiller}
use Rattle.adf_format.specs.Placement.{Placement, NodeParts, parts_of, node_extents, live_extents, head_extents, all_extents}
use Rattle.adf_format.specs.LaysOut.{HoldsNode, AreGapsInOrder, ThreadsFreeChunks}
use Rattle.adf_format.specs.Changes.{SameChildren}
use Rattle.adf_format.specs.HeapBytes.{HoldsFillers}
use Rattle.adf_format.specs.RecordFields.{field_in}
use Rattle.adf_format.specs.Pointer.{PointsTo}

-- The bytes hold the tree at the placement, and with the ranges taken its parts and gaps tile the file. Bytes
-- behind those that are held lie in such ranges alone.
pub record Holds (image : List ℕ) (tree : Tree) (p : Placement) (taken : List Extent) : Type 0 where
  pub is_tree : IsTree tree
  pub beyond : (b : ℕ) → length image ≤ b → cover (all_extents tree.wide p) b ≡ 0
  pub header : (root : NodeParts) × (parts_of p 0 ≡ Some root)
      × SpellsHeader (field image 0 HEADER_LENGTH) tree.wide tree.format root.header p.heap.end
  pub same_nodes : map is_some p.parts ≡ map is_some tree.nodes
  pub nodes : (serial : ℕ) (node : Node) (parts : NodeParts) → node_at tree serial ≡ Some node
      → parts_of p serial ≡ Some parts → HoldsNode image tree p node parts
  pub tiles : Tiles (taken ++ all_extents tree.wide p) p.heap.end
  pub gaps : AreGapsInOrder p.heap.gaps
  pub fillers : (k : ℕ) (g : Extent) → slice_get p.heap.gaps k ≡ Some g → IsTrue (is_filler g)
      → IsFiller (field image g.place g.length)
  pub threads : ThreadsFreeChunks image p.heap.gaps

-- no byte is lost, and each that lies in none of the ranges is as before
pub record ChangesIn (ranges : List Extent) (old new : List ℕ) : Type 0 where
  pub longer : length old ≤ length new
  pub others : (b : ℕ) → b < length old → cover ranges b ≡ 0 → slice_get new b ≡ slice_get old b

-- bytes that some ranges, the free table and the gaps keep apart from what changes
abbrev pub MeetsNothing : List Extent → List Extent → Type 0
MeetsNothing ranges xs = (b : ℕ) → 0 < cover xs b → cover ranges b ≡ 0

-- The heap alone moves: ranges are taken or given, and what is written lies in its own fields, in the gaps and in
-- the ranges taken.
pub record MovesHeap (ranges : List Extent) (tree : Tree) (p q : Placement) (kept : List Extent)
    (old new : List ℕ) : Type 0 where
  pub parts : q.parts ≡ p.parts
  pub changes : ChangesIn ranges old new
  pub apart : MeetsNothing ranges (live_extents tree.wide p)
  pub head : (b : ℕ) → b < 186 → (b < 146) ⊎ (158 ≤ b) → cover ranges b ≡ 0
  pub end : PointsTo (field_in new HEADER_END) q.heap.end
  pub tiles : Tiles (kept ++ all_extents tree.wide q) q.heap.end
  pub gaps : AreGapsInOrder q.heap.gaps
  pub fillers : HoldsFillers new q.heap.gaps
  pub threads : ThreadsFreeChunks new q.heap.gaps

-- The tree and its parts change in the nodes of some serials, whose new bytes stand; the heap stays, and no byte
-- gets another owner but those of these nodes and of the ranges taken.
pub record Rebuilds (ranges : List Extent) (touched : List ℕ) (tree after : Tree) (p q : Placement)
    (taken kept : List Extent) (old new : List ℕ) : Type 0 where
  pub is_tree : IsTree after
  pub wide : after.wide ≡ tree.wide
  pub format : after.format ≡ tree.format
  pub same_nodes : map is_some q.parts ≡ map is_some after.nodes
  pub heap : q.heap ≡ p.heap
  pub root : (from : NodeParts) → parts_of p 0 ≡ Some from → (to : NodeParts) × (parts_of q 0 ≡ Some to)
      × (to.header ≡ from.header)
  pub changes : ChangesIn ranges old new
  pub apart : MeetsNothing ranges (head_extents ++ p.heap.gaps)
  pub owners : (b : ℕ)
      → cover (kept ++ all_extents after.wide q) b ≡ cover (taken ++ all_extents tree.wide p) b
  pub beyond : (b : ℕ) → length new ≤ b → cover (live_extents after.wide q) b ≡ 0
  pub others : (serial : ℕ) (node : Node) (parts : NodeParts) → is_among touched serial ≡ false
      → node_at after serial ≡ Some node → parts_of q serial ≡ Some parts
      → (node_at tree serial ≡ Some node) × (parts_of p serial ≡ Some parts)
      × MeetsNothing ranges (node_extents tree.wide parts) × SameChildren tree p after q node.children
  pub those : (serial : ℕ) (node : Node) (parts : NodeParts) → is_among touched serial ≡ true
      → node_at after serial ≡ Some node → parts_of q serial ≡ Some parts → HoldsNode new after q node parts
