-- Parts of nodes that are given to the heap.
use Rattle.std.specs.Prelude.{◌≡◌, ℕ, ◌+◌, ◌*◌, Bool, List, [], ◌∷◌, ◌++◌, Option, IfSome, ⊤}
use Rattle.std.specs.List.{flat_map}
use Rattle.adf_data.specs.Sizes.{MayGiveAll}
use Rattle.adf_format.specs.declared.types.Extent.{Extent}
use Rattle.adf_format.specs.Changes.{heap_fields}
use Rattle.adf_format.specs.HeapBytes.{ChangesOnly, MovesEnd, KeepsFillers}
use Rattle.adf_format.specs.HeapRule.{give_all}
use Rattle.adf_format.specs.Placement.{Heap, NodeParts, node_extents}
use Rattle.file_heap.specs.Heap.{FreeSpace, IsThreaded}
use Rattle.tree_edits.specs.Waiting.{WaitsInRoom}
use Rattle.tree_deletes.specs.declared.doomed.Doomed.{Doomed}
use Rattle.tree_deletes.specs.Doomed.{Stands}

-- Ranges are given: the heap is that of its rule, and only its fields, the ranges and the gaps change.
pub record GivesTogether (es : List Extent) (was now : FreeSpace) (old new : List ℕ) : Type 0 where
  pub heap : now.heap ≡ give_all es was.heap
  pub changes : ChangesOnly (heap_fields ++ es ++ was.heap.gaps) old new
  pub end : MovesEnd was.heap.end now.heap.end old new
  pub fillers : KeepsFillers was.heap.gaps now.heap.gaps old new
  pub threads : IsThreaded now new

-- nodes stand where their parts say, one by one
abbrev pub AllStand : List ℕ → List NodeParts → List Doomed → Type 0
AllStand bytes [] [] = ⊤
AllStand bytes [] (d ∷ ds) = ⊥
AllStand bytes (parts ∷ rest) [] = ⊥
AllStand bytes (parts ∷ rest) (d ∷ ds) = Stands bytes parts d × AllStand bytes rest ds

abbrev pub parts_extents : Bool → List NodeParts → List Extent
parts_extents wide parts = flat_map (node_extents wide) parts

-- the parts of a node that stand in the bytes, and may be given, are given
abbrev pub GivesNode : Bool → Doomed → FreeSpace → FreeSpace → List ℕ → List ℕ → Type 0
GivesNode wide d was now old new =
    (parts : NodeParts) → Stands old parts d → MayGiveAll (node_extents wide parts) was.heap
    → GivesTogether (node_extents wide parts) was now old new

-- the bytes are not told, or the parts of a node do not stand in them, or may not be given
abbrev pub NodeMayNot : Bool → Doomed → Heap → Option (List ℕ) → Type 0
NodeMayNot wide d heap held =
    IfSome held (λ bytes. (parts : NodeParts) → Stands bytes parts d → MayGiveAll (node_extents wide parts) heap → ⊥)

-- the same of nodes, one after another
abbrev pub GivesNodes : Bool → List Doomed → FreeSpace → FreeSpace → List ℕ → List ℕ → Type 0
GivesNodes wide ds was now old new =
    (parts : List NodeParts) → AllStand old parts ds → MayGiveAll (parts_extents wide parts) was.heap
    → GivesTogether (parts_extents wide parts) was now old new

abbrev pub MayNotGive : Bool → List Doomed → Heap → Option (List ℕ) → Type 0
MayNotGive wide ds heap held =
    IfSome held (λ bytes. (parts : List NodeParts) → AllStand bytes parts ds → MayGiveAll (parts_extents wide parts) heap → ⊥)

-- where the parts of a node stand in the bytes, and may be given, blocks wait anew only of these, of gaps and of the heap's fields
abbrev pub NodeWaits : Bool → Doomed → Heap → Heap → List ℕ → List ℕ → List ℕ → Type 0
NodeWaits wide d was now before after bytes =
    (parts : NodeParts) → Stands bytes parts d → MayGiveAll (node_extents wide parts) was
    → WaitsInRoom (node_extents wide parts) was now before after

-- the same of nodes, one after another
abbrev pub NodesWait : Bool → List Doomed → Heap → Heap → List ℕ → List ℕ → List ℕ → Type 0
NodesWait wide ds was now before after bytes =
    (parts : List NodeParts) → AllStand bytes parts ds → MayGiveAll (parts_extents wide parts) was
    → WaitsInRoom (parts_extents wide parts) was now before after

-- the blocks that may wait: twelve for each header, table, chunk table and chunk
abbrev pub gift_cost : List Doomed → ℕ
gift_cost [] = 0
gift_cost (d ∷ ds) = 12 * (3 + d.chunks.count) + gift_cost ds
