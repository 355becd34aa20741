-- The data of one node become others, or none: where the rule puts them, what their chunks then hold, and what stays.
use Rattle.std.specs.Prelude.{◌≡◌, ℕ, List, length, Option, Some, None, IfSome, Result, Ok}
use Rattle.adf_format.specs.declared.types.DataType.TheVariants.{Mt}
use Rattle.adf_format.specs.HeapBytes.{ChangesOnly, MovesEnd, KeepsFillers}
use Rattle.adf_format.specs.HeapRule.{LimitReached, data_extents}
use Rattle.adf_format.specs.LaysOut.{AreGapsInOrder}
use Rattle.adf_format.specs.Names.{data_size}
use Rattle.adf_format.specs.Placement.{Heap, NodeParts}
use Rattle.adf_model.specs.NodeData.{DataSpot, HoldsData, resized_spot, released_spot}
use Rattle.adf_data.specs.declared.place.DataPlace.{DataPlace}
use Rattle.adf_data.specs.Chunks.{Named}
use Rattle.adf_data.specs.Growing.{sized_ranges}
use Rattle.adf_data.specs.Runs.{Names}
use Rattle.adf_data.specs.Sizes.{MayGiveAll}
use Rattle.adf_records.specs.declared.NodeHeader.{NodeHeader}
use Rattle.field_access.specs.Fields.{WaitsWithin}
use Rattle.file_heap.specs.Heap.{FreeSpace, IsThreaded}
use Rattle.tree_asks.specs.Headers.{dims_of}

-- the place of the data that a header names
abbrev pub place_in : NodeHeader → DataPlace
place_in h = record { count = h.chunks; pointer = h.chunk }

-- chunks that a header names in some bytes hold data of its shape, or there are none; and they may be given
pub record OwnsData (h : NodeHeader) (parts : NodeParts) (bytes : Option (List ℕ)) (heap : Heap) (image : List ℕ) : Type 0 where
  pub named : Names (place_in h) parts
  pub holds : HoldsData image parts bytes
  pub long : IfSome bytes (λ (b : List ℕ). length b ≡ data_size h.kind (dims_of h))
  pub empty : h.kind ≡ Mt → bytes ≡ None
  pub apart : MayGiveAll (data_extents parts) heap

-- the same of bytes that are told
abbrev pub Owned : NodeHeader → NodeParts → Option (List ℕ) → Heap → Option (List ℕ) → Type 0
Owned h parts bytes heap None = ⊥
Owned h parts bytes heap (Some image) = OwnsData h parts bytes heap image

-- the header names no such chunks, or the bytes are not told
abbrev pub NoneOwned : NodeHeader → Heap → Option (List ℕ) → Type 0
NoneOwned h heap held = (parts : NodeParts) (bytes : Option (List ℕ)) → Owned h parts bytes heap held → ⊥

-- where the rule puts data that become these, or none
abbrev pub spot_after : ℕ → Option (List ℕ) → DataSpot → Result DataSpot LimitReached
spot_after limit None spot = Ok (released_spot spot)
spot_after limit (Some bytes) spot = resized_spot limit (length bytes) spot

-- the data of some parts became these, or none
pub record Becomes (limit : ℕ) (wanted : Option (List ℕ)) (parts : NodeParts) (now : DataPlace) (before : Heap)
    (later : FreeSpace) (old new : List ℕ) : Type 0 where
  pub after : NodeParts
  pub placed : spot_after limit wanted (parts, before) ≡ Ok (after, later.heap)
  pub named : Names now after
  pub holds : HoldsData new after wanted
  pub changes : ChangesOnly (sized_ranges parts before later.heap) old new
  pub order : AreGapsInOrder later.heap.gaps
  pub threads : IsThreaded later new
  pub end : MovesEnd before.end later.heap.end old new
  pub fillers : KeepsFillers before.gaps later.heap.gaps old new

-- whatever data the header names, they become what is made of them
abbrev pub BecomeBy : ℕ → (Option (List ℕ) → Option (List ℕ)) → NodeHeader → DataPlace → Heap → FreeSpace → List ℕ → List ℕ → Type 0
BecomeBy limit change h now before later old new =
    (parts : NodeParts) (bytes : Option (List ℕ)) → OwnsData h parts bytes before old
    → Becomes limit (change bytes) parts now before later old new

-- and blocks wait anew only of the chunks that the header names and of the heap's room
abbrev pub WaitBy : NodeHeader → Heap → Heap → Option (List ℕ) → List ℕ → List ℕ → Type 0
WaitBy h before later held old new = (parts : NodeParts) → Named (place_in h) parts held → WaitsWithin (sized_ranges parts before later) old new
