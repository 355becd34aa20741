-- Which blocks an edit and a group of edits may write: those that have a byte that may be written.
use Rattle.std.specs.Prelude.{◌≡◌, ℕ, suc, ◌*◌, ◌/◌, ◌<◌, ◌≤◌, Bool, List, ◌++◌, take, slice_get, Some}
use Rattle.std.specs.List.{Contains}
use Rattle.adf_format.specs.declared.types.Extent.{Extent}
use Rattle.adf_format.specs.Changes.{heap_fields}
use Rattle.adf_format.specs.Tree.{Tree}
use Rattle.adf_format.specs.Tiles.{cover, end_of}
use Rattle.adf_format.specs.Placement.{Placement, Heap, live_extents}
use Rattle.adf_format.specs.LaysOut.{LaysOut}
use Rattle.adf_model.specs.declared.tree.Edit.{Edit}
use Rattle.adf_model.specs.Edits.{Work}
use Rattle.adf_model.specs.FileGroup.{done_by}
use Rattle.adf_model.specs.Untouched.{touched_extents, group_touched, MayWrite}
use Rattle.tree_laws.specs.MidEdit.{room}
use Rattle.tree_laws.specs.Spared.{AreSpared, IsEditWhole}
use Rattle.tree_laws.specs.WholeGroups.{IsGroupWhole}

-- a byte of the block may be written
abbrev pub CanReach : List Extent → Bool → Placement → ℕ → ℕ → Type 0
CanReach touched wide p end number = (b : ℕ) × (b / 4096 ≡ number) × MayWrite touched wide p end b

-- a byte lies in a live part that is touched
pub record LiesInTouched (touched : List Extent) (wide : Bool) (p : Placement) (b : ℕ) : Type 0 where
  pub part : Extent
  pub live : Contains (live_extents wide p) part
  pub open' : Contains touched part
  pub low : part.place ≤ b
  pub high : b < end_of part

-- each byte of the ranges does
abbrev pub LieInTouched : List Extent → List Extent → Bool → Placement → Type 0
LieInTouched ranges touched wide p = (b : ℕ) → 0 < cover ranges b → LiesInTouched touched wide p b

-- what an edit writes may be written: the heap's fields, gaps, what the file grew by, and ranges in parts that it touches
abbrev pub RoomMayBeWritten : Type 0
RoomMayBeWritten =
    (image : List ℕ) (tree : Tree) (p : Placement) (touched ranges : List Extent) (after : Heap)
    → LaysOut image tree p → p.heap.end ≤ after.end → LieInTouched ranges touched tree.wide p
    → (b : ℕ) → 0 < cover (heap_fields ++ room ranges p.heap after) b → MayWrite touched tree.wide p after.end b

-- a block that can be reached begins within the end
abbrev pub ReachedIsWithin : Type 0
ReachedIsWithin =
    (touched : List Extent) (wide : Bool) (p : Placement) (end number : ℕ)
    → CanReach touched wide p end number → number * 4096 ≤ end

-- The turn of a loop over the edits of a group: what the edits before this one can reach, and what this one can, the group with
-- this one can reach.
abbrev pub GroupReachesMore : Type 0
GroupReachesMore =
    (limit : ℕ) (writable : Bool) (edits : List Edit) (i : ℕ) (edit : Edit) (tree : Tree) (p : Placement)
    (work : Work) (after : Tree) (q r : Placement) (a b c : List ℕ)
    → slice_get edits i ≡ Some edit → IsGroupWhole limit writable (take i edits) tree p work q a b
    → IsEditWhole limit writable edit work.tree q after r b c
    → ((number : ℕ) → CanReach (group_touched limit tree p (done_by writable tree (take i edits))) tree.wide p q.heap.end number
    → CanReach (group_touched limit tree p (done_by writable tree (take (suc i) edits))) tree.wide p r.heap.end number)
    × ((number : ℕ) → CanReach (touched_extents work.tree q edit) work.tree.wide q r.heap.end number
    → CanReach (group_touched limit tree p (done_by writable tree (take (suc i) edits))) tree.wide p r.heap.end number)

-- what an edit may write by what it spares lies in parts that it touches
abbrev pub SparedLies : Type 0
SparedLies =
    (ranges touched : List Extent) (tree : Tree) (done : List (Edit × Tree)) (p q : Placement)
    → AreSpared ranges touched tree done p q → LieInTouched ranges touched tree.wide p
