-- Gifts of taken ranges one after another, and what a deletion leaves.
use Rattle.std.specs.Prelude.{◌≡◌, ℕ, ◌<◌, List, [], ◌∷◌, ◌++◌, length, slice_get, Some, Ok}
use Rattle.std.specs.List.{AllByRecursion}
use Rattle.adf_format.specs.declared.types.Extent.{Extent}
use Rattle.adf_format.specs.Tree.{Tree, children_at, parent_of}
use Rattle.adf_format.specs.Tiles.{cover}
use Rattle.adf_format.specs.Placement.{Placement, NodeParts, TablePart, Heap, parts_of}
use Rattle.adf_format.specs.LaysOut.{ThreadsFreeChunks}
use Rattle.adf_format.specs.Changes.{heap_fields}
use Rattle.adf_format.specs.HeapRule.{Placed, heap_give, after_gives, place_edit}
use Rattle.adf_model.specs.declared.tree.Edit.{Edit}
use Rattle.adf_model.specs.declared.tree.NodeId.{NodeId}
use Rattle.adf_model.specs.Edits.{apply}
use Rattle.adf_format.specs.HeapBytes.{MovesEnd, KeepsFillers}
use Rattle.tree_laws.specs.Holding.{Holds, ChangesIn}
use Rattle.tree_laws.specs.Tables.{ClosesUp}
use Rattle.tree_laws.specs.Plans.{plan_deleted}

-- What a gift of a range does to the bytes: it writes into the heap's fields, the range and the gaps, keeps the
-- end, and leaves fillers of `z` and threaded chunks.
pub record Gives (e : Extent) (heap : Heap) (old new : List ℕ) : Type 0 where
  pub changes : ChangesIn (heap_fields ++ e ∷ heap.gaps) old new
  pub end : MovesEnd heap.end heap.end old new
  pub fillers : KeepsFillers heap.gaps (heap_give e.place e.length heap).gaps old new
  pub threads : ThreadsFreeChunks new (heap_give e.place e.length heap).gaps

-- ranges are given one after another, in their order
abbrev pub GivesEach : List Extent → Heap → List ℕ → List ℕ → Type 0
GivesEach [] heap old new = new ≡ old
GivesEach (e ∷ es) heap old new = (middle : List ℕ) × Gives e heap old middle
    × GivesEach es (heap_give e.place e.length heap) middle new

-- ranges that were taken, each with a byte, are none's once all are given
abbrev pub GiftsEnd : Type 0
GiftsEnd = (given : List Extent) (old new : List ℕ) (tree : Tree) (p : Placement) (taken : List Extent)
    → AllByRecursion (λ (e : Extent). 0 < e.length) given → Holds old tree p (given ++ taken)
    → GivesEach given p.heap old new → Holds new tree (after_gives p given) taken

-- the order of what is taken means nothing
abbrev pub TakenInAnyOrder : Type 0
TakenInAnyOrder =
    (image : List ℕ) (tree : Tree) (p : Placement) (taken same : List Extent)
    → ((b : ℕ) → cover same b ≡ cover taken b) → Holds image tree p taken → Holds image tree p same

-- ---- a deletion

-- where the entries behind a node's own moved up, the file holds the tree without it and all below it, and their
-- parts are taken, in the order in which they are given
abbrev pub DeletedAreTaken : Type 0
DeletedAreTaken =
    (old middle new : List ℕ) (tree after : Tree) (p : Placement) (taken : List Extent) (node : NodeId)
    (parent i : ℕ) (at : NodeParts) (t : TablePart)
    → Holds old tree p taken → apply tree (Edit.Delete node) ≡ Ok after
    → parent_of tree node.serial ≡ Some parent → slice_get (children_at tree parent) i ≡ Some node.serial
    → parts_of p parent ≡ Some at → at.table ≡ Some t
    → ClosesUp at.header t.place (length (children_at tree parent)) i old middle new
    → AllByRecursion (λ (e : Extent). 0 < e.length) (plan_deleted after p).given
    × Holds new after (plan_deleted after p).placed ((plan_deleted after p).given ++ taken)

-- and once they are given, it holds that tree where the rule of the heap puts it
abbrev pub DeletionEnds : Type 0
DeletionEnds =
    (a b c d : List ℕ) (tree after : Tree) (p : Placement) (taken : List Extent) (node : NodeId)
    (parent i : ℕ) (at : NodeParts) (t : TablePart)
    → Holds a tree p taken → apply tree (Edit.Delete node) ≡ Ok after
    → parent_of tree node.serial ≡ Some parent → slice_get (children_at tree parent) i ≡ Some node.serial
    → parts_of p parent ≡ Some at → at.table ≡ Some t
    → ClosesUp at.header t.place (length (children_at tree parent)) i a b c
    → GivesEach (plan_deleted after p).given p.heap c d
    → ((limit : ℕ) → place_edit limit tree after Placed.Delete p ≡ Ok (after_gives (plan_deleted after p).placed (plan_deleted after p).given))
    × Holds d after (after_gives (plan_deleted after p).placed (plan_deleted after p).given) taken
