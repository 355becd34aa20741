-- The bytes behind the end of a file, which no step of an edit changes.
use Rattle.std.specs.Prelude.{◌≡◌, ℕ, ◌+◌, ◌<◌, ◌≤◌, List, ◌∷◌, ◌++◌, length, slice_get, Ok}
use Rattle.adf_format.specs.declared.types.Extent.{Extent}
use Rattle.adf_format.specs.declared.types.ExtentKind.{ExtentKind}
use Rattle.adf_format.specs.Changes.{heap_fields}
use Rattle.adf_format.specs.Tree.{Tree}
use Rattle.adf_format.specs.Tiles.{cover}
use Rattle.adf_format.specs.Placement.{Placement, extent, live_extents}
use Rattle.adf_format.specs.HeapRule.{place_edit}
use Rattle.adf_model.specs.declared.tree.Edit.{Edit}
use Rattle.adf_model.specs.Placing.{placed_as}
use Rattle.tree_laws.specs.Holding.{Holds, ChangesIn}
use Rattle.tree_laws.specs.Groups.{tree_left}

-- no byte is lost, and those behind an end are as before
pub record KeepsTail (end : ℕ) (old new : List ℕ) : Type 0 where
  pub longer : length old ≤ length new
  pub tail : (b : ℕ) → end < b → b < length old → slice_get new b ≡ slice_get old b

-- where nothing is written it stays, and it stays over steps one after another, of which the end does not fall
abbrev pub TailStays : Type 0
TailStays = (end : ℕ) (image : List ℕ) → KeepsTail end image image

abbrev pub TailsGoOn : Type 0
TailsGoOn =
    (end farther : ℕ) (a b c : List ℕ) → end ≤ farther → KeepsTail end a b → KeepsTail farther b c
    → KeepsTail farther a c

-- what is written into the parts of nodes and into ranges that were taken leaves it
abbrev pub WrittenTail : Type 0
WrittenTail =
    (ranges : List Extent) (old new : List ℕ) (tree : Tree) (p : Placement) (taken : List Extent)
    → Holds old tree p taken → ChangesIn ranges old new
    → ((b : ℕ) → 0 < cover ranges b → 0 < cover taken b + cover (live_extents tree.wide p) b)
    → KeepsTail p.heap.end old new

-- and so do a take and a gift of the heap
abbrev pub TakenTail : Type 0
TakenTail =
    (old new : List ℕ) (tree : Tree) (p : Placement) (taken : List Extent) → Holds old tree p taken
    → ChangesIn (heap_fields ++ p.heap.gaps) old new → KeepsTail p.heap.end old new

abbrev pub GivenTail : Type 0
GivenTail =
    (old new : List ℕ) (tree : Tree) (p : Placement) (taken : List Extent) (kind other : ExtentKind)
    (place n : ℕ) → Holds old tree p (extent kind place n ∷ taken)
    → ChangesIn (heap_fields ++ extent other place n ∷ p.heap.gaps) old new → KeepsTail p.heap.end old new

-- the end of a file does not fall over an edit
abbrev pub EndsRise : Type 0
EndsRise =
    (limit : ℕ) (tree after : Tree) (p q : Placement) (edit : Edit)
    → place_edit limit tree after (placed_as edit) p ≡ Ok q → p.heap.end ≤ q.heap.end

-- what a group leaves behind its end, and then one more edit behind its own, the group with that edit leaves
abbrev pub OneMoreTail : Type 0
OneMoreTail =
    (limit : ℕ) (tree : Tree) (q r : Placement) (done : List (Edit × Tree)) (e : Edit × Tree)
    (a b c : List ℕ) → place_edit limit (tree_left tree done) e.1 (placed_as e.0) q ≡ Ok r
    → KeepsTail q.heap.end a b → KeepsTail r.heap.end b c → KeepsTail r.heap.end a c
