-- The steps of an edit, from one state of a file in its midst to the next, and what each leaves.
use Rattle.std.specs.Prelude.{ℕ, ◌<◌, ◌≤◌, Bool, List, [], ◌∷◌, ◌++◌}
use Rattle.std.specs.List.{Contains}
use Rattle.adf_format.specs.declared.types.Extent.{Extent}
use Rattle.adf_format.specs.declared.types.ExtentKind.{ExtentKind}
use Rattle.adf_format.specs.Changes.{heap_fields}
use Rattle.adf_format.specs.Tree.{Tree}
use Rattle.adf_format.specs.Tiles.{Tiles, cover}
use Rattle.adf_format.specs.Placement.{Placement, Heap, extent}
use Rattle.adf_format.specs.LaysOut.{LaysOut, AreGapsInOrder, ThreadsFreeChunks}
use Rattle.adf_format.specs.HeapBytes.{MovesEnd, KeepsFillers}
use Rattle.tree_laws.specs.Holding.{Holds, Rebuilds, MovesHeap, ChangesIn}
use Rattle.tree_laws.specs.Leaving.{Leaves}

-- a layout is a file in which nothing is taken
abbrev pub LayoutsHold : Type 0
LayoutsHold = (image : List ℕ) (tree : Tree) (p : Placement) → LaysOut image tree p → Holds image tree p []

abbrev pub HeldLayouts : Type 0
HeldLayouts = (image : List ℕ) (tree : Tree) (p : Placement) → Holds image tree p [] → LaysOut image tree p

-- where some nodes change, and their new bytes stand, the file holds the tree with these
abbrev pub NodesChange : Type 0
NodesChange =
    (ranges : List Extent) (touched : List ℕ) (tree after : Tree) (p q : Placement)
    (taken kept : List Extent) (old new : List ℕ)
    → Holds old tree p taken → Rebuilds ranges touched tree after p q taken kept old new
    → Holds new after q kept

-- where the heap moves alone, the file holds its tree as before
abbrev pub HeapMoves : Type 0
HeapMoves =
    (ranges : List Extent) (tree : Tree) (p q : Placement) (taken kept : List Extent) (old new : List ℕ)
    → Holds old tree p taken → MovesHeap ranges tree p q kept old new → Holds new tree q kept

-- a range that the heap takes is taken
abbrev pub HeapTakes : Type 0
HeapTakes =
    (old new : List ℕ) (tree : Tree) (p : Placement) (heap : Heap) (taken : List Extent)
    → Holds old tree p taken → (kind : ExtentKind) (place n : ℕ)
    → ChangesIn (heap_fields ++ p.heap.gaps) old new
    → ((used : List Extent) → Tiles (used ++ p.heap.gaps) p.heap.end
    → Tiles (extent kind place n ∷ used ++ heap.gaps) heap.end)
    → AreGapsInOrder heap.gaps
    → MovesEnd p.heap.end heap.end old new
    → KeepsFillers p.heap.gaps heap.gaps old new → ThreadsFreeChunks new heap.gaps
    → Holds new tree (record p { heap = heap }) (extent kind place n ∷ taken)

-- and one that it is given is none's
abbrev pub HeapGives : Type 0
HeapGives =
    (old new : List ℕ) (tree : Tree) (p : Placement) (heap : Heap) (taken : List Extent)
    (kind other : ExtentKind) (place n : ℕ)
    → Holds old tree p (extent kind place n ∷ taken) → 266 ≤ place
    → ChangesIn (heap_fields ++ extent other place n ∷ p.heap.gaps) old new
    → ((used : List Extent) → Tiles (extent kind place n ∷ used ++ p.heap.gaps) p.heap.end
    → Tiles (used ++ heap.gaps) heap.end)
    → AreGapsInOrder heap.gaps
    → MovesEnd p.heap.end heap.end old new
    → KeepsFillers p.heap.gaps heap.gaps old new → ThreadsFreeChunks new heap.gaps
    → Holds new tree (record p { heap = heap }) taken

-- what is written into ranges that are taken changes nothing of what the file holds
abbrev pub TakenIsFree : Type 0
TakenIsFree =
    (ranges : List Extent) (old new : List ℕ) (tree : Tree) (p : Placement) (taken : List Extent)
    → Holds old tree p taken → ChangesIn ranges old new
    → ((b : ℕ) → 0 < cover ranges b → 0 < cover taken b) → Holds new tree p taken

-- ---- what they leave

-- steps one after another leave what each of them leaves
abbrev pub StepsLeave : Type 0
StepsLeave =
    (except : List Extent) (shaped : List ℕ) (wide : Bool) (p q r : Placement) (a b c : List ℕ)
    → Leaves except shaped wide p q a b → Leaves except shaped wide q r b c
    → Leaves except shaped wide p r a c

-- more may be excepted
abbrev pub MoreLeaves : Type 0
MoreLeaves =
    (few more : List Extent) (shaped also : List ℕ) (wide : Bool) (p q : Placement) (a b : List ℕ)
    → ((e : Extent) → Contains few e → Contains more e) → ((k : ℕ) → Contains shaped k → Contains also k)
    → Leaves few shaped wide p q a b → Leaves more also wide p q a b
