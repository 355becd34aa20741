-- What an edit that is placed does to the heap: it takes ranges, and then gives others; so all goes on tiling the file.
use Rattle.std.specs.Prelude.{◌≡◌, ℕ, ◌+◌, ◌<◌, ◌≤◌, Bool, List, [], ◌∷◌, Ok}
use Rattle.std.specs.List.{AllByRecursion}
use Rattle.adf_format.specs.declared.types.Extent.{Extent}
use Rattle.adf_format.specs.Tree.{Tree}
use Rattle.adf_format.specs.Tiles.{Tiles, cover}
use Rattle.adf_format.specs.Placement.{Placement, Heap, live_extents, all_extents}
use Rattle.adf_format.specs.LaysOut.{LaysOut, AreGapsInOrder}
use Rattle.adf_format.specs.HeapRule.{heap_take, give_all, pairs, place_edit}
use Rattle.adf_model.specs.declared.tree.Edit.{Edit}
use Rattle.adf_model.specs.Edits.{Work, IsReached, apply}
use Rattle.adf_model.specs.Placing.{placed_as}
use Rattle.tree_laws.specs.WholeGroups.{IsGroupWhole}
use Rattle.tree_laws.specs.Spared.{IsEditWhole}

-- the heap gives room for these ranges, one after another
abbrev pub TakesAll : ℕ → List Extent → Heap → Heap → Type 0
TakesAll limit [] before after = after ≡ before
TakesAll limit (e ∷ es) before after =
    (middle : Heap) × (heap_take limit e.length before ≡ Ok (e.place, middle)) × TakesAll limit es middle after

-- Some ranges are taken, and then some are given: what nodes have afterwards is what they had, with the former and without the latter.
pub record TakesThenGives (limit : ℕ) (wide : Bool) (p q : Placement) : Type 0 where
  pub taken : List Extent
  pub given : List Extent
  pub between : Heap
  pub takes : TakesAll limit taken p.heap between
  pub gives : q.heap ≡ give_all given between
  pub some : AllByRecursion (λ (e : Extent). 0 < e.length) taken × AllByRecursion (λ (e : Extent). 0 < e.length) given
  pub parts : (b : ℕ) → cover (live_extents wide q) b + cover given b ≡ cover (live_extents wide p) b + cover taken b

-- all takes of an edit come before its gives
abbrev pub EditTakesThenGives : Type 0
EditTakesThenGives =
    (limit : ℕ) (image : List ℕ) (tree after : Tree) (p q : Placement) (edit : Edit) → LaysOut image tree p
    → IsReached tree edit → apply tree edit ≡ Ok after → place_edit limit tree after (placed_as edit) p ≡ Ok q
    → TakesThenGives limit tree.wide p q

-- The parts and the gaps tile the file, the gaps stand in order, no pair of them that touch is added, and the end has not fallen.
pub record StaysPlaced (wide : Bool) (p q : Placement) : Type 0 where
  pub tiles : Tiles (all_extents wide q) q.heap.end
  pub order : AreGapsInOrder q.heap.gaps
  pub pairs : pairs q.heap.gaps ≤ pairs p.heap.gaps
  pub end : p.heap.end ≤ q.heap.end

-- so it is after an edit, with any bytes
abbrev pub EditStaysPlaced : Type 0
EditStaysPlaced =
    (limit : ℕ) (image : List ℕ) (tree after : Tree) (p q : Placement) (edit : Edit) → LaysOut image tree p
    → IsReached tree edit → apply tree edit ≡ Ok after → place_edit limit tree after (placed_as edit) p ≡ Ok q
    → StaysPlaced tree.wide p q

-- and after each edit of a group that is done
abbrev pub GroupStaysPlaced : Type 0
GroupStaysPlaced =
    (limit : ℕ) (writable : Bool) (edits : List Edit) (edit : Edit) (tree : Tree) (p : Placement) (work : Work)
    (after : Tree) (q r : Placement) (a b c : List ℕ)
    → IsGroupWhole limit writable edits tree p work q a b → StaysPlaced tree.wide p q
    → IsEditWhole limit writable edit work.tree q after r b c → StaysPlaced tree.wide p r
