-- What an edit leaves follows from the ranges that it writes: each byte of them lies in a part that it may touch, and in none of the bytes that stay in such a part.
use Rattle.std.specs.Prelude.{◌≡◌, ◌⊎◌, ℕ, ◌+◌, ◌-◌, ◌*◌, ◌<◌, ◌≤◌, Bool, List, [], ◌∷◌, ◌++◌, length, Some, Ok}
use Rattle.std.specs.List.{Contains}
use Rattle.adf_format.specs.declared.types.Extent.{Extent}
use Rattle.adf_format.specs.Changes.{heap_fields}
use Rattle.adf_format.specs.HeapBytes.{ChangesOnly}
use Rattle.adf_format.specs.Tree.{Tree}
use Rattle.adf_format.specs.Tiles.{cover, end_of}
use Rattle.adf_format.specs.Parts.{dimension_digits}
use Rattle.adf_format.specs.Placement.{Placement, NodeParts, TablePart, parts_of, node_extents, live_extents}
use Rattle.adf_format.specs.LaysOut.{LaysOut, entry_count}
use Rattle.adf_format.specs.HeapRule.{place_edit}
use Rattle.adf_model.specs.declared.tree.Edit.{Edit}
use Rattle.adf_model.specs.Edits.{file_step}
use Rattle.adf_model.specs.Placing.{placed_as}
use Rattle.adf_model.specs.Untouched.{touched_extents, group_touched, group_shaped, most_dims, most_children, KeepsRest, KeepsTail}
use Rattle.tree_laws.specs.MidEdit.{IsMidEdit, room}

abbrev pub IsOutside : ℕ → ℕ → ℕ → Type 0
IsOutside place n b = (b < place) ⊎ (place + n ≤ b)

-- a byte is none of the dimensions of a header that stay, nor of the unused entries of a table that stays where it is
pub record SparesRest (tree : Tree) (done : List (Edit × Tree)) (serial : ℕ) (from to : NodeParts) (b : ℕ) : Type 0 where
  pub dims : (Contains (group_shaped done) serial → ⊥) → IsOutside (from.header + 130) (12 * dimension_digits tree.wide) b
  pub past : IsOutside (from.header + 130 + most_dims tree done serial * dimension_digits tree.wide)
      (12 * dimension_digits tree.wide - most_dims tree done serial * dimension_digits tree.wide) b
  pub unused : (t : TablePart) → from.table ≡ Some t → to.table ≡ Some t
      → IsOutside (t.place + (16 + 44 * most_children tree done serial)) (16 + 44 * t.entries - (16 + 44 * most_children tree done serial)) b

-- a byte lies in a part of a node that is touched, and in none of the bytes that stay in it where the node is live afterwards
pub record IsSpared (touched : List Extent) (tree : Tree) (done : List (Edit × Tree)) (p q : Placement) (b : ℕ) : Type 0 where
  pub serial : ℕ
  pub from : NodeParts
  pub part : Extent
  pub stands : parts_of p serial ≡ Some from
  pub own : Contains (node_extents tree.wide from) part
  pub open' : Contains touched part
  pub low : part.place ≤ b
  pub high : b < end_of part
  pub rest : (to : NodeParts) → parts_of q serial ≡ Some to → SparesRest tree done serial from to b

abbrev pub AreSpared : List Extent → List Extent → Tree → List (Edit × Tree) → Placement → Placement → Type 0
AreSpared ranges touched tree done p q = (b : ℕ) → 0 < cover ranges b → IsSpared touched tree done p q b

-- the parts that are not touched stay live, headers stay where they are, who is live and was drawn before was live, and a table that moves is longer
pub record KeepsPlaces (touched : List Extent) (wide : Bool) (p q : Placement) : Type 0 where
  pub parts : (e : Extent) → Contains (live_extents wide p) e → (Contains touched e → ⊥) → Contains (live_extents wide q) e
  pub headers : (serial : ℕ) (from to : NodeParts) → parts_of p serial ≡ Some from → parts_of q serial ≡ Some to → to.header ≡ from.header
  pub drawn : length p.parts ≤ length q.parts
  pub before : (serial : ℕ) (to : NodeParts) → serial < length p.parts → parts_of q serial ≡ Some to
      → (from : NodeParts) × (parts_of p serial ≡ Some from)
  pub tables : (serial : ℕ) (from to : NodeParts) → parts_of p serial ≡ Some from → parts_of q serial ≡ Some to
      → (to.table ≡ from.table) ⊎ (entry_count from.table < entry_count to.table)

-- so what is written in such ranges, in gaps and behind the end leaves all else
abbrev pub RestIsLeft : Type 0
RestIsLeft =
    (limit : ℕ) (tree : Tree) (p q : Placement) (done : List (Edit × Tree)) (ranges : List Extent) (old new : List ℕ)
    → LaysOut old tree p → p.heap.end ≤ q.heap.end
    → ChangesOnly (heap_fields ++ room ranges p.heap q.heap) old new
    → AreSpared ranges (group_touched limit tree p done) tree done p q
    → KeepsPlaces (group_touched limit tree p done) tree.wide p q
    → KeepsRest limit tree p done q old new × KeepsTail q.heap.end old new

-- an edit of one file is done: its tree and its placement, what the file then holds, and what is left of it
pub record IsEditWhole (limit : ℕ) (writable : Bool) (edit : Edit) (tree : Tree) (p : Placement) (after : Tree)
    (q : Placement) (old new : List ℕ) : Type 0 where
  pub made : file_step writable tree edit ≡ Ok after
  pub placed : place_edit limit tree after (placed_as edit) p ≡ Ok q
  pub laid_out : LaysOut new after q
  pub rest : KeepsRest limit tree p ((edit, after) ∷ []) q old new
  pub tail : KeepsTail q.heap.end old new
  pub places : KeepsPlaces (touched_extents tree p edit) tree.wide p q

-- an edit on its way at whose end nothing is taken is done
abbrev pub MidEnds : Type 0
MidEnds =
    (limit : ℕ) (writable : Bool) (edit : Edit) (tree after : Tree) (p q : Placement) (ranges : List Extent)
    (old new : List ℕ)
    → LaysOut old tree p → file_step writable tree edit ≡ Ok after
    → place_edit limit tree after (placed_as edit) p ≡ Ok q
    → IsMidEdit ranges p old after q [] new
    → AreSpared ranges (touched_extents tree p edit) tree ((edit, after) ∷ []) p q
    → KeepsPlaces (touched_extents tree p edit) tree.wide p q
    → IsEditWhole limit writable edit tree p after q old new
