-- Ranges that are given to the gaps one after another, and what refuses to give them.
use Rattle.std.specs.Prelude.{◌⊎◌, ℕ, ◌+◌, ◌≤◌, List, ◌++◌, length, Option}
use Rattle.std.specs.List.{AllByRecursion}
use Rattle.adf_format.specs.declared.types.Extent.{Extent}
use Rattle.adf_format.specs.Tiles.{cover, end_of}
use Rattle.adf_format.specs.Placement.{Heap, ChunkPart, chunk_extents, chunk_table_extents}
use Rattle.cg_io.specs.Answers.{IsUntold}

-- chunks and their table
abbrev pub extents_in : Option ℕ → List ChunkPart → List Extent
extents_in table parts = chunk_table_extents table (length parts) ++ chunk_extents parts

-- each of them lies behind the free table and up to the end, and none has a byte of another or of a gap
pub record MayGiveAll (es : List Extent) (heap : Heap) : Type 0 where
  pub within : AllByRecursion (λ (e : Extent). (266 ≤ e.place) × (end_of e ≤ heap.end + 1)) es
  pub once : (b : ℕ) → cover (es ++ heap.gaps) b ≤ 1

-- the bytes are not told, or some of the ranges may not be given
abbrev pub Ungivable : Option (List ℕ) → List Extent → Heap → Type 0
Ungivable image es heap = IsUntold image ⊎ (MayGiveAll es heap → ⊥)
