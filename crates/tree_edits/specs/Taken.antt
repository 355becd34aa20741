-- Room that the heap gives, and what is written in it.
use Rattle.std.specs.Prelude.{◌≡◌, ℕ, ◌+◌, ◌<◌, ◌≤◌, List, [], ◌∷◌, ◌++◌, length, Ok, Err}
use Rattle.adf_format.specs.declared.types.ExtentKind.{ExtentKind}
use Rattle.adf_format.specs.Changes.{heap_fields}
use Rattle.adf_format.specs.Fields.{field}
use Rattle.adf_format.specs.HeapBytes.{ChangesOnly, MovesEnd, KeepsFillers}
use Rattle.adf_format.specs.HeapRule.{heap_take}
use Rattle.adf_format.specs.LaysOut.{AreGapsInOrder}
use Rattle.adf_format.specs.Placement.{Heap, extent}
use Rattle.adf_format.specs.Tiles.{cover}
use Rattle.adf_model.specs.declared.error.AdfError.{AdfError}
use Rattle.adf_model.specs.declared.error.AdfError.TheVariants as error
use Rattle.cg_io.specs.Answers.{IsRefusal, Then}
use Rattle.file_heap.specs.Heap.{FreeSpace, HeapState, IsThreaded, IsTakenWithin, TakesOfTiles, TakesCover}

-- no byte lies in two gaps, and none behind the end in one
pub record AreOnce (heap : Heap) : Type 0 where
  pub once : (b : ℕ) → cover heap.gaps b ≤ 1
  pub inside : (b : ℕ) → heap.end < b → cover heap.gaps b ≡ 0

-- the bytes thread the free chunks of a free space whose gaps lie apart, up to the end
pub record IsReady (free : FreeSpace) (bytes : List ℕ) : Type 0 where
  pub threads : IsThreaded free bytes
  pub once : AreOnce free.heap

-- n bytes are taken within a limit, and only the heap's fields and its gaps change
pub record Takes (limit n place : ℕ) (was now : FreeSpace) (old new : List ℕ) : Type 0 where
  pub taken : heap_take limit n was.heap ≡ Ok (place, now.heap)
  pub within : IsTakenWithin n now.heap place
  pub tiles : TakesOfTiles n was.heap now.heap place
  pub covers : TakesCover n was.heap now.heap place
  pub order : AreGapsInOrder now.heap.gaps
  pub changes : ChangesOnly (heap_fields ++ was.heap.gaps) old new
  pub end : MovesEnd was.heap.end now.heap.end old new
  pub fillers : KeepsFillers was.heap.gaps now.heap.gaps old new
  pub threads : IsThreaded now new

-- a text of n bytes stands at a place afterwards, and nothing else changes
pub record FillsWith (place n : ℕ) (text old new : List ℕ) : Type 0 where
  pub stands : field new place n ≡ text
  pub reaches : 0 < n → place + n ≤ length new
  pub only : ChangesOnly (extent ExtentKind.Node place n ∷ []) old new

-- n bytes are taken, and a text is written in them
abbrev pub TakesText : ℕ → ℕ → ℕ → List ℕ → FreeSpace → FreeSpace → List ℕ → List ℕ → Type 0
TakesText limit n place text was now = Then (Takes limit n place was now) (FillsWith place n text)

-- what was accepted, and the limit, stay
pub record KeepsHeap (was now : HeapState) : Type 0 where
  pub kept : now.kept ≡ was.kept
  pub limit : now.limit ≡ was.limit

-- the limit leaves no room for n bytes: what was asked for, and the last byte
abbrev pub LacksBytes : ℕ → ℕ → Heap → ℕ → ℕ → Type 0
LacksBytes limit n heap asked end = heap_take limit n heap ≡ Err (record { asked = asked; end = end })

-- the limit leaves no room; else want of memory, a failed read, or, under a condition, a rule that the bytes break
abbrev pub IsRoomless : (ℕ → ℕ → Type 0) → Type 0 → ℕ → ℕ → AdfError → Type 0
IsRoomless Lacks unread before now (error.Full asked end) = Lacks asked end
IsRoomless Lacks unread before now other = IsRefusal unread before now other
