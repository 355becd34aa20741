-- The free space of a file in memory, and what its calls answer and change.
use Rattle.std.specs.Prelude.{◌≡◌, ℕ, ◌+◌, ◌-◌, ◌*◌, ◌<◌, ◌≤◌, ◌^◌, List, ◌∷◌, ◌++◌, Option, IfSome, Result, Ok, Err, OnOk, OnErr, ⊤}
use Rattle.std.specs.List.{AllByRecursion}
use Rattle.cg_io.specs.Blocks.{Both, ReadsFew}
use Rattle.cg_io.specs.Device.{DeviceState}
use Rattle.cg_io.specs.Answers.{AnswersWrite, IsRefusal}
use Rattle.adf_format.specs.declared.types.Extent.{Extent}
use Rattle.adf_format.specs.declared.types.ExtentKind.{ExtentKind}
use Rattle.adf_format.specs.Tiles.{Tiles, cover, end_of, MeetsNone}
use Rattle.adf_format.specs.Placement.{Heap, extent}
use Rattle.adf_format.specs.LaysOut.{AreGapsInOrder}
use Rattle.adf_format.specs.Changes.{heap_fields}
use Rattle.adf_format.specs.HeapRule.{heap_take, pairs}
use Rattle.field_access.specs.Fields.{WaitsWhereTold}
use Rattle.gap_tree.specs.declared.slot.Slot.{Slot}
use Rattle.gap_tree.specs.Slots.{gaps_of}
use Rattle.file_heap.specs.Links.{AreApart, range}
use Rattle.file_heap.specs.Slots.{ThreadsSlots, AreFirst}
pub use Rattle.adf_format.specs.HeapBytes.{ChangesOnly, KeepsFillers, MovesEnd}
use Rattle.adf_model.specs.declared.error.AdfError.{AdfError}
use Rattle.adf_model.specs.declared.error.AdfError.TheVariants as error

-- ---- the free space

-- free space, and its gaps with the spots of the free chunks in the lists
pub record FreeSpace : Type 0 where
  pub heap : Heap
  pub slots : List Slot

-- the free space in work, as it was last accepted, and the address limit in blocks
pub record HeapState : Type 0 where
  pub work : FreeSpace
  pub kept : FreeSpace
  pub limit : ℕ

-- the free space of these slots and this last byte
abbrev pub space_of : List Slot → ℕ → FreeSpace
space_of slots end = record { heap = record { gaps = gaps_of slots; end = end }; slots = slots }

-- The bytes thread the free chunks in lists as the free space remembers them. Crates above cite it by its name alone.
unfoldable pub IsThreaded : FreeSpace → List ℕ → Type 0
IsThreaded space bytes = ThreadsSlots space.heap.gaps space.slots bytes

-- the gaps stand by place, behind the free table and up to the end
pub record IsHeap (heap : Heap) : Type 0 where
  pub order : AreGapsInOrder heap.gaps
  pub within : AllByRecursion (λ (g : Extent). (266 ≤ g.place) × (end_of g ≤ heap.end + 1)) heap.gaps
  pub low : 265 ≤ heap.end
  pub high : heap.end < 2 ^ 44

-- both are heaps, and the limit is one of the format
pub record AreHeaps (now kept : Heap) (limit : ℕ) : Type 0 where
  pub now_is : IsHeap now
  pub kept_is : IsHeap kept
  pub some : 1 ≤ limit
  pub most : limit ≤ 2 ^ 32

-- ---- the answers

-- n bytes are taken by the heap rule, or the limit is reached exactly where it says so; a refusal leaves the heap
abbrev pub TakesBy : ℕ → ℕ → Heap → Result ℕ AdfError → Heap → Type 0
TakesBy limit n old (Ok place) new = heap_take limit n old ≡ Ok (place, new)
TakesBy limit n old (Err (error.Full asked end)) new = (heap_take limit n old ≡ Err (record { asked = asked; end = end })) × (new ≡ old)
TakesBy limit n old (Err other) new = ((place : ℕ) × (after : Heap) × (heap_take limit n old ≡ Ok (place, after))) × (new ≡ old)

-- the end grows by n bytes, or the limit is reached; a refusal leaves the end
abbrev pub Grows : ℕ → ℕ → ℕ → Result ℕ AdfError → ℕ → Type 0
Grows limit n old (Ok place) new = (old + 1 + n ≤ limit * 4096) × (place ≡ old + 1) × (new ≡ old + n)
Grows limit n old (Err (error.Full asked end)) new = (limit * 4096 < old + 1 + n) × (asked ≡ n) × (end ≡ old) × (new ≡ old)
Grows limit n old (Err other) new = (old + 1 + n ≤ limit * 4096) × (new ≡ old)

-- a range may be given: it lies behind the free table and up to the end, and meets no gap
pub record MayGive (place n : ℕ) (heap : Heap) : Type 0 where
  pub low : 266 ≤ place
  pub high : place + n ≤ heap.end + 1
  pub apart : MeetsNone place n heap.gaps

-- the same, or that the limit is reached
abbrev pub IsTakeRefusal : Type 0 → ℕ → ℕ → AdfError → Type 0
IsTakeRefusal unread before now (error.Full asked end) = ⊤
IsTakeRefusal unread before now other = IsRefusal unread before now other

-- ---- the bytes

-- the lists thread the free chunks of slots as before
abbrev pub KeepsThreads : List ℕ → List ℕ → Type 0
KeepsThreads old new = (gaps : List Extent) (slots : List Slot) → AreApart gaps → ThreadsSlots gaps slots old → ThreadsSlots gaps slots new

-- What calls of the heap change that take a range from the gaps or give one to them: a refusal leaves the free space, and its bytes
-- change only in the end pointer, in the free table, in the gaps and in what is given. Where the bytes are told, only blocks of these wait anew.
pub record ChangesHeap {S T : Type 0} (is_sound : S → Type 0) (image : S → Option (List ℕ)) (state : S → DeviceState) (waiting : S → List ℕ) (given : List Extent) (most : ℕ)
    (Cause : ℕ → ℕ → AdfError → Type 0) (before after : HeapState) (old new : S) (result : Result T AdfError) : Type 0 where
  pub kept : after.kept ≡ before.kept
  pub limit : after.limit ≡ before.limit
  pub refused : OnErr result (after.work ≡ before.work)
  pub heap : IsHeap after.work.heap
  pub pairs : pairs after.work.heap.gaps ≤ pairs before.work.heap.gaps
  pub threads : OnOk result (IfSome (image new) (IsThreaded after.work))
  pub first : OnOk result (IfSome (image new) (AreFirst before.work.heap.gaps after.work.heap.gaps))
  pub bytes : Both (ChangesOnly (heap_fields ++ given ++ before.work.heap.gaps)) (image old) (image new)
  pub only : WaitsWhereTold (image old) (heap_fields ++ given ++ before.work.heap.gaps) (waiting old) (waiting new)
  pub end : OnOk result (Both (MovesEnd before.work.heap.end after.work.heap.end) (image old) (image new))
  pub fillers : OnOk result (Both (KeepsFillers before.work.heap.gaps after.work.heap.gaps) (image old) (image new))
  pub calls : AnswersWrite is_sound state waiting most (ReadsFew 64) Cause old new result

-- ---- tiles

-- a range that is taken lies behind the free table and up to the end
abbrev pub IsTakenWithin : ℕ → Heap → ℕ → Type 0
IsTakenWithin n new place = (266 ≤ place) × (place + n ≤ new.end + 1)

-- the range and the gaps have the bytes that the gaps had, and those by which the end grew
abbrev pub TakesCover : ℕ → Heap → Heap → ℕ → Type 0
TakesCover n old new place = (b : ℕ) → cover (range place n ∷ new.gaps) b ≡ cover (range (old.end + 1) (new.end - old.end) ∷ old.gaps) b

-- the gaps have the bytes of the range and those that they had
abbrev pub GivesCover : ℕ → ℕ → Heap → Heap → Type 0
GivesCover place n old new = (b : ℕ) → cover new.gaps b ≡ cover (range place n ∷ old.gaps) b

-- a range that is taken was in none of the extents that tile the file with the gaps, and tiles it with them afterwards
abbrev pub TakesOfTiles : ℕ → Heap → Heap → ℕ → Type 0
TakesOfTiles n old new place = (kind : ExtentKind) (used : List Extent) → Tiles (used ++ old.gaps) old.end → Tiles (extent kind place n ∷ used ++ new.gaps) new.end

-- a range that is given is covered by the gaps afterwards
abbrev pub GivesToTiles : ℕ → ℕ → Heap → Heap → Type 0
GivesToTiles place n old new = (kind : ExtentKind) (used : List Extent) → Tiles (extent kind place n ∷ used ++ old.gaps) old.end → Tiles (used ++ new.gaps) new.end
