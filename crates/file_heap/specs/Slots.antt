-- Gaps in memory with the spots of their free chunks, and the bytes that thread these.
use Rattle.std.specs.Prelude.{◌≡◌, ◌⊎◌, ℕ, zero, suc, ◌+◌, ◌<◌, true, List, [], ◌∷◌, ◌++◌, length, get_or, filter, slice_get, slice_set, remove, Option, Some, None, IfSome, ⊤}
use Rattle.std.specs.declared.alloc.Global.{Global}
use Rattle.std.specs.declared.rc.Rc.{Rc}
use Rattle.cg_io.specs.Blocks.{Both}
use Rattle.adf_format.specs.declared.types.Extent.{Extent}
use Rattle.adf_format.specs.Tiles.{is_free}
use Rattle.adf_format.specs.LaysOut.{ThreadsFreeChunks, count_of, last_place}
use Rattle.adf_format.specs.Parts.{HasPointer}
use Rattle.adf_format.specs.RecordFields.{list_first}
use Rattle.adf_format.specs.RuleNumbers.{IsRule}
use Rattle.adf_format.specs.declared.fields.TheConstants.{FREE_TABLE_PLACE}
use Rattle.gap_tree.specs.declared.slot.Slot.{Slot}
use Rattle.gap_tree.specs.declared.slot.Spot.{Spot}
use Rattle.gap_tree.specs.declared.tree.Tree.{Tree}
use Rattle.gap_tree.specs.Slots.{gaps_of}
use Rattle.adf_format.specs.HeapBytes.{KeepsFillers}
use Rattle.adf_model.specs.declared.error.AdfError.{AdfError}
use Rattle.adf_model.specs.declared.error.AdfError.TheVariants as error
use Rattle.file_heap.specs.Gaps.{gap_at, NoneBegins}
use Rattle.file_heap.specs.Links.{IsBehind, list_of, lists_of, number_of, class_of}

-- the slots in work, or those that were accepted where no call changed them since
abbrev pub slots_in : Option (Rc Tree Global) → List Slot → List Slot
slots_in None kept = kept
slots_in (Some work) kept = work.value

abbrev pub HasSlot : List Slot → Slot → Type 0
HasSlot slots s = (k : ℕ) × (slice_get slots k ≡ Some s)

-- a chunk at a place stands at its spot in lists
abbrev pub StandsOn : List (List Extent) → ℕ → Option Spot → Type 0
StandsOn lists place None = ⊥
StandsOn lists place (Some spot) = IsBehind (get_or lists (number_of spot.list) []) place spot.front

-- a free chunk stands at its spot in the lists that the bytes thread
abbrev pub StandsIn : {bytes : List ℕ} {gaps : List Extent} → ThreadsFreeChunks bytes gaps → Slot → Type 0
StandsIn t s = is_free s.gap ≡ true → StandsOn (lists_of t) s.gap.place s.spot

-- The bytes thread the free chunks of the gaps, each at its spot.
pub record ThreadsSlots (gaps : List Extent) (slots : List Slot) (bytes : List ℕ) : Type 0 where
  pub threads : ThreadsFreeChunks bytes gaps
  pub spots : (s : Slot) → HasSlot slots s → StandsIn threads s

-- each free chunk that was not among the gaps before is the first of the list of its class
abbrev pub AreFirst : List Extent → List Extent → List ℕ → Type 0
AreFirst old new bytes =
    (place length : ℕ) → count_of place length (filter is_free old) < count_of place length (filter is_free new)
    → HasPointer bytes (list_first FREE_TABLE_PLACE (number_of (class_of length))).offset (Some place)

-- gaps became others, their free chunks stand at their spots, and their fillers hold `z` where those before did
pub record BecomeSlots (becomes : List Extent) (old new : List Slot) (before after : Option (List ℕ)) : Type 0 where
  pub are : gaps_of new ≡ becomes
  pub threads : IfSome after (ThreadsSlots (gaps_of new) new)
  pub first : IfSome after (AreFirst (gaps_of old) becomes)
  pub fillers : Both (KeepsFillers (gaps_of old) becomes) before after

-- the gap at a place stands at another spot, where there is a place
abbrev pub MovesTo : Option ℕ → Spot → List Slot → List Slot → Type 0
MovesTo None spot old new = new ≡ old
MovesTo (Some place) spot old new = (i : ℕ) × (s : Slot) × (slice_get old i ≡ Some s) × (s.gap.place ≡ place) × (new ≡ slice_set old i (record { gap = s.gap; spot = Some spot }))

-- a gap begins at a place, where there is one
abbrev pub BeginsSome : List Extent → Option ℕ → Type 0
BeginsSome gaps None = ⊤
BeginsSome gaps (Some place) = NoneBegins place gaps (length gaps) → ⊥

-- the gap at an index has this spot
abbrev pub HasSpot : List Slot → ℕ → Spot → Type 0
HasSpot slots i spot = slice_get slots i ≡ Some (record { gap = gap_at (gaps_of slots) i; spot = Some spot })

-- once the gap at an index is out, and the chunk behind it in its list has its spot, the bytes thread the free chunks that are left
abbrev pub LeavesList : List Slot → ℕ → Spot → Option ℕ → List ℕ → Type 0
LeavesList slots i spot next bytes = (moved : List Slot) → MovesTo next spot slots moved → ThreadsSlots (gaps_of (remove moved i)) (remove moved i) bytes

-- the free chunks among the one slots are among the others, with their spots
abbrev pub HasNoMore : List Slot → List Slot → Type 0
HasNoMore old new = (s : Slot) → HasSlot new s → is_free s.gap ≡ true → HasSlot old s

-- slots and one more
abbrev pub HasOneMore : Slot → List Slot → List Slot → Type 0
HasOneMore x old new = (s : Slot) → HasSlot new s → (s ≡ x) ⊎ HasSlot old s

-- want of memory, or what was sought is not there
abbrev pub IsMissing : Type 0 → AdfError → Type 0
IsMissing There error.Memory = ⊤
IsMissing There (error.Layout rule place) = IsRule rule × (There → ⊥)
IsMissing There other = ⊥

-- ---- the lists as they are read

abbrev pub HasPlace : ℕ → List Extent → Type 0
HasPlace place fs = (front : Option ℕ) × IsBehind fs place front

-- a chunk of the first k lists stands at the place, or one of those that were passed in the next list
abbrev pub WasRead : {bytes : List ℕ} {gaps : List Extent} → ThreadsFreeChunks bytes gaps → ℕ → List Extent → ℕ → Type 0
WasRead t k passed place = ((j : ℕ) × (j < k) × HasPlace place (list_of t j)) ⊎ HasPlace place passed

-- the chunks that were read stand at their spots
abbrev pub AreRead : {bytes : List ℕ} {gaps : List Extent} → ThreadsFreeChunks bytes gaps → ℕ → List Extent → List Slot → Type 0
AreRead t k passed slots = (s : Slot) → HasSlot slots s → WasRead t k passed s.gap.place → StandsIn t s

-- how many chunks the first k lists have
abbrev pub chunks_below : List (List Extent) → ℕ → ℕ
chunks_below lists zero = 0
chunks_below [] (suc k) = 0
chunks_below (fs ∷ lists) (suc k) = length fs + chunks_below lists k

-- some chunks of the list k are passed, and stand at their spots with those of the lists before; so many were read
pub record HasPassed {bytes : List ℕ} {gaps : List Extent} (t : ThreadsFreeChunks bytes gaps) (k : ℕ) (slots : List Slot) (front : Option ℕ) (count : ℕ) : Type 0 where
  pub before : List Extent
  pub after : List Extent
  pub is : list_of t k ≡ before ++ after
  pub follows : front ≡ last_place before
  pub long : chunks_below (lists_of t) k + length before ≡ count
  pub read : AreRead t k before slots

abbrev pub HasWalked : ℕ → List Extent → List Slot → Option ℕ → ℕ → List ℕ → Type 0
HasWalked k gaps slots front count bytes = (t : ThreadsFreeChunks bytes gaps) → HasPassed t k slots front count

-- the chunks of the first k lists stand at their spots, and are so many
abbrev pub HasReadBelow : ℕ → List Extent → List Slot → ℕ → List ℕ → Type 0
HasReadBelow k gaps slots count bytes = (t : ThreadsFreeChunks bytes gaps) → AreRead t k [] slots × (chunks_below (lists_of t) k ≡ count)
