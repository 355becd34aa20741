-- What the calls on one slot answer, and what they leave of it.
use Rattle.std.specs.Prelude.{◌≡◌, ℕ, ◌+◌, ◌≤◌, List, [], ◌∷◌, not, Option, Some, None, Result, Ok, Err, OnErr}
use Rattle.adf_follow.specs.Groups.{at_rest}
use Rattle.adf_follow.specs.Looking.{IsFound, IsSeen, IsToldIn, HasFieldCause, as_is}
use Rattle.adf_library.specs.Places.{committed, in_work, file_of, slot_in, device_in, work_in, device_of_slot, work_of_slot}
use Rattle.adf_library.specs.declared.places.Left.{Left}
use Rattle.adf_library.specs.declared.places.Place.{Place}
use Rattle.adf_library.specs.declared.places.Place.TheVariants as place
use Rattle.adf_library.specs.declared.places.Slot.{Slot}
use Rattle.adf_model.specs.Answers.{field_within}
use Rattle.adf_model.specs.Calls.{is_live_in}
use Rattle.adf_model.specs.Causes.{IsOpenCause, standing_by}
use Rattle.adf_model.specs.Slots.{Open, Device, standing_of, is_gone, is_open, is_broken, open_of, IsToldAt}
use Rattle.adf_model.specs.Slots as model
use Rattle.adf_model.specs.Steps.{Opening, Fresh, Stored, Opens, OnlyRead, NoneFell, IsFirstOr, IsOpenRefusal, LeavesFresh, closed, Dropped, IsLaidOutAt}
use Rattle.adf_model.specs.Tests.{Test, first_refusal, if_there}
use Rattle.adf_model.specs.declared.error.AdfError.{AdfError}
use Rattle.adf_model.specs.declared.error.AdfError.TheVariants.{Memory, WriteFault, NotOpen, NoSuchFile, AlreadyOpen, NoSuchNode}
use Rattle.adf_model.specs.declared.tree.NodeId.{NodeId}
use Rattle.adf_model.specs.declared.tree.Query.{Query}
use Rattle.adf_model.specs.declared.tree.Reply.{Reply}
use Rattle.cg_io.specs.Device.{DeviceState}

-- ---- looks

-- a look leaves the file, what waits there, and where the parts stand; and only reads
pub record Looks {D : Type 0} (state : D → DeviceState) (old new : Slot D) : Type 0 where
  pub kept : file_of committed state new ≡ file_of committed state old
  pub now : file_of in_work state new ≡ file_of in_work state old
  pub work : work_of_slot state new ≡ work_of_slot state old
  pub device : OnlyRead (device_of_slot state old) (device_of_slot state new)
  pub placed : (device_of_slot state new).placement ≡ (device_of_slot state old).placement

-- a look finds what is wanted in a file by itself
abbrev pub Sees : {D A B : Type 0} → (D → DeviceState) → Slot D → Slot D → (A → B) → Result B AdfError → Result A AdfError → Type 0
Sees state old new view wanted result =
    IsSeen (file_of in_work state old ∷ []) (device_of_slot state old ∷ []) 0 (device_of_slot state new ∷ []) view wanted result

-- what is answered of a node of a file
abbrev pub field_in : model.Slot → NodeId → Query → Result Reply AdfError
field_in slot at query = if_there (open_of slot) NotOpen (λ opened. field_within opened.tree at query)

-- a file by itself answers a query of a node
abbrev pub Answers : {D : Type 0} → (D → DeviceState) → Slot D → Slot D → NodeId → Query → Result Reply AdfError → Type 0
Answers state old new at query result =
    let files = file_of in_work state old ∷ [] in let before = device_of_slot state old ∷ [] in
    IsFound (IsToldIn files before 0) (HasFieldCause files query 0 before (device_of_slot state new ∷ [])) as_is (field_in (file_of in_work state old).slot at query) result

-- the tests of a query of a node, by the file alone
abbrev pub entry_tests : model.Slot → ℕ → List Test
entry_tests own serial = (is_gone own, NoSuchFile) ∷ (not (is_open own), NotOpen) ∷ (is_broken own, AdfError.Broken) ∷ (not (is_live_in (open_of own) serial), NoSuchNode) ∷ []

-- ---- what waits

-- nothing waits
pub record IsAtRest {D : Type 0} (state : D → DeviceState) (place : Place D) : Type 0 where
  pub file : slot_in in_work state place ≡ slot_in committed state place
  pub work : work_in state place ≡ at_rest (device_in state place)

-- ---- opening

-- a closed file of a device: with any bytes, or with the tree that it was closed with
abbrev pub closed_as : {D : Type 0} → D → Option (Left D) → Place D
closed_as device None = place.Closed device
closed_as device (Some left) = place.Saved device left

-- how a closed file stands after a refused opening: a failed write leaves any bytes
abbrev pub refused_as : {D : Type 0} → AdfError → D → Option (Left D) → Place D
refused_as WriteFault device saved = place.Closed device
refused_as error device saved = closed_as device saved

abbrev pub open_refusal : model.Slot → Option AdfError
open_refusal own = first_refusal ((is_gone own, NoSuchFile) ∷ (is_open own, AlreadyOpen) ∷ [])

abbrev pub after_open : AdfError → model.Slot → model.Slot
after_open WriteFault own = model.Slot.Raw
after_open error own = own

-- an opening writes at most once, and only a fresh file
abbrev pub OpeningWrites : Opening → Device → Device → Type 0
OpeningWrites (Fresh wide) before now = NoneFell before now × (now.writes ≤ before.writes + 1)
OpeningWrites (Stored writable) before now = OnlyRead before now

-- a refused one only where its write failed
abbrev pub RefusalWrites : AdfError → Opening → Device → Device → Type 0
RefusalWrites WriteFault opening before now = OpeningWrites opening before now
RefusalWrites error opening before now = OnlyRead before now

-- what may be answered to an opening where the device tells, and what it leaves
abbrev pub IsOpenedAt : Opening → ℕ → model.Slot → Device → Result Unit AdfError → Device → model.Slot → Type 0
IsOpenedAt opening limit own before (Ok done) now left =
    (opened : Open) × (open_refusal own ≡ None) × (opened.limit ≡ limit) × Opens opening own before.held opened × (left ≡ model.Slot.Live opened)
    × OpeningWrites opening before now × LeavesFresh opening before now
IsOpenedAt opening limit own before (Err Memory) now left = (left ≡ own) × OnlyRead before now
IsOpenedAt opening limit own before (Err error) now left =
    IsFirstOr (open_refusal own) error (IsOpenRefusal opening own before now error) × (left ≡ after_open error own) × RefusalWrites error opening before now

-- and whether it tells or not
abbrev pub OpensAnyway : Opening → model.Slot → Device → Result Unit AdfError → Device → model.Slot → Type 0
OpensAnyway opening own before (Ok done) now left = (open_refusal own ≡ None) × (standing_of left ≡ standing_by opening) × OpeningWrites opening before now
OpensAnyway opening own before (Err Memory) now left = (left ≡ own) × OnlyRead before now
OpensAnyway opening own before (Err error) now left =
    IsFirstOr (open_refusal own) error (IsOpenCause opening before now error) × (left ≡ after_open error own) × RefusalWrites error opening before now

-- What an opening makes of one place.
pub record OpensPlace {D : Type 0} (state : D → DeviceState) (opening : Opening) (limit : ℕ) (old new : Place D) (result : Result Unit AdfError) : Type 0 where
  pub told : IsToldAt (slot_in committed state old) (device_in state old)
      → IsOpenedAt opening limit (slot_in committed state old) (device_in state old) result (device_in state new) (slot_in committed state new)
  pub anyway : OpensAnyway opening (slot_in committed state old) (device_in state old) result (device_in state new) (slot_in committed state new)
  pub stands : OnErr result (standing_of (slot_in committed state new) ≡ standing_of (slot_in committed state old))
  pub gone : is_gone (slot_in committed state new) ≡ is_gone (slot_in committed state old)
  pub placed : OnErr result ((device_in state new).placement ≡ (device_in state old).placement)
  pub tells : IsToldAt (slot_in committed state old) (device_in state old) → IsToldAt (slot_in committed state new) (device_in state new)
  pub laid_out : IsLaidOutAt (slot_in committed state old) (device_in state old) → IsLaidOutAt (slot_in committed state new) (device_in state new)
  pub rest : IsAtRest state old → IsAtRest state new

-- ---- closing

abbrev pub close_refusal : model.Slot → Option AdfError
close_refusal own = first_refusal ((is_gone own, NoSuchFile) ∷ (not (is_open own), NotOpen) ∷ [])

abbrev pub IsClosedAt : model.Slot → Result Unit AdfError → model.Slot → Type 0
IsClosedAt own (Ok done) left = (close_refusal own ≡ None) × (left ≡ closed own)
IsClosedAt own (Err error) left = (close_refusal own ≡ Some error) × (left ≡ own)

-- What a closing makes of one place: its device is neither read nor written.
pub record ClosesPlace {D : Type 0} (state : D → DeviceState) (old new : Place D) (result : Result Unit AdfError) : Type 0 where
  pub closed_is : IsClosedAt (slot_in committed state old) result (slot_in committed state new)
  pub device : device_in state new ≡ record (device_in state old) { placement = (device_in state new).placement }
  pub placed : OnErr result ((device_in state new).placement ≡ (device_in state old).placement)
  pub laid_out : IsLaidOutAt (slot_in committed state old) (device_in state old) → IsLaidOutAt (slot_in committed state new) (device_in state new)
  pub rest : IsAtRest state old → IsAtRest state new

-- ---- discarding

abbrev pub IsDiscardedAt : model.Slot → Result Unit AdfError → model.Slot → Type 0
IsDiscardedAt own (Ok done) left = (open_refusal own ≡ None) × (left ≡ model.Slot.Gone)
IsDiscardedAt own (Err error) left = (open_refusal own ≡ Some error) × (left ≡ own)

-- a discarded device is dropped, and a refused discarding leaves it
abbrev pub IsDroppedAt : Device → Result Unit AdfError → Device → Type 0
IsDroppedAt before (Ok done) now = Dropped before now
IsDroppedAt before (Err error) now = now ≡ before

-- What a discarding makes of one place.
pub record DiscardsPlace {D : Type 0} (state : D → DeviceState) (old new : Place D) (result : Result Unit AdfError) : Type 0 where
  pub discarded_is : IsDiscardedAt (slot_in committed state old) result (slot_in committed state new)
  pub device : IsDroppedAt (device_in state old) result (device_in state new)
  pub rest : IsAtRest state old → IsAtRest state new
