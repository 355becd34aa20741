-- What a step, a commit and an undo make of one slot.
use Rattle.std.specs.Prelude.{◌≡◌, ℕ, List, [], ◌∷◌, Option, Some, Result, Ok, Err}
use Rattle.adf_follow.specs.Groups.{IsStepped, IsStepRefusal, IsCommitted, IsTornCommit, FileWork, at_rest}
use Rattle.adf_follow.specs.Looking.{HasStepCause}
use Rattle.adf_library.specs.Places.{committed, in_work, file_of, device_of_slot, work_of_slot}
use Rattle.adf_library.specs.declared.places.Slot.{Slot}
use Rattle.adf_model.specs.Slots.{Open, Standing, standing_of, is_gone, open_of, IsToldAt}
use Rattle.adf_model.specs.Slots as model
use Rattle.adf_model.specs.Steps.{OnlyRead, NoneFell, WriteFailed, IsLaidOutAt}
use Rattle.adf_model.specs.declared.error.AdfError.{AdfError}
use Rattle.adf_model.specs.declared.error.AdfError.TheVariants.{WriteFault}
use Rattle.adf_model.specs.declared.tree.Edit.{Edit}
use Rattle.cg_io.specs.Device.{DeviceState}

-- ---- what waits

-- what only waits leaves the file as it was committed, its standing and where the parts stand; and only reads
pub record StaysWaiting {D : Type 0} (state : D → DeviceState) (old new : Slot D) : Type 0 where
  pub kept : file_of committed state new ≡ file_of committed state old
  pub standing : standing_of (file_of in_work state new).slot ≡ standing_of (file_of in_work state old).slot
  pub device : OnlyRead (device_of_slot state old) (device_of_slot state new)
  pub placed : (device_of_slot state new).placement ≡ (device_of_slot state old).placement

-- nothing waits any more: the tree is that of the last commit
pub record IsDropped {D : Type 0} (state : D → DeviceState) (old new : Slot D) : Type 0 where
  pub file : (file_of in_work state new).slot ≡ (file_of committed state old).slot
  pub work : work_of_slot state new ≡ at_rest (device_of_slot state new)

-- ---- a step

abbrev pub is_told : {D : Type 0} → (D → DeviceState) → Slot D → Type 0
is_told state slot = IsToldAt (file_of in_work state slot).slot (device_of_slot state slot)

-- an edit of these very nodes is done on the tree in work, and waits
pub record StepsPlace {D : Type 0} (state : D → DeviceState) (edit : Edit) (old new : Slot D) (serial : Option ℕ) : Type 0 where
  pub editing : standing_of (file_of in_work state old).slot ≡ Standing.Editing
  pub done : is_told state old
      → IsStepped (file_of in_work state old ∷ []) (file_of in_work state new ∷ []) (λ n. work_of_slot state old) (λ n. work_of_slot state new) 0 edit serial

-- an edit, of which one node was reached, is refused for a cause
pub record RefusesPlace {D : Type 0} (state : D → DeviceState) (edit reached : Edit) (old new : Slot D) (error : AdfError) : Type 0 where
  pub why : is_told state old → IsStepRefusal (file_of in_work state old ∷ []) (λ n. work_of_slot state old) 0 reached error
  pub cause : HasStepCause (file_of in_work state old ∷ []) edit 0 (device_of_slot state old ∷ []) (device_of_slot state new ∷ []) error

-- ---- a commit

-- the tree is the one in work, and what waits is written
pub record IsWritten {D : Type 0} (state : D → DeviceState) (old new : Slot D) : Type 0 where
  pub now : file_of in_work state new ≡ file_of in_work state old
  pub kept : (file_of committed state new).slot ≡ (file_of in_work state old).slot
  pub committed_is : (was : Open) → is_told state old → open_of (file_of committed state old).slot ≡ Some was
      → IsCommitted was (work_of_slot state old) (device_of_slot state old) (device_of_slot state new)

-- a write failed, and the file is broken
pub record IsTorn {D : Type 0} (state : D → DeviceState) (old new : Slot D) (error : AdfError) : Type 0 where
  pub fault : error ≡ WriteFault
  pub now : (file_of in_work state new).slot ≡ model.Slot.Broken
  pub kept : (file_of committed state new).slot ≡ model.Slot.Broken
  pub failed : WriteFailed (device_of_slot state old) (device_of_slot state new)
  pub torn : (was opened : Open) → is_told state old → open_of (file_of committed state old).slot ≡ Some was → open_of (file_of in_work state old).slot ≡ Some opened
      → IsTornCommit was opened.tree (work_of_slot state old) (device_of_slot state old) (device_of_slot state new)

abbrev pub CommitEndsAt : {D : Type 0} → (D → DeviceState) → Slot D → Slot D → Result Unit AdfError → Type 0
CommitEndsAt state old new (Ok done) = IsWritten state old new
CommitEndsAt state old new (Err error) = IsTorn state old new error

-- What a commit makes of one slot.
pub record CommitsPlace {D : Type 0} (state : D → DeviceState) (old new : Slot D) (result : Result Unit AdfError) : Type 0 where
  pub name : new.name ≡ old.name
  pub ends : CommitEndsAt state old new result
  pub rest : work_of_slot state new ≡ at_rest (device_of_slot state new)
  pub device : NoneFell (device_of_slot state old) (device_of_slot state new)
  pub laid_out : IsLaidOutAt (file_of committed state new).slot (device_of_slot state new)
  pub told : is_told state old → is_told state new
