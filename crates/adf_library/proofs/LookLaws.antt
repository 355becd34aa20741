-- A look into one slot is a look into its file among all files.
use Rattle.std.proofs.Common.{◌≡◌, ℕ, ◌<◌, List, [], ◌∷◌, length, get_or, set, map, ◌∙◌, ap, arith}
use Rattle.std.proofs.lemmas.List.{length-set}
use Rattle.std.specs.Prelude.{Result}
use Rattle.adf_follow.specs.Groups.{FileWork}
use Rattle.adf_follow.specs.Looking.{IsToldIn, IsFound, IsSeen, HasLookCause, HasFileFault, HasFieldCause, as_is}
use Rattle.adf_follow.proofs.Looks.{goes_on}
use Rattle.adf_library.specs.Calls.{Looks, Sees, Answers, field_in}
use Rattle.adf_library.specs.Library.{AreReady, files_in_work, files_kept, devices_in, pending_in, pending_with}
use Rattle.adf_library.specs.Places.{committed, in_work, file_of, device_of_slot, work_of_slot, IsReadySlot}
use Rattle.adf_library.specs.declared.places.Slot.{Slot}
use Rattle.adf_library.proofs.SlotLaws.{All-set, kept}
use Rattle.adf_library.proofs.Among.{OneSet, all_read, all_placed, slot_here, device_here, device_now, slot_changed}
use Rattle.adf_model.specs.Causes.{OnlyAsks}
use Rattle.adf_model.specs.Slots.{File, Files, Device, Devices, slot_at, device_at}
use Rattle.adf_model.specs.declared.error.AdfError.{AdfError}
use Rattle.adf_model.specs.declared.error.AdfError.TheVariants.{Memory, ReadFault, NotOpen, NoSuchFile, LinkMissing, LinkChain, Layout}
use Rattle.adf_model.specs.declared.tree.NodeId.{NodeId}
use Rattle.adf_model.specs.declared.tree.Query.{Query}
use Rattle.adf_model.specs.declared.tree.Reply.{Reply}
use Rattle.cg_io.specs.Device.{DeviceState}

-- ---- causes

module _ (files : Files) (before now : Devices) (n : ℕ) (file : File) (old new : Device)
    (own : slot_at files n ≡ file.slot) (was : device_at before n ≡ old) (is : device_at now n ≡ new) where
  pub fault_among : HasFileFault (file ∷ []) 0 (old ∷ []) (new ∷ []) → HasFileFault files n before now
  fault_among h = rw (own, was, is) h

  pub look_among : (error : AdfError) → HasLookCause (file ∷ []) 0 (old ∷ []) (new ∷ []) error → HasLookCause files n before now error
  look_among Memory h = tt
  look_among ReadFault h = fault_among h
  look_among (Layout rule place) h = h
  look_among error h = absurd h

  pub field_among : (query : Query) (error : AdfError) → HasFieldCause (file ∷ []) query 0 (old ∷ []) (new ∷ []) error → HasFieldCause files query n before now error
  field_among query Memory h = tt
  field_among query ReadFault h = fault_among h
  field_among query (Layout rule place) h = h
  field_among query AdfError.Broken h = absurd h
  field_among query NotOpen h = absurd h
  field_among query NoSuchFile h = absurd h
  field_among query LinkMissing h = absurd h
  field_among query LinkChain h = absurd h
  field_among query error h = h

  pub told_among : IsToldIn files before n → IsToldIn (file ∷ []) (old ∷ []) 0
  told_among h = rw (own, was) at h

-- ---- one slot of all

module _ {D : Type 0} (state : D → DeviceState) (slots : List (Slot D)) (n : ℕ) (old new : Slot D) (within : n < length slots) (is : old ≡ get_or slots n old)
    (looks : Looks state old new) where
  abbrev files : Files
  files = files_in_work state slots

  abbrev before : Devices
  before = devices_in state slots

  abbrev now : Devices
  now = devices_in state (set slots n new)

  abbrev after : Files
  after = files_in_work state (set slots n new)

  one : OneSet n files before (file_of in_work state new).slot now after
  one = slot_changed in_work state slots n old new within is (ap (λ (f : File). f.name) looks.now)

  was_device : device_at before n ≡ device_of_slot state old
  was_device = device_here in_work state slots n old new within is

  now_device : device_at now n ≡ device_of_slot state new
  now_device = device_now in_work state slots n old new within is

  pub own : slot_at files n ≡ (file_of in_work state old).slot
  own = slot_here in_work state slots n old new within is

  pub leaves_among : OnlyAsks files before now after
  leaves_among = record {
    files_stay = kept (file_of in_work state) slots n old new within is looks.now;
    devices_stay = all_read n files before (file_of in_work state new).slot now after one (rw (was_device, now_device) looks.device);
    placed = all_placed n files before (file_of in_work state new).slot now after one (rw (was_device, now_device) looks.placed);
  }

  pub pending_among : pending_in state (set slots n new) ≡ pending_in state slots
  pending_among =
      ap (λ (fs : Files). pending_with fs (map (work_of_slot state) (set slots n new))) (kept (file_of committed state) slots n old new within is looks.kept)
      ∙ ap (λ (ws : List FileWork). pending_with (files_kept state slots) ws) (kept (work_of_slot state) slots n old new within is looks.work)

  pub ready_among : IsReadySlot state new → AreReady state slots → AreReady state (set slots n new)
  ready_among ready all = (All-set (IsReadySlot state) slots n new all.0 ready, let l = length-set slots n new in omega (arith, l, all.1))

  pub found_among : {A B : Type 0} (view : A → B) (wanted whole : Result B AdfError) (result : Result A AdfError) → whole ≡ wanted → Sees state old new view wanted result → IsSeen files before n now view whole result
  found_among view wanted whole result same sees =
      goes_on (IsToldIn files before n) (IsToldIn (file_of in_work state old ∷ []) (device_of_slot state old ∷ []) 0)
      (HasLookCause (file_of in_work state old ∷ []) 0 (device_of_slot state old ∷ []) (device_of_slot state new ∷ [])) (HasLookCause files n before now) view wanted whole result
      (look_among files before now n (file_of in_work state old) (device_of_slot state old) (device_of_slot state new) own was_device now_device)
      (told_among files before now n (file_of in_work state old) (device_of_slot state old) (device_of_slot state new) own was_device now_device) (λ told. same) sees

  pub answered_among : (at : NodeId) (query : Query) (whole : Result Reply AdfError) (result : Result Reply AdfError) → whole ≡ field_in (file_of in_work state old).slot at query → Answers state old new at query result
      → IsFound (IsToldIn files before n) (HasFieldCause files query n before now) as_is whole result
  answered_among at query whole result same answers =
      goes_on (IsToldIn files before n) (IsToldIn (file_of in_work state old ∷ []) (device_of_slot state old ∷ []) 0)
      (HasFieldCause (file_of in_work state old ∷ []) query 0 (device_of_slot state old ∷ []) (device_of_slot state new ∷ [])) (HasFieldCause files query n before now) as_is
      (field_in (file_of in_work state old).slot at query) whole result
      (field_among files before now n (file_of in_work state old) (device_of_slot state old) (device_of_slot state new) own was_device now_device query)
      (told_among files before now n (file_of in_work state old) (device_of_slot state old) (device_of_slot state new) own was_device now_device) (λ told. same) answers
