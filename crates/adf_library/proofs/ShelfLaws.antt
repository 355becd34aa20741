-- The slots of a library and those of its shelf.
use Rattle.std.proofs.Common.{◌≡◌, zero, suc, List, [], ◌∷◌, length, map, refl, sym, ◌∙◌, ap, subst, arith}
use Rattle.std.proofs.lemmas.List.{length-map}
use Rattle.std.specs.List.{All}
use Rattle.adf_library.specs.Calls.{IsAtRest}
use Rattle.adf_library.specs.Library.{shelf_file, shelf_device, entry_slot, device_by, unplaced, IsIdle, IsIdlePlace}
use Rattle.adf_library.specs.Places.{in_work, slot_in, device_in, file_of, device_of_slot, IsReadyPlace, IsReadySlot}
use Rattle.adf_library.specs.Shelf.{PlaceState, SlotState, place_of, slot_of, IsNotTaken}
use Rattle.adf_library.specs.Shelf.PlaceState.{There, Taken, Gone}
use Rattle.adf_library.specs.declared.places.Place.{Place}
use Rattle.adf_library.specs.declared.places.Place.TheVariants as place
use Rattle.adf_library.specs.declared.places.Slot.{Slot}
use Rattle.adf_model.specs.Slots.{File, Files, Device, Devices}
use Rattle.adf_model.specs.Slots as model
use Rattle.cg_io.specs.Device.{DeviceState}

module _ {D : Type 0} (state : D → DeviceState) where
  -- ---- the shelf of a library

  same_device : (p : Place D) → device_by (place_of state p) ≡ unplaced (device_in state p)
  same_device place.Taken = refl
  same_device (place.Closed device) = refl
  same_device (place.Saved device left) = refl
  same_device (place.Open file) = refl
  same_device (place.Gone husk) = refl

  pub devices_unplaced : (slots : List (Slot D)) → map shelf_device (map (slot_of state) slots) ≡ map unplaced (map (device_of_slot state) slots)
  devices_unplaced [] = refl
  devices_unplaced (x ∷ xs) = ap (λ (d : Device). d ∷ map shelf_device (map (slot_of state) xs)) (same_device x.place) ∙ ap (λ (ds : Devices). unplaced (device_of_slot state x) ∷ ds) (devices_unplaced xs)

  -- ---- files that are closed

  idle_slot : (p : Place D) → IsIdlePlace p → slot_in in_work state p ≡ entry_slot (place_of state p)
  idle_slot place.Taken idle = refl
  idle_slot (place.Closed device) idle = refl
  idle_slot (place.Saved device left) idle = absurd idle
  idle_slot (place.Open file) idle = absurd idle
  idle_slot (place.Gone husk) idle = refl

  idle_device : (p : Place D) → IsIdlePlace p → device_in state p ≡ device_by (place_of state p)
  idle_device place.Taken idle = refl
  idle_device (place.Closed device) idle = refl
  idle_device (place.Saved device left) idle = absurd idle
  idle_device (place.Open file) idle = absurd idle
  idle_device (place.Gone husk) idle = refl

  pub idle_files : (slots : List (Slot D)) → All IsIdle slots → map (file_of in_work state) slots ≡ map shelf_file (map (slot_of state) slots)
  idle_files [] idle = refl
  idle_files (x ∷ xs) idle =
      ap (λ (s : model.Slot). record { name = x.name; slot = s } ∷ map (file_of in_work state) xs) (idle_slot x.place (idle 0 x (omega arith)))
      ∙ ap (λ (fs : Files). shelf_file (slot_of state x) ∷ fs) (idle_files xs (λ k d lt. idle (suc k) d (omega (arith, lt))))

  pub idle_devices : (slots : List (Slot D)) → All IsIdle slots → map (device_of_slot state) slots ≡ map shelf_device (map (slot_of state) slots)
  idle_devices [] idle = refl
  idle_devices (x ∷ xs) idle =
      ap (λ (d : Device). d ∷ map (device_of_slot state) xs) (idle_device x.place (idle 0 x (omega arith)))
      ∙ ap (λ (ds : Devices). shelf_device (slot_of state x) ∷ ds) (idle_devices xs (λ k d lt. idle (suc k) d (omega (arith, lt))))

  idle_rest : (p : Place D) → IsIdlePlace p → IsAtRest state p
  idle_rest place.Taken idle = record { file = refl; work = refl }
  idle_rest (place.Closed device) idle = record { file = refl; work = refl }
  idle_rest (place.Saved device left) idle = absurd idle
  idle_rest (place.Open file) idle = absurd idle
  idle_rest (place.Gone husk) idle = record { file = refl; work = refl }

  pub idle_rests : (slots : List (Slot D)) → All IsIdle slots → All (λ (s : Slot D). IsAtRest state s.place) slots
  idle_rests slots idle k d lt = idle_rest _ (idle k d lt)

  ready_place : (p : Place D) → IsIdlePlace p → IsNotTaken p → IsReadyPlace state p
  ready_place place.Taken idle free = free
  ready_place (place.Closed device) idle free = tt
  ready_place (place.Saved device left) idle free = absurd idle
  ready_place (place.Open file) idle free = absurd idle
  ready_place (place.Gone husk) idle free = tt

  pub idle_ready : (slots : List (Slot D)) → All IsIdle slots → All (λ (s : Slot D). IsNotTaken s.place) slots → All (IsReadySlot state) slots
  idle_ready slots idle all k d lt = ready_place _ (idle k d lt) (all k d lt)

  -- ---- no device is taken

  abbrev IsNotTakenState : PlaceState → Type 0
  IsNotTakenState (There device) = Unit {0}
  IsNotTakenState Taken = ⊥
  IsNotTakenState (Gone last) = Unit {0}

  to_state : (p : Place D) → IsNotTaken p → IsNotTakenState (place_of state p)
  to_state place.Taken h = h
  to_state (place.Closed device) h = tt
  to_state (place.Saved device left) h = tt
  to_state (place.Open file) h = tt
  to_state (place.Gone husk) h = tt

  from_state : (p : Place D) → IsNotTakenState (place_of state p) → IsNotTaken p
  from_state place.Taken h = h
  from_state (place.Closed device) h = tt
  from_state (place.Saved device left) h = tt
  from_state (place.Open file) h = tt
  from_state (place.Gone husk) h = tt

  abbrev NoneTaken : List SlotState → Type 0
  NoneTaken [] = Unit {0}
  NoneTaken (slot ∷ slots) = IsNotTakenState slot.place × NoneTaken slots

  to_states : (slots : List (Slot D)) → All (λ (s : Slot D). IsNotTaken s.place) slots → NoneTaken (map (slot_of state) slots)
  to_states [] all = tt
  to_states (x ∷ xs) all = (to_state x.place (all 0 x (omega arith)), to_states xs (λ k d lt. all (suc k) d (omega (arith, lt))))

  from_states : (slots : List (Slot D)) → NoneTaken (map (slot_of state) slots) → All (λ (s : Slot D). IsNotTaken s.place) slots
  from_states [] none k d lt = absurd (omega (arith, lt))
  from_states (x ∷ xs) none zero d lt = from_state x.place none.0
  from_states (x ∷ xs) none (suc k) d lt = from_states xs none.1 k d (omega (arith, lt))

  -- slots that mean the same have the same devices taken
  pub whole_kept : (slots left : List (Slot D)) → map (slot_of state) left ≡ map (slot_of state) slots → All (λ (s : Slot D). IsNotTaken s.place) slots → All (λ (s : Slot D). IsNotTaken s.place) left
  whole_kept slots left same all = from_states left (subst NoneTaken (sym same) (to_states slots all))

  not_taken : (p : Place D) → IsReadyPlace state p → IsNotTaken p
  not_taken place.Taken h = h
  not_taken (place.Closed device) h = tt
  not_taken (place.Saved device left) h = tt
  not_taken (place.Open file) h = tt
  not_taken (place.Gone husk) h = tt

  pub ready_whole : (slots : List (Slot D)) → All (IsReadySlot state) slots → All (λ (s : Slot D). IsNotTaken s.place) slots
  ready_whole slots all k d lt = not_taken _ (all k d lt)

  pub same_length : (slots left : List (Slot D)) → map (slot_of state) left ≡ map (slot_of state) slots → length left ≡ length slots
  same_length slots left same = sym (length-map left (slot_of state)) ∙ ap length same ∙ length-map slots (slot_of state)
