-- Devices under names and numbers.
use Rattle.std.specs.Prelude.{◌≡◌, ℕ, zero, suc, ◌<◌, ◌^◌, Bool, true, false, ◌&&◌, List, ◌∷◌, [], length, map, slice_get, All, Some, None, ⊤}
use Rattle.std.specs.Option.{option_map, option_and_then}
use Rattle.std.specs.Str.{bytes_eq}
use Rattle.std.specs.List.{position_from}
use Rattle.std.specs.declared.option.Option.{Option}
use Rattle.adf_model.specs.Counts.{dropped}
use Rattle.adf_model.specs.Slots.{no_device, state_of}
use Rattle.adf_tree.specs.Files.{device_of}
use Rattle.cg_io.specs.Device.{DeviceState}
use Rattle.adf_library.specs.declared.places.Place as code
use Rattle.adf_library.specs.declared.places.Place.TheVariants as place
use Rattle.adf_library.specs.declared.places.Slot.{Slot}
use Rattle.adf_library.specs.declared.shelf.Shelf.{Shelf}

-- what stands under a number: the device of a file, however that stands; none, while it is taken; or none any more, and the last counts of the one that was discarded are still meant
pub data PlaceState : Type 0 where
  There : DeviceState → PlaceState
  Taken : PlaceState
  Gone : DeviceState → PlaceState

-- a name, and what stands there
pub record SlotState : Type 0 where
  pub name : List ℕ
  pub place : PlaceState

-- what is meant of the device that a log remembers
abbrev pub last_of : {D : Type 0} → (D → DeviceState) → List (D × ℕ) → DeviceState
last_of state [] = state_of no_device
last_of state (entry ∷ entries) = dropped (state entry.0)

abbrev pub place_of : {D : Type 0} → (D → DeviceState) → code.Place D → PlaceState
place_of state place.Taken = Taken
place_of state (place.Closed device) = There (state device)
place_of state (place.Saved device left) = There (state device)
place_of state (place.Open file) = There (device_of state file)
place_of state (place.Gone husk) = Gone (last_of state husk.last.items)

-- a slot, with what its device means
abbrev pub slot_of : {D : Type 0} → (D → DeviceState) → Slot D → SlotState
slot_of state slot = record { name = slot.name; place = place_of state slot.place }

-- the slots of a shelf by their numbers, with what their devices mean
abbrev pub slots_of : {D : Type 0} → (D → DeviceState) → Shelf D → List SlotState
slots_of state shelf = map (slot_of state) shelf.slots.items

-- a name is there until its device is discarded, also while it is taken
abbrev pub is_named : PlaceState → Bool
is_named (There device) = true
is_named Taken = true
is_named (Gone last) = false

abbrev pub has_name : List ℕ → SlotState → Bool
has_name name slot = is_named slot.place && bytes_eq slot.name name

-- the number of a name, where it is there
abbrev pub number_in : List SlotState → List ℕ → Option ℕ
number_in slots name = position_from (has_name name) 0 slots

abbrev pub device_in_place : PlaceState → Option DeviceState
device_in_place (There device) = Some device
device_in_place Taken = None
device_in_place (Gone last) = None

-- the device under a number, where one stands there
abbrev pub device_at : List SlotState → ℕ → Option DeviceState
device_at slots number = option_and_then (λ slot. device_in_place slot.place) (slice_get slots number)

-- the number is handed out, and its device is taken
abbrev pub IsTaken : List SlotState → ℕ → Type 0
IsTaken slots number = option_map (λ slot. slot.place) (slice_get slots number) ≡ Some Taken

-- the slots with what stands under a number changed; past the last number they stay
abbrev pub changed_at : (PlaceState → PlaceState) → List SlotState → ℕ → List SlotState
changed_at change [] number = []
changed_at change (slot ∷ slots) zero = record slot { place = change slot.place } ∷ slots
changed_at change (slot ∷ slots) (suc number) = slot ∷ changed_at change slots number

-- a device is taken, where one stands there
abbrev pub taken : PlaceState → PlaceState
taken (There device) = Taken
taken Taken = Taken
taken (Gone last) = Gone last

-- a device is discarded, where one stands there
abbrev pub discarded : PlaceState → PlaceState
discarded (There device) = Gone (dropped device)
discarded Taken = Taken
discarded (Gone last) = Gone last

-- the slots with this device under a number
abbrev pub with_device : List SlotState → ℕ → DeviceState → List SlotState
with_device slots number device = changed_at (λ was. There device) slots number

-- ---- shelves

abbrev pub IsNotTaken : {D : Type 0} → code.Place D → Type 0
IsNotTaken place.Taken = ⊥
IsNotTaken (place.Closed device) = ⊤
IsNotTaken (place.Saved device left) = ⊤
IsNotTaken (place.Open file) = ⊤
IsNotTaken (place.Gone husk) = ⊤

-- no device is taken
abbrev pub IsWhole : {D : Type 0} → Shelf D → Type 0
IsWhole shelf = All (λ slot. IsNotTaken slot.place) shelf.slots.items

-- no device is taken but that of a number
abbrev pub IsWholeBut : {D : Type 0} → ℕ → Shelf D → Type 0
IsWholeBut number shelf = (k : ℕ) (slot : Slot _) → slice_get shelf.slots.items k ≡ Some slot → (k ≡ number → ⊥) → IsNotTaken slot.place

-- each number fits its type
abbrev pub IsShelf : {D : Type 0} → Shelf D → Type 0
IsShelf shelf = length shelf.slots.items < 2 ^ 32
