-- What a library means: its files, their devices, and what stands between its calls.
use Rattle.std.specs.Prelude.{ℕ, ◌<◌, ◌^◌, List, length, map, All, slice_index_or, Option, None, ⊤}
use Rattle.std.specs.Option.{option_map}
use Rattle.adf_follow.specs.Groups.{FileWork, Pending, WaitsIn, at_rest}
use Rattle.adf_library.specs.Places.{committed, in_work, file_of, device_of_slot, work_of_slot, IsReadySlot}
use Rattle.adf_library.specs.Shelf.{PlaceState, SlotState, slot_of, device_in_place}
use Rattle.adf_library.specs.Shelf.PlaceState.{There, Taken, Gone}
use Rattle.adf_library.specs.declared.library.Library.{Library}
use Rattle.adf_library.specs.declared.places.Place.{Place}
use Rattle.adf_library.specs.declared.places.Place.TheVariants as place
use Rattle.adf_library.specs.declared.places.Slot.{Slot}
use Rattle.adf_library.specs.declared.slots.Slots.{Slots}
use Rattle.adf_model.specs.Slots.{File, Files, Device, Devices, no_device}
use Rattle.adf_model.specs.Slots as model
use Rattle.adf_tree.specs.Files.{device_with}
use Rattle.cg_io.specs.Device.{DeviceState}

-- ---- the slots

-- the files, with their trees as they were last committed
abbrev pub files_kept : {D : Type 0} → (D → DeviceState) → List (Slot D) → Files
files_kept state slots = map (file_of committed state) slots

-- and with the edits in work
abbrev pub files_in_work : {D : Type 0} → (D → DeviceState) → List (Slot D) → Files
files_in_work state slots = map (file_of in_work state) slots

abbrev pub devices_in : {D : Type 0} → (D → DeviceState) → List (Slot D) → Devices
devices_in state slots = map (device_of_slot state) slots

abbrev pub work_at : List FileWork → ℕ → FileWork
work_at works number = slice_index_or works number (at_rest no_device)

abbrev pub pending_with : Files → List FileWork → Pending
pending_with kept works = record { kept = kept; work = work_at works }

-- what waits in the files
abbrev pub pending_in : {D : Type 0} → (D → DeviceState) → List (Slot D) → Pending
pending_in state slots = pending_with (files_kept state slots) (map (work_of_slot state) slots)

-- each slot is ready, and each number fits its type
abbrev pub AreReady : {D : Type 0} → (D → DeviceState) → List (Slot D) → Type 0
AreReady state slots = All (IsReadySlot state) slots × (length slots < 2 ^ 32)

abbrev pub slots_files : {D : Type 0} → (D → DeviceState) → Slots D → Files
slots_files state slots = files_in_work state slots.items.items

abbrev pub slots_devices : {D : Type 0} → (D → DeviceState) → Slots D → Devices
slots_devices state slots = devices_in state slots.items.items

abbrev pub slots_pending : {D : Type 0} → (D → DeviceState) → Slots D → Pending
slots_pending state slots = pending_in state slots.items.items

abbrev pub are_ready : {D : Type 0} → (D → DeviceState) → Slots D → Type 0
are_ready state slots = AreReady state slots.items.items

-- ---- the library

abbrev pub files_of : {D : Type 0} → (D → DeviceState) → Library D → Files
files_of state library = slots_files state library.slots

abbrev pub devices_of : {D : Type 0} → (D → DeviceState) → Library D → Devices
devices_of state library = slots_devices state library.slots

-- the slots are ready, and nothing waits
pub record IsLibrary {D : Type 0} (state : D → DeviceState) (library : Library D) : Type 0 where
  pub ready : are_ready state library.slots
  pub rest : WaitsIn None (slots_files state library.slots) (slots_devices state library.slots) (slots_pending state library.slots)

-- ---- the shelf before and after

-- a device of a closed file stands there, or none does
abbrev pub entry_slot : PlaceState → model.Slot
entry_slot (There device) = model.Slot.Raw
entry_slot Taken = model.Slot.Gone
entry_slot (Gone last) = model.Slot.Gone

-- the files of a shelf before the first call: closed, with any bytes; those of discarded devices are gone
abbrev pub shelf_file : SlotState → File
shelf_file slot = record { name = slot.name; slot = entry_slot slot.place }

abbrev pub shelf_files : List SlotState → Files
shelf_files slots = map shelf_file slots

-- the names under which devices stand
abbrev pub standing_name : SlotState → Option (List ℕ)
standing_name slot = option_map (λ device. slot.name) (device_in_place slot.place)

abbrev pub device_by : PlaceState → Device
device_by (There state) = device_with no_device.placement state
device_by Taken = no_device
device_by (Gone last) = device_with no_device.placement last

-- the devices of a shelf: of a discarded one its last counts
abbrev pub shelf_device : SlotState → Device
shelf_device slot = device_by slot.place

abbrev pub shelf_devices : List SlotState → Devices
shelf_devices slots = map shelf_device slots

-- the slots that the shelf had, with what their devices mean by now
abbrev pub slots_in : {D : Type 0} → (D → DeviceState) → Library D → List SlotState
slots_in state library = map (slot_of state) library.slots.items.items

-- a device of a closed file
abbrev pub unplaced : Device → Device
unplaced device = record device { placement = no_device.placement }

-- no file of the place is open or kept
abbrev pub IsIdlePlace : {D : Type 0} → Place D → Type 0
IsIdlePlace place.Taken = ⊤
IsIdlePlace (place.Closed device) = ⊤
IsIdlePlace (place.Saved device left) = ⊥
IsIdlePlace (place.Open file) = ⊥
IsIdlePlace (place.Gone husk) = ⊤

abbrev pub IsIdle : {D : Type 0} → Slot D → Type 0
IsIdle slot = IsIdlePlace slot.place
