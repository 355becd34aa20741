-- The meaning of what stands under a number: the file with its tree, as committed or with the edits in work; its device; and what waits there.
use Rattle.std.specs.Prelude.{◌≡◌, ℕ, if◌then◌else◌, List, [], ◌∷◌, map, Option, None, unwrap_or, ⊤}
use Rattle.std.specs.Option.{option_map}
use Rattle.adf_format.specs.Placement.{Placement, Heap}
use Rattle.adf_format.specs.Tree.{Tree, numbered}
use Rattle.adf_follow.specs.Groups.{FileWork, at_rest}
use Rattle.adf_library.specs.Shelf.{last_of}
use Rattle.adf_library.specs.declared.places.Place.{Place}
use Rattle.adf_library.specs.declared.places.Place.TheVariants as place
use Rattle.adf_library.specs.declared.places.Slot.{Slot}
use Rattle.adf_model.specs.FileGroup.{done_by}
use Rattle.adf_model.specs.Slots.{Open, File, Device, no_device}
use Rattle.adf_model.specs.Slots as model
use Rattle.adf_tree.specs.Files.{FileState, HasMeaning, IsWorking, accepted, device_with, device_of, state_of}
use Rattle.adf_tree.specs.declared.file.AdfFile.{AdfFile}
use Rattle.cg_io.specs.Device.{DeviceState}
use Rattle.cg_io.specs.Waits.{how_many}
use Rattle.tree_edits.specs.declared.rows.Row.{Row}
use Rattle.tree_laws.specs.Reading.{tree_in, placement_in}

-- ---- an open file

abbrev pub places_in : List (Option Row) → List (Option ℕ)
places_in rows = map (option_map (λ (row : Row). row.place)) rows

-- The tree that bytes hold, whose headers stand where the rows say. Of bytes that are not told it is known which nodes are live.
unfoldable pub tree_by : Option (List ℕ) → List (Option Row) → Tree
tree_by held rows = tree_in (unwrap_or held []) (places_in rows)

-- where its parts stand
unfoldable pub placement_by : Option (List ℕ) → List (Option Row) → Heap → Placement
placement_by held rows heap = placement_in (unwrap_or held []) (places_in rows) heap

-- the tree as it was last committed
abbrev pub committed : FileState → Open
committed file = record { tree = tree_by file.device.held file.core.rows.kept; writable = file.core.writable; limit = file.core.heap.limit }

-- the tree with the edits in work
abbrev pub in_work : FileState → Open
in_work file = record { tree = tree_by file.image file.core.rows.items; writable = file.core.writable; limit = file.core.heap.limit }

abbrev pub slot_as : (FileState → Open) → FileState → model.Slot
slot_as view file = if file.broken then model.Slot.Broken else model.Slot.Live (view file)

-- the device, by which the committed tree stands
abbrev pub device_as : FileState → Device
device_as file = device_with (placement_by file.device.held file.core.rows.kept file.core.heap.kept.heap) file.device

-- what waits in it
abbrev pub work_as : FileState → FileWork
work_as file = record {
  done = done_by file.core.writable (committed file).tree file.steps;
  placement = placement_by file.image file.core.rows.items file.core.heap.work.heap;
  cost = how_many file.waiting;
}

-- ---- a place

-- the tree with which a file was closed, numbered as its next opening numbers it
abbrev pub tree_left : {D : Type 0} → (D → DeviceState) → List (AdfFile D × ℕ) → Tree
tree_left state [] = tree_by None []
tree_left state (entry ∷ entries) = numbered (committed (state_of state entry.0)).tree

-- how a file stands: one whose device is not there is gone
abbrev pub slot_in : {D : Type 0} → (FileState → Open) → (D → DeviceState) → Place D → model.Slot
slot_in view state place.Taken = model.Slot.Gone
slot_in view state (place.Closed device) = model.Slot.Raw
slot_in view state (place.Saved device left) = model.Slot.Saved (tree_left state left.last.items)
slot_in view state (place.Open file) = slot_as view (state_of state file)
slot_in view state (place.Gone husk) = model.Slot.Gone

-- its device: of a discarded one the last counts
abbrev pub device_in : {D : Type 0} → (D → DeviceState) → Place D → Device
device_in state place.Taken = no_device
device_in state (place.Closed device) = device_with no_device.placement (state device)
device_in state (place.Saved device left) = device_with no_device.placement (state device)
device_in state (place.Open file) = device_as (state_of state file)
device_in state (place.Gone husk) = device_with no_device.placement (last_of state husk.last.items)

-- what waits there
abbrev pub work_in : {D : Type 0} → (D → DeviceState) → Place D → FileWork
work_in state place.Taken = at_rest no_device
work_in state (place.Closed device) = at_rest (device_with no_device.placement (state device))
work_in state (place.Saved device left) = at_rest (device_with no_device.placement (state device))
work_in state (place.Open file) = work_as (state_of state file)
work_in state (place.Gone husk) = at_rest (device_with no_device.placement (last_of state husk.last.items))

-- ---- a slot

abbrev pub file_of : {D : Type 0} → (FileState → Open) → (D → DeviceState) → Slot D → File
file_of view state slot = record { name = slot.name; slot = slot_in view state slot.place }

abbrev pub device_of_slot : {D : Type 0} → (D → DeviceState) → Slot D → Device
device_of_slot state slot = device_in state slot.place

abbrev pub work_of_slot : {D : Type 0} → (D → DeviceState) → Slot D → FileWork
work_of_slot state slot = work_in state slot.place

-- ---- what stands between the calls

-- a file was not broken when it was closed, and its device holds what it then held
pub record IsLeftAs {D : Type 0} (state : D → DeviceState) (device : DeviceState) (file : AdfFile D) : Type 0 where
  pub held : device.held ≡ (device_of state file).held
  pub means : HasMeaning (accepted file.core) device.held

abbrev pub IsLeft : {D : Type 0} → (D → DeviceState) → DeviceState → List (AdfFile D × ℕ) → Type 0
IsLeft state device [] = ⊥
IsLeft state device (entry ∷ entries) = IsLeftAs state device entry.0

-- no device is taken, an open file has what it needs between its calls, and what a closed one left is still so
abbrev pub IsReadyPlace : {D : Type 0} → (D → DeviceState) → Place D → Type 0
IsReadyPlace state place.Taken = ⊥
IsReadyPlace state (place.Closed device) = ⊤
IsReadyPlace state (place.Saved device left) = IsLeft state (state device) left.last.items
IsReadyPlace state (place.Open file) = IsWorking state file
IsReadyPlace state (place.Gone husk) = ⊤

abbrev pub IsReadySlot : {D : Type 0} → (D → DeviceState) → Slot D → Type 0
IsReadySlot state slot = IsReadyPlace state slot.place
