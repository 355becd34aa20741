-- The files of a shelf: what is known of each, and of its device.
use Rattle.std.specs.Prelude.{slice_index_or, ◌≡◌, ℕ, zero, suc, Bool, true, false, List, [], ◌∷◌, Option, Some, None, IsSome, map, slice_get, if◌then◌else◌, bytes_eq}
use Rattle.adf_format.specs.Placement.{Placement}
use Rattle.adf_model.specs.Counts.{DeviceState}
use Rattle.adf_format.specs.FirstFault.{end_in}
use Rattle.adf_format.specs.Tree.{Tree, IsTree, IsNumbered}

-- a tree that is open, whether it may be edited, and its address limit in blocks
pub record Open : Type 0 where
  pub tree : Tree
  pub writable : Bool
  pub limit : ℕ

-- the state of a file: discarded; closed, with any bytes; closed, with a tree of this session; open; open after a failed write
pub data Slot : Type 0 where
  Gone : Slot
  Raw : Slot
  Saved : Tree → Slot
  Live : Open → Slot
  Broken : Slot

-- what is known of a file also where its device does not tell what it holds
pub data Standing : Type 0 where
  Absent Closed Reading Editing Failed : Standing

abbrev pub standing_of : Slot → Standing
standing_of Gone = Absent
standing_of Raw = Closed
standing_of (Saved tree) = Closed
standing_of (Live opened) = if opened.writable then Editing else Reading
standing_of Broken = Failed

-- a file of the shelf, by its name and its state
pub record File : Type 0 where
  pub name : List ℕ
  pub slot : Slot

-- the files by their numbers
abbrev pub Files : Type 0
Files = List File

abbrev pub slot_of : Option File → Slot
slot_of None = Gone
slot_of (Some file) = file.slot

-- the state of the file of a number: gone where there is none
abbrev pub slot_at : Files → ℕ → Slot
slot_at files number = slot_of (slice_get files number)

abbrev pub is_gone : Slot → Bool
is_gone Gone = true
is_gone Raw = false
is_gone (Saved tree) = false
is_gone (Live opened) = false
is_gone Broken = false

-- a broken file counts as open until it is closed
abbrev pub is_open : Slot → Bool
is_open Gone = false
is_open Raw = false
is_open (Saved tree) = false
is_open (Live opened) = true
is_open Broken = true

abbrev pub is_broken : Slot → Bool
is_broken Gone = false
is_broken Raw = false
is_broken (Saved tree) = false
is_broken (Live opened) = false
is_broken Broken = true

abbrev pub open_of : Slot → Option Open
open_of Gone = None
open_of Raw = None
open_of (Saved tree) = None
open_of (Live opened) = Some opened
open_of Broken = None

-- the tree that is open under a number
abbrev pub open_at : Files → ℕ → Option Open
open_at files number = open_of (slot_at files number)

-- the first number, counted from k, under which a file of that name stands
abbrev pub number_from : ℕ → Files → List ℕ → Option ℕ
number_from k [] wanted = None
number_from k (file ∷ files) wanted = if is_gone file.slot then number_from (suc k) files wanted else if bytes_eq file.name wanted then Some k else number_from (suc k) files wanted

-- the number of the file of that name
abbrev pub number_of : Files → List ℕ → Option ℕ
number_of files wanted = number_from 0 files wanted

abbrev pub standings : Files → List Standing
standings files = map (λ (file : File). standing_of file.slot) files

-- the name of a file that is there
abbrev pub name_there : File → Option (List ℕ)
name_there file = if is_gone file.slot then None else Some file.name

-- the names of the files that are there, by their numbers
abbrev pub names_there : Files → List (Option (List ℕ))
names_there files = map name_there files

-- what is open are trees
abbrev pub AreTrees : Files → Type 0
AreTrees files = (number : ℕ) (opened : Open) → open_at files number ≡ Some opened → IsTree opened.tree

-- the tree of a file is sound, and that of a closed one is numbered as its next opening numbers it
abbrev pub IsSoundSlot : Slot → Type 0
IsSoundSlot Gone = Unit {0}
IsSoundSlot Raw = Unit {0}
IsSoundSlot (Saved tree) = IsTree tree × IsNumbered tree
IsSoundSlot (Live opened) = IsTree opened.tree
IsSoundSlot Broken = Unit {0}

abbrev pub AreSound : Files → Type 0
AreSound files = (number : ℕ) → IsSoundSlot (slot_at files number)

-- a file of a shelf before the first call: closed, with any bytes, under its name; or discarded
abbrev pub entry_file : Option (List ℕ) → File
entry_file None = record { name = []; slot = Gone }
entry_file (Some name) = record { name = name; slot = Raw }

-- the files of a shelf before the first call, by the names that stand on it
abbrev pub entry_files : List (Option (List ℕ)) → Files
entry_files names = map entry_file names

abbrev pub with_slot_of : File → Slot → File
with_slot_of file slot = record file { slot = slot }

-- the files with another state under a number
abbrev pub with_slot : Files → ℕ → Slot → Files
with_slot [] number slot = []
with_slot (file ∷ files) zero slot = with_slot_of file slot ∷ files
with_slot (file ∷ files) (suc number) slot = file ∷ with_slot files number slot

-- what a device holds, where it tells; the placement by which it holds the open tree, which is meant where it tells; and its counts of faults, of lost writes, of reads and of writes
pub record Device : Type 0 where
  pub held : Option (List ℕ)
  pub placement : Placement
  pub faults : ℕ
  pub lost : ℕ
  pub reads : ℕ
  pub writes : ℕ

-- the device without its placement
abbrev pub state_of : Device → DeviceState
state_of device = record { held = device.held; faults = device.faults; lost = device.lost; reads = device.reads; writes = device.writes }

-- the devices by the numbers of their files
abbrev pub Devices : Type 0
Devices = List Device

abbrev pub no_device : Device
no_device = record { held = None; placement = record { parts = []; heap = record { gaps = []; end = 0 } }; faults = 0; lost = 0; reads = 0; writes = 0 }

abbrev pub device_at : Devices → ℕ → Device
device_at devices number = slice_index_or devices number no_device

abbrev pub end_of_held : Option (List ℕ) → ℕ
end_of_held None = 0
end_of_held (Some image) = end_in image

-- the last byte of the file, as its header records it
abbrev pub recorded_end : Device → ℕ
recorded_end device = end_of_held device.held

-- a file is gone, or its device tells what it holds
abbrev pub IsToldAt : Slot → Device → Type 0
IsToldAt slot device = is_gone slot ≡ false → IsSome device.held

-- each file that is not gone has a device that tells what it holds
abbrev pub IsTold : Files → Devices → Type 0
IsTold files devices = (number : ℕ) → IsToldAt (slot_at files number) (device_at devices number)
