-- What a run of the tool gives where nothing fails.
use Rattle.std.specs.Prelude.{◌≡◌, ◌≢◌, ◌⊎◌, ℕ, ◌^◌, ◌<◌, ◌≤◌, Bool, List, [], length, Option, Some, if◌then◌else◌}
use Rattle.std.specs.List.{list_any}
use Rattle.adf_format.specs.Checks.{Fault}
use Rattle.adf_format.specs.FirstFault.{FirstFault, Visit, is_wide}
use Rattle.adf_format.specs.SoundPart.{IsSoundPart, tree_of}
use Rattle.adf_format.specs.LaysOut.{LaysOut}
use Rattle.adf_format.specs.Packed.{packed_length}
use Rattle.adf_format.specs.Placement.{Placement}
use Rattle.adf_format.specs.Tree.{Tree}
use Rattle.adf_library.specs.Library.{shelf_devices, shelf_files}
use Rattle.adf_library.specs.Shelf.{SlotState, device_at}
use Rattle.adf_model.specs.Counts.{Rose}
use Rattle.adf_model.specs.Steps.{NoFault}
use Rattle.adf_repack.specs.Given.{in_version}
use Rattle.cg_io.specs.Answers.{Told}
use Rattle.adf_repack.specs.Measures.{HoldsNone, HoldsSome}
use Rattle.adf_repack.specs.Repacks.{FitsVersion, HasLongDimension, width_for}
use Rattle.adf_repack.specs.declared.whole.Target.{Target}
use Rattle.adf_salvage.specs.Parts.{HasNoPart}
use Rattle.cg_io.specs.Device.{DeviceState}
use Rattle.adf_model.specs.Slots.{Files, Devices, IsTold}
use Rattle.sids_readings.specs.RuleSets.{rules_of}
use Rattle.sids_rules.specs.Findings.{findings_by}
use Rattle.sids_rules.specs.Rules.{Rule}
use Rattle.tool_commands.specs.Checks.{found_status}
use Rattle.tool_commands.specs.Openings.{Outcome, AreOpened, HaveMemory, IsFirstClosed, Opens, first_number, is_refused}
use Rattle.tool_commands.specs.Tool.{Streams}
use Rattle.tool_commands.specs.declared.named_files.NamedFile.{NamedFile}
use Rattle.tool_commands.specs.declared.status.Status.{Status}
use Rattle.tool_commands.specs.declared.status.Status.TheVariants as status
use Rattle.tool_commands.specs.declared.words.Wanted.{Wanted}
use Rattle.tool_commands.specs.declared.words.Wanted.TheVariants as asks

-- No call of a device, of the input or of the output failed in a run.
pub record IsQuiet (old new : List SlotState) (before now : Streams) : Type 0 where
  pub devices : NoFault (shelf_devices old) (shelf_devices new)
  pub source : Rose before.source_faults now.source_faults → ⊥
  pub sink : Rose before.sink_faults now.sink_faults → ⊥

-- the command is done where the one holds, and its answer is no where the other does
abbrev pub IsDecided : Status → Type 0 → Type 0 → Type 0
IsDecided result Yes No = ((result ≡ status.Done) × Yes) ⊎ ((result ≡ status.No) × No)

-- ---- one file

-- what holds of the device under a number
abbrev pub OfDevice : List SlotState → ℕ → (DeviceState → Type 0) → Type 0
OfDevice slots n P = (device : DeviceState) × (device_at slots n ≡ Some device) × P device

abbrev pub HasTree : List ℕ → Type 0
HasTree image = (tree : Tree) × (placement : Placement) × LaysOut image tree placement

abbrev pub HasFault : List ℕ → Type 0
HasFault image = (fault : Fault) × FirstFault image fault

-- a fresh file is made exactly on a device that holds nothing
abbrev pub GivesFresh : Status → DeviceState → Type 0
GivesFresh result device = IsDecided result (HoldsNone device.held) (HoldsSome device.held)

-- a report is done exactly on a file that lays out a tree
abbrev pub GivesReport : Status → DeviceState → Type 0
GivesReport result device = IsDecided result (Told device.held HasTree) (Told device.held HasFault)

-- ---- copies

-- Why there is no room for a copy of a tree in a version on a device: a dimension has too many digits for it, the device holds bytes, or the copy is too long.
pub data HasNoRoom (wide : Bool) (tree : Tree) (target : DeviceState) : Type 0 where
  long : HasLongDimension wide tree → HasNoRoom wide tree target
  full : FitsVersion wide tree → HoldsSome target.held → HasNoRoom wide tree target
  large : FitsVersion wide tree → 2 ^ 44 < packed_length (in_version wide tree) → HasNoRoom wide tree target

-- a tree fits a version, and so does the length of its copy
abbrev pub HasRoom : Bool → Tree → Type 0
HasRoom wide tree = FitsVersion wide tree × (packed_length (in_version wide tree) ≤ 2 ^ 44)

-- a file lays out a tree of which there is a copy
abbrev pub HasCopy : Target → List ℕ → Type 0
HasCopy wanted image = (tree : Tree) × (placement : Placement) × LaysOut image tree placement × HasRoom (width_for wanted tree.wide) tree

-- a file lays out no tree, or one for a copy of which there is no room on a device
abbrev pub HasNoCopy : Target → DeviceState → List ℕ → Type 0
HasNoCopy wanted target image = HasFault image ⊎ ((tree : Tree) × (placement : Placement) × LaysOut image tree placement × HasNoRoom (width_for wanted tree.wide) tree target)

-- a copy is made where the file has one and the device holds nothing
abbrev pub GivesCopy : Target → Status → DeviceState → DeviceState → Type 0
GivesCopy wanted result source target = IsDecided result (HoldsNone target.held × Told source.held (HasCopy wanted)) (Told source.held (HasNoCopy wanted target))

-- ---- salvages

-- no node of a damaged file is left out, and of those that are kept there is a copy
abbrev pub HasWholePart : List ℕ → Type 0
HasWholePart image = (kept : List Visit) × IsSoundPart image kept [] × HasRoom (is_wide image) (tree_of image kept)

-- Why a salvage does not copy all of a file: it has no sound part, there is no room for this on the device, or a node is left out.
pub data HasNoWholePart (target : DeviceState) (image : List ℕ) : Type 0 where
  lost : (fault : Fault) → HasNoPart image fault → HasNoWholePart target image
  roomless : (kept : List Visit) (out : List (Visit × Fault)) → IsSoundPart image kept out → HasNoRoom (is_wide image) (tree_of image kept) target → HasNoWholePart target image
  left_out : (kept : List Visit) (out : List (Visit × Fault)) → IsSoundPart image kept out → out ≢ [] → HasNoWholePart target image

-- a salvage is done where it copies all nodes
abbrev pub GivesSalvage : Status → DeviceState → DeviceState → Type 0
GivesSalvage result source target = IsDecided result (HoldsNone target.held × Told source.held HasWholePart) (Told source.held (HasNoWholePart target))

-- ---- sessions

-- a session is done, but for one of which the input is too long
abbrev pub GivesSession : Status → Option (List ℕ) → Type 0
GivesSession result left = ((result ≡ status.Done) ⊎ (result ≡ status.TooLong)) × ((text : List ℕ) → left ≡ Some text → length text < 2 ^ 40 → result ≡ status.Done)

-- ---- checks

-- What a check of the first of some files gives, by how they are opened for reading, each once and in this order, and by how many findings there are.
pub data GivesCheck (rules : List Rule) (named : List NamedFile) (slots : List SlotState) (result : Status) : Type 0 where
  -- the first file is refused
  closed : (outcomes : List Outcome) (files : Files) (devices : Devices) → Opens named outcomes (shelf_files slots) (shelf_devices slots) devices files
      → IsFirstClosed outcomes → HaveMemory outcomes → result ≡ status.No → GivesCheck rules named slots result
  -- it is done where no file is refused and there are no findings
  checked : (outcomes : List Outcome) (files : Files) (devices : Devices) → Opens named outcomes (shelf_files slots) (shelf_devices slots) devices files → AreOpened named outcomes
      → (found : ℕ) → (IsTold files devices → found ≡ length (findings_by rules files (first_number named)))
      → result ≡ (if list_any is_refused outcomes then status.No else found_status found) → GivesCheck rules named slots result
  -- files that do not tell may be told as refused
  silent : (outcomes : List Outcome) (files : Files) (devices : Devices) → Opens named outcomes (shelf_files slots) (shelf_devices slots) devices files → AreOpened named outcomes
      → (IsTold files devices → ⊥) → result ≡ status.No → GivesCheck rules named slots result

-- ---- trees

-- The lines of the tree of a file: they are done exactly on a file that lays out a tree, but that files on a shelf of which not all tell may be told as refused.
abbrev pub GivesTree : ℕ → List SlotState → Status → Type 0
GivesTree n slots result = IsDecided result (OfDevice slots n (λ device. Told device.held HasTree))
    (OfDevice slots n (λ device. Told device.held HasFault) ⊎ (IsTold (shelf_files slots) (shelf_devices slots) → ⊥))

-- ---- all commands

-- what the words, the devices and the input give
abbrev pub Gives : Wanted → List SlotState → Streams → Status → Type 0
Gives asks.Nothing slots streams result = result ≡ status.Usage
Gives (asks.Init wide n) slots streams result = OfDevice slots n (GivesFresh result)
Gives (asks.Lint n) slots streams result = OfDevice slots n (GivesReport result)
Gives (asks.Map n) slots streams result = OfDevice slots n (GivesReport result)
Gives (asks.Tree n) slots streams result = GivesTree n slots result
Gives (asks.Copy version from to) slots streams result = OfDevice slots from (λ source. OfDevice slots to (λ target. GivesCopy version result source target))
Gives (asks.Salvage from to) slots streams result = OfDevice slots from (λ source. OfDevice slots to (λ target. GivesSalvage result source target))
Gives (asks.Check set files) slots streams result = GivesCheck (rules_of set) files slots result
Gives asks.Session slots streams result = GivesSession result streams.left
