-- What the commands print, how they end, and what they leave.
use Rattle.std.specs.Prelude.{◌≡◌, ◌≢◌, ℕ, ◌≤◌, ⊤, Bool, true, false, List, [], ◌∷◌, length, map, codes, Some, None, Option, IsSome, is_some, take, if◌then◌else◌, ◌&&◌, not, Result, Ok, Err}
use Rattle.std.specs.List.{list_all}
use Rattle.std.specs.Option.{option_map, unwrap_or}
use Rattle.std.specs.Str.{bytes_eq}
use Rattle.std.specs.Io.KnownBytes.{Consumes, IsAtEnd}
use Rattle.adf_model.specs.declared.error.AdfError.{AdfError}
use Rattle.adf_model.specs.declared.error.AdfError.TheVariants as error
use Rattle.adf_model.specs.Slots.{Files, Devices}
use Rattle.adf_model.specs.Counts as device
use Rattle.adf_model.specs.Counts.{Rose, OnlyReads}
use Rattle.adf_model.specs.Steps.{AllLaidOut, NoCountFell}
use Rattle.adf_repack.specs.declared.whole.Target.TheVariants as target
use Rattle.adf_tree.specs.Making.{MakesFresh}
use Rattle.cg_io.specs.Device.{DeviceState}
use Rattle.adf_library.specs.Library.{shelf_files, shelf_devices, standing_name, unplaced}
use Rattle.adf_library.specs.Shelf.{SlotState, number_in, device_at, with_device}
use Rattle.layout_report.specs.Reports.{Says, Linted, Mapped}
use Rattle.layout_report.specs.declared.Report.{Report}
use Rattle.layout_report.specs.declared.Report.TheVariants as report
use Rattle.session.specs.Session.{Scene, HasRun, IsBounded}
use Rattle.session.specs.Turns.{calls_of, names_behind}
use Rattle.session.specs.declared.session.Ended.{Ended}
use Rattle.session.specs.declared.session.Ended.TheVariants as ended
use Rattle.sids_readings.specs.declared.rule_sets.RuleSet.{RuleSet}
use Rattle.sids_readings.specs.declared.rule_sets.RuleSet.TheVariants as set
use Rattle.tool_commands.specs.Checks.{Output, CheckEnds}
use Rattle.tool_commands.specs.Copies.{CopyEnds}
use Rattle.tool_commands.specs.Named.{named_files}
use Rattle.tool_commands.specs.Printed.{line, EndsWith}
use Rattle.tool_commands.specs.Salvages.{SalvageEnds}
use Rattle.tool_commands.specs.Trees.{TreeEnds}
use Rattle.tool_commands.specs.declared.named_files.NamedFile.{NamedFile}
use Rattle.tool_commands.specs.declared.status.Status.{Status}
use Rattle.tool_commands.specs.declared.status.Status.TheVariants as status
use Rattle.tool_commands.specs.declared.words.Wanted.{Wanted}
use Rattle.tool_commands.specs.declared.words.Wanted.TheVariants as asks

abbrev pub usage : List ℕ
usage = line (codes "usage: cgns_tool COMMAND WORD..")

-- ---- words

-- a word that may name a file: it is not empty, and does not begin with a dash
abbrev pub is_file_word : List ℕ → Bool
is_file_word word = not (bytes_eq (take 1 word) []) && not (bytes_eq (take 1 word) (45 ∷ []))

-- a word that may name a file, and under which a device stands on the shelf
abbrev pub names_device : List SlotState → List ℕ → Bool
names_device slots word = is_file_word word && is_some (number_in slots word)

-- the rules by which the command of this name checks
abbrev pub rules_named : List ℕ → Option RuleSet
rules_named command =
    if bytes_eq command (codes "check") then Some set.Check else
    if bytes_eq command (codes "check4") then Some set.Check4 else None

-- the command over one file or more that has this name: a session over all, or the check of the first
abbrev pub command_over : List ℕ → List NamedFile → Option Wanted
command_over command files =
    if bytes_eq command (codes "session") then Some asks.Session else
    option_map (λ rules. asks.Check rules files) (rules_named command)

-- `COMMAND FILE..`, with one file or more, each of them on the shelf
abbrev pub wanted_over : List (List ℕ) → List SlotState → Option Wanted
wanted_over (command ∷ file ∷ files) slots = if list_all (names_device slots) (file ∷ files) then command_over command (named_files slots (file ∷ files)) else None
wanted_over words slots = None

-- the number of the device of a file, if the word may name one
abbrev pub file_number : List SlotState → List ℕ → Option ℕ
file_number slots word = if is_file_word word then number_in slots word else None

-- the command over one file that has this name, on the device of this number
abbrev pub command_on : List ℕ → ℕ → Wanted
command_on command number =
    if bytes_eq command (codes "init") then asks.Init false number else
    if bytes_eq command (codes "init-wide") then asks.Init true number else
    if bytes_eq command (codes "lint") then asks.Lint number else
    if bytes_eq command (codes "map") then asks.Map number else
    if bytes_eq command (codes "tree") then asks.Tree number else asks.Nothing

abbrev pub command_wanted : List ℕ → Option ℕ → Wanted
command_wanted command None = asks.Nothing
command_wanted command (Some number) = command_on command number

-- the command over two files that has this name, from the device of one number to that of the other
abbrev pub command_between : List ℕ → ℕ → ℕ → Wanted
command_between command from to =
    if bytes_eq command (codes "repack") then asks.Copy target.Same from to else
    if bytes_eq command (codes "widen") then asks.Copy target.Wide from to else
    if bytes_eq command (codes "narrow") then asks.Copy target.Narrow from to else
    if bytes_eq command (codes "salvage") then asks.Salvage from to else asks.Nothing

abbrev pub between_wanted : List ℕ → Option ℕ → Option ℕ → Wanted
between_wanted command (Some from) (Some to) = command_between command from to
between_wanted command from to = asks.Nothing

-- the command from one file to another one
abbrev pub pair_wanted : List ℕ → List ℕ → List ℕ → List SlotState → Wanted
pair_wanted command from to slots = if bytes_eq from to then asks.Nothing else between_wanted command (file_number slots from) (file_number slots to)

-- `COMMAND FILE` or `COMMAND A B`, with different files that are on the shelf
abbrev pub files_wanted : List (List ℕ) → List SlotState → Wanted
files_wanted (command ∷ file ∷ []) slots = command_wanted command (file_number slots file)
files_wanted (command ∷ from ∷ to ∷ []) slots = pair_wanted command from to slots
files_wanted words slots = asks.Nothing

-- what the words ask for
abbrev pub wanted : List (List ℕ) → List SlotState → Wanted
wanted words slots = unwrap_or (wanted_over words slots) (files_wanted words slots)

-- under a number that is asked for a device stands, under two numbers two devices; a check is of one file or more
abbrev pub IsOnShelf : Wanted → List SlotState → Type 0
IsOnShelf (asks.Check rules files) slots = files ≢ []
IsOnShelf (asks.Copy version from to) slots = (from ≢ to) × IsSome (device_at slots from) × IsSome (device_at slots to)
IsOnShelf (asks.Salvage from to) slots = (from ≢ to) × IsSome (device_at slots from) × IsSome (device_at slots to)
IsOnShelf (asks.Init wide number) slots = IsSome (device_at slots number)
IsOnShelf (asks.Lint number) slots = IsSome (device_at slots number)
IsOnShelf (asks.Map number) slots = IsSome (device_at slots number)
IsOnShelf (asks.Tree number) slots = IsSome (device_at slots number)
IsOnShelf other slots = ⊤

-- ---- init

-- the line that `init` and `init-wide` print: the last byte of the fresh file, or the refusal
abbrev pub init_line : Bool → Result Unit AdfError → List ℕ
init_line wide (Ok done) = line (if wide then codes "ok 607" else codes "ok 511")
init_line wide (Err error.NotEmpty) = line (codes "E25 NotEmpty")
init_line wide (Err error.ReadFault) = line (codes "E02 ReadFault")
init_line wide (Err other) = line (codes "E03 WriteFault")

-- and the status with which they end
abbrev pub init_status : Result Unit AdfError → Status
init_status (Ok done) = status.Done
init_status (Err error.NotEmpty) = status.No
init_status (Err other) = status.DeviceFault

-- what the making of a fresh file of this version did to a device, of which no count fell, and to the sink, by how it ended
abbrev pub InitEnds : Bool → Status → DeviceState → DeviceState → Option (List ℕ) → Option (List ℕ) → ℕ → ℕ → Type 0
InitEnds wide result old new taken now faults later =
    (made : Result Unit AdfError) × MakesFresh wide made old new × device.NoCountFell old new × EndsWith (init_status made) (init_line wide made) result taken now faults later

-- ---- reports on one file

abbrev pub report_status : Report → Status
report_status report.Done = status.Done
report_status report.Broken = status.No
report_status report.DeviceFault = status.DeviceFault
report_status report.SinkFault = status.SinkFault
report_status report.Memory = status.Memory

-- What a report on the file of a device printed, and how it ended; nothing was written, and no count fell.
pub record Reports (says : DeviceState → DeviceState → Report → List ℕ → Type 0) (result : Status) (old new : DeviceState) (taken now : Option (List ℕ)) (faults later : ℕ) : Type 0 where
  pub how : Report
  pub status : result ≡ report_status how
  pub said : Says (says old new) taken now faults later how
  pub rises : faults ≤ later
  pub reads : OnlyReads old new

-- a command on the device of a number did this to it, and all other devices are as they were
abbrev pub OnDevice : ℕ → (DeviceState → DeviceState → Type 0) → List SlotState → List SlotState → Type 0
OnDevice n Did old new = (device : DeviceState) × (after : DeviceState) × (device_at old n ≡ Some device) × (new ≡ with_device old n after) × Did device after

-- ---- copies and salvages

-- A command on the devices of two numbers did this to them, and all other devices are as they were.
pub record OnDevices (from to : ℕ) (Did : DeviceState → DeviceState → DeviceState → DeviceState → Type 0) (old new : List SlotState) : Type 0 where
  pub source : DeviceState
  pub source_after : DeviceState
  pub target : DeviceState
  pub target_after : DeviceState
  pub source_there : device_at old from ≡ Some source
  pub target_there : device_at old to ≡ Some target
  pub left : new ≡ with_device (with_device old from source_after) to target_after
  pub did : Did source source_after target target_after

-- ---- sessions

-- the input and the output of a run: what is left of the one and what the other took, where they tell it, and how often each failed
pub record Streams : Type 0 where
  pub left : Option (List ℕ)
  pub source_faults : ℕ
  pub taken : Option (List ℕ)
  pub sink_faults : ℕ

-- the input was not read
pub record InputStays (before now : Streams) : Type 0 where
  pub left : now.left ≡ before.left
  pub faults : now.source_faults ≡ before.source_faults

-- files and streams, as a session sees them
abbrev pub scene : Files → Devices → Streams → Scene
scene files devices streams = record { files = files; devices = devices; text = streams.left; taken = streams.taken }

abbrev pub session_status : Ended → Status
session_status ended.Done = status.Done
session_status ended.SourceFault = status.SourceFault
session_status ended.SinkFault = status.SinkFault
session_status ended.Memory = status.Memory
session_status ended.TooLong = status.TooLong

-- A session over the files of a shelf, which are closed at first and hold any bytes.
-- It is a run over the lines of the input, and what is printed are the replies of that run: each line whose
-- devices tell their bytes is a step of the abstract trees, and each other one has its cause. Each file that is
-- open at the end, or was closed, is a layout of its tree where its device tells. All files are closed then,
-- and the shelf has the devices as the run left them, under the names that no line discarded.
pub record SessionEnds (how : Ended) (old new : List SlotState) (before now : Streams) : Type 0 where
  pub files : Files
  pub devices : Devices
  pub run : HasRun how (scene (shelf_files old) (shelf_devices old) before) (scene files devices now)
  pub laid_out : AllLaidOut files devices
  pub left : shelf_devices new ≡ map unplaced devices
  pub names : map standing_name new ≡ names_behind (calls_of run.turns) (map standing_name old)
  pub counts : NoCountFell (shelf_devices old) (shelf_devices new)
  pub bound : (bytes : List ℕ) × Consumes before.left now.left bytes × IsBounded how (length bytes)
  pub end : how ≡ ended.Done → IsAtEnd now.left
  pub source : how ≡ ended.SourceFault → Rose before.source_faults now.source_faults
  pub sink : how ≡ ended.SinkFault → Rose before.sink_faults now.sink_faults
  pub source_later : before.source_faults ≤ now.source_faults
  pub sink_later : before.sink_faults ≤ now.sink_faults

-- ---- checks and trees

-- the output of a run
abbrev pub output_of : Streams → Output
output_of streams = record { taken = streams.taken; faults = streams.sink_faults }

-- what is asked for may lack memory before a device is touched: a list of files
abbrev pub MayLack : Wanted → Type 0
MayLack (asks.Check rules files) = ⊤
MayLack other = ⊥

-- ---- all commands

-- how a run ends, and what it leaves on the shelf: without right words the usage line; else the fresh file or a report on the device of that number alone, the lines of its tree, a copy of a file or of its sound part between the devices of two numbers, a check of the first of some files, or a session over all
abbrev pub RunEnds : Wanted → Status → List SlotState → List SlotState → Streams → Streams → Type 0
RunEnds asks.Nothing result old new before now = (new ≡ old) × EndsWith status.Usage usage result before.taken now.taken before.sink_faults now.sink_faults × InputStays before now
RunEnds (asks.Init wide n) result old new before now =
    OnDevice n (λ device after. InitEnds wide result device after before.taken now.taken before.sink_faults now.sink_faults) old new × InputStays before now
RunEnds (asks.Lint n) result old new before now =
    OnDevice n (λ device after. Reports Linted result device after before.taken now.taken before.sink_faults now.sink_faults) old new × InputStays before now
RunEnds (asks.Map n) result old new before now =
    OnDevice n (λ device after. Reports Mapped result device after before.taken now.taken before.sink_faults now.sink_faults) old new × InputStays before now
RunEnds (asks.Tree n) result old new before now = TreeEnds n result old new (output_of before) (output_of now) × InputStays before now
RunEnds (asks.Copy version from to) result old new before now =
    OnDevices from to (λ source source_after target target_after.
    CopyEnds version result source source_after target target_after before.taken now.taken before.sink_faults now.sink_faults) old new
    × InputStays before now
RunEnds (asks.Salvage from to) result old new before now =
    OnDevices from to (λ source source_after target target_after.
    SalvageEnds result source source_after target target_after before.taken now.taken before.sink_faults now.sink_faults) old new
    × InputStays before now
RunEnds (asks.Check rules files) result old new before now = CheckEnds rules files result old new (output_of before) (output_of now) × InputStays before now
RunEnds asks.Session result old new before now = (how : Ended) × (result ≡ session_status how) × SessionEnds how old new before now
