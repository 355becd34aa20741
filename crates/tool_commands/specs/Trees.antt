-- What the lines of the tree of a file print, how they end, and what they leave.
use Rattle.std.specs.Prelude.{◌≡◌, ℕ, ◌≤◌, ⊤, List, map, None, Result, Ok, Err}
use Rattle.adf_model.specs.declared.error.AdfError.{AdfError}
use Rattle.adf_model.specs.declared.error.AdfError.TheVariants as error
use Rattle.adf_model.specs.Causes.{OnlyAsks}
use Rattle.adf_model.specs.Counts.{Rose}
use Rattle.adf_model.specs.NamedRules.{NamesRule}
use Rattle.adf_model.specs.Runs.{Makes}
use Rattle.adf_model.specs.Slots.{Files, Devices, IsTold}
use Rattle.adf_model.specs.Steps.{OthersOnlyRead, SomeFault}
use Rattle.adf_library.specs.Library.{shelf_files, shelf_devices, standing_name, unplaced}
use Rattle.adf_library.specs.Shelf.{SlotState}
use Rattle.tree_report.specs.declared.fault.TreeFault.{TreeFault}
use Rattle.tree_report.specs.declared.fault.TreeFault.TheVariants as fault
use Rattle.tree_report.specs.Lines.{tree_lines}
use Rattle.tree_report.specs.Reports as report
use Rattle.tree_report.specs.Sights.{tree_in}
use Rattle.tool_commands.specs.Checks.{Output}
use Rattle.tool_commands.specs.Copies as copies
use Rattle.tool_commands.specs.Openings.{Outcome, opening_for}
use Rattle.tool_commands.specs.declared.status.Status.{Status}
use Rattle.tool_commands.specs.declared.status.Status.TheVariants as status

-- a refusal is told: its line, or nothing for want of memory
abbrev pub Tells : AdfError → Status → Output → Output → Type 0
Tells refusal result before now = copies.Tells (Err refusal) result before.taken now.taken before.faults now.faults

-- a rule of the layout that ends the lines is one
abbrev pub HasNamedRule : Result Unit TreeFault → Type 0
HasNamedRule (Err (fault.Core refusal)) = NamesRule refusal
HasNamedRule answer = ⊤

-- how lines end behind what was printed of them: a failed read, or a refusal of the core, is told; else nothing more is printed
abbrev pub EndsLines : Result Unit TreeFault → Status → Output → Output → Type 0
EndsLines (Ok done) result before now = (result ≡ status.Done) × (now ≡ before)
EndsLines (Err fault.Memory) result before now = (result ≡ status.Memory) × (now ≡ before)
EndsLines (Err fault.Sink) result before now = (result ≡ status.SinkFault) × (now ≡ before)
EndsLines (Err fault.Read) result before now = Tells error.ReadFault result before now
EndsLines (Err (fault.Core refusal)) result before now = Tells refusal result before now

-- The lines of the tree of an open file: what they add where the devices tell, the cause of an early end where they tell or not, and the last line.
pub record PrintsLines (number : ℕ) (result : Status) (files : Files) (devices now : Devices) (after : Files) (taken later : Output) : Type 0 where
  pub answer : Result Unit TreeFault
  pub said : Output
  pub asks : OnlyAsks files devices now after
  pub told : IsTold files devices → report.Reports (tree_lines (tree_in files number)) answer taken.taken said.taken
  pub rises : taken.faults ≤ said.faults
  pub cause : report.HasTreeCause files devices now taken.faults said.faults answer
  pub ends : EndsLines answer result said later

-- what is printed by how the opening of the file ended
abbrev pub PrintsOpened : ℕ → Outcome → Status → Files → Devices → Devices → Files → Output → Output → Type 0
PrintsOpened number (Ok done) result files devices now after taken later = PrintsLines number result files devices now after taken later
PrintsOpened number (Err refusal) result files devices now after taken later = (now ≡ devices) × (after ≡ files) × Tells refusal result taken later

-- A file is opened for reading, and the lines of its tree are printed, or why it is not opened.
pub record PrintsFile (number : ℕ) (result : Status) (files : Files) (before now : Devices) (after : Files) (taken later : Output) : Type 0 where
  pub outcome : Outcome
  pub middle : Files
  pub opened : Devices
  pub opens : Makes files before (opening_for number outcome) opened middle
  pub prints : PrintsOpened number outcome result middle opened now after taken later

-- The lines of the tree of a file of a shelf, whose files are closed at first and hold any bytes. Nothing is written;
-- all files are closed then, and the shelf has its devices under their numbers and names. A device failed where the
-- status says so, and so did the output.
pub record TreeEnds (number : ℕ) (result : Status) (old new : List SlotState) (before after : Output) : Type 0 where
  pub files : Files
  pub devices : Devices
  pub prints : PrintsFile number result (shelf_files old) (shelf_devices old) devices files before after
  pub left : shelf_devices new ≡ map unplaced devices
  pub names : map standing_name new ≡ map standing_name old
  pub reads : OthersOnlyRead None (shelf_devices old) (shelf_devices new)
  pub fault : result ≡ status.DeviceFault → SomeFault (shelf_devices old) (shelf_devices new)
  pub sink : result ≡ status.SinkFault → Rose before.faults after.faults
  pub later : before.faults ≤ after.faults
