-- What a check of the first of some files prints, how it ends, and what it leaves.
use Rattle.std.specs.Prelude.{◌≡◌, ◌⊎◌, ℕ, zero, suc, ◌≤◌, ⊤, if◌then◌else◌, List, [], ◌∷◌, ◌++◌, map, codes, Option, None, Result, Ok, Err}
use Rattle.std.specs.List.{list_any}
use Rattle.std.specs.Io.KnownBytes.{Appends}
use Rattle.adf_model.specs.declared.error.AdfError.TheVariants as error
use Rattle.adf_model.specs.Causes.{OnlyAsks}
use Rattle.adf_model.specs.Counts.{Rose}
use Rattle.adf_model.specs.NamedRules.{NamesRule}
use Rattle.adf_model.specs.Slots.{Files, Devices, IsTold}
use Rattle.adf_model.specs.Spelling.{spelled}
use Rattle.adf_model.specs.Steps.{OthersOnlyRead, SomeFault}
use Rattle.adf_library.specs.Library.{shelf_files, shelf_devices, standing_name, unplaced}
use Rattle.adf_library.specs.Shelf.{SlotState}
use Rattle.call_script.specs.Replies.{refusal_text}
use Rattle.cgns_check.specs.Checked.{Checks, HasCheckCause}
use Rattle.cgns_check.specs.declared.fault.CheckFault.{CheckFault}
use Rattle.cgns_check.specs.declared.fault.CheckFault.TheVariants as fault
use Rattle.session.specs.Printed.{AppendsPart}
use Rattle.sids_readings.specs.RuleSets.{rules_of}
use Rattle.sids_readings.specs.declared.rule_sets.RuleSet.{RuleSet}
use Rattle.sids_rules.specs.Findings.{printed_lines}
use Rattle.sids_rules.specs.Rules.{Rule}
use Rattle.tool_commands.specs.Openings.{Outcome, AreOpened, HaveMemory, IsFirstClosed, Opens, first_number, is_fault, is_refused}
use Rattle.tool_commands.specs.Printed.{line, EndsWith}
use Rattle.tool_commands.specs.declared.named_files.NamedFile.{NamedFile}
use Rattle.tool_commands.specs.declared.status.Status.{Status}
use Rattle.tool_commands.specs.declared.status.Status.TheVariants as status

-- what an output took, where it tells, and how often it failed
pub record Output : Type 0 where
  pub taken : Option (List ℕ)
  pub faults : ℕ

-- ---- statuses

-- the status in place of this one, where some file was not opened: a fault of a device comes before a refusal
abbrev pub status_over : List Outcome → Status → Status
status_over outcomes ended = if list_any is_fault outcomes then status.DeviceFault else if list_any is_refused outcomes then status.No else ended

-- there are findings, or none
abbrev pub found_status : ℕ → Status
found_status zero = status.Done
found_status (suc n) = status.No

-- the status by the outcomes of the openings, the first of which is done, and by the answer of the check
abbrev pub answer_status : List Outcome → Result ℕ CheckFault → Status
answer_status outcomes (Ok found) = status_over outcomes (found_status found)
answer_status outcomes (Err fault.Memory) = status.Memory
answer_status outcomes (Err fault.Sink) = status.SinkFault
answer_status outcomes (Err fault.Read) = status.DeviceFault
answer_status outcomes (Err (fault.Core error)) = status_over outcomes status.No

-- ---- texts

-- the lines of a file that is not opened: which it is, and why
abbrev pub closed_lines : Outcome → NamedFile → List (List ℕ)
closed_lines (Ok done) file = []
closed_lines (Err error) file = (codes "closed " ++ spelled file.word) ∷ refusal_text error ∷ []

-- the lines of all files that are not opened
abbrev pub all_closed_lines : List Outcome → List NamedFile → List (List ℕ)
all_closed_lines [] files = []
all_closed_lines (outcome ∷ outcomes) [] = []
all_closed_lines (outcome ∷ outcomes) (file ∷ files) = closed_lines outcome file ++ all_closed_lines outcomes files

-- as they are printed
abbrev pub closed_text : List Outcome → List NamedFile → List ℕ
closed_text outcomes files = printed_lines (all_closed_lines outcomes files)

-- a text was taken whole
pub record Takes (text : List ℕ) (before now : Output) : Type 0 where
  pub whole : Appends before.taken now.taken text
  pub later : before.faults ≤ now.faults

-- the output failed in the middle of a text
pub record FailsIn (text : List ℕ) (before now : Output) : Type 0 where
  pub part : AppendsPart before.taken now.taken text
  pub rose : Rose before.faults now.faults
  pub later : before.faults ≤ now.faults

-- a last text was printed, and the command ended with the status wanted; or the output failed in the middle of it
abbrev pub Prints : Status → List ℕ → Status → Output → Output → Type 0
Prints wanted text result before now = EndsWith wanted text result before.taken now.taken before.faults now.faults

-- ---- the check of the first file

-- a last line where the files could not be read to the end; for want of memory to spell a refusal it is left out
abbrev pub EndsAnswer : List Outcome → Result ℕ CheckFault → Status → Output → Output → Type 0
EndsAnswer outcomes (Err fault.Read) result before now = Prints (answer_status outcomes (Err fault.Read)) (line (refusal_text error.ReadFault)) result before now
EndsAnswer outcomes (Err (fault.Core error)) result before now =
    Prints (answer_status outcomes (Err (fault.Core error))) (line (refusal_text error)) result before now ⊎ ((result ≡ status.Memory) × (now ≡ before))
EndsAnswer outcomes answer result before now = (result ≡ answer_status outcomes answer) × (now ≡ before)

-- a rule of the layout that an answer names is one
abbrev pub HasNamedRule : Result ℕ CheckFault → Type 0
HasNamedRule (Err (fault.Core error)) = NamesRule error
HasNamedRule answer = ⊤

-- The check of a file by some rules, over open files and their devices: what it adds where the files tell, the cause of an early end where they tell or not, and the last line.
pub record ChecksFile (rules : List Rule) (number : ℕ) (outcomes : List Outcome) (files : Files) (devices now : Devices) (result : Status) (before after : Output) : Type 0 where
  pub answer : Result ℕ CheckFault
  pub said : Output
  pub asks : OnlyAsks files devices now files
  pub told : IsTold files devices → Checks rules files number answer before.taken said.taken
  pub later : before.faults ≤ said.faults
  pub cause : HasCheckCause files devices now before.faults said.faults answer
  pub ends : EndsAnswer outcomes answer result said after

-- How a check ends behind its openings, from these open files and their devices to those.
pub data EndsBehind (rules : List Rule) (named : List NamedFile) (outcomes : List Outcome) (files : Files) (devices now : Devices) (result : Status) (before after : Output) : Type 0 where
  -- memory was wanting to open the files, or to spell which are not: nothing is printed
  lacks : result ≡ status.Memory → now ≡ devices → after ≡ before → EndsBehind rules named outcomes files devices now result before after
  -- the first file is not opened: this is printed, and no more
  closed : IsFirstClosed outcomes → HaveMemory outcomes → now ≡ devices
      → Prints (status_over outcomes status.No) (closed_text outcomes named) result before after → EndsBehind rules named outcomes files devices now result before after
  -- the output failed before the check
  fails : AreOpened named outcomes → result ≡ status.SinkFault → now ≡ devices → FailsIn (closed_text outcomes named) before after → EndsBehind rules named outcomes files devices now result before after
  -- the files that are not opened are printed, and then the findings of the first
  checks : AreOpened named outcomes → (between : Output) → Takes (closed_text outcomes named) before between
      → ChecksFile rules (first_number named) outcomes files devices now result between after → EndsBehind rules named outcomes files devices now result before after

-- A check of the first of these files by a set of rules, from these files and devices to those.
-- The files are opened for reading, each once and in this order: all of them, where the first is opened and memory
-- is not wanting. What is printed, and the status, are by those openings and by the findings of the first file, over
-- the files as they are opened then.
pub record Checked (set : RuleSet) (named : List NamedFile) (result : Status) (files : Files) (before now : Devices) (after : Files) (taken later : Output) : Type 0 where
  pub outcomes : List Outcome
  pub opened : Devices
  pub opens : Opens named outcomes files before opened after
  pub ends : EndsBehind (rules_of set) named outcomes after opened now result taken later

-- A check of the first of these files of a shelf, which are closed at first and hold any bytes. Nothing is written;
-- all files are closed then, and the shelf has its devices under their numbers and names. A device failed where the
-- status says so, and so did the output.
pub record CheckEnds (set : RuleSet) (named : List NamedFile) (result : Status) (old new : List SlotState) (before after : Output) : Type 0 where
  pub files : Files
  pub devices : Devices
  pub checked : Checked set named result (shelf_files old) (shelf_devices old) devices files before after
  pub left : shelf_devices new ≡ map unplaced devices
  pub names : map standing_name new ≡ map standing_name old
  pub reads : OthersOnlyRead None (shelf_devices old) (shelf_devices new)
  pub fault : result ≡ status.DeviceFault → SomeFault (shelf_devices old) (shelf_devices new)
  pub sink : result ≡ status.SinkFault → Rose before.faults after.faults
  pub later : before.faults ≤ after.faults
