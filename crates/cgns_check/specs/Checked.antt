-- What a check adds to its output and answers, and what a walk gives.
use Rattle.std.specs.Prelude.{◌≡◌, ℕ, true, false, IsTrue, List, [], ◌∷◌, ◌++◌, length, take, reverse, Option, Some, None, IfSome, Result, Ok, Err}
use Rattle.std.specs.List.{flat_map, AllByRecursion}
use Rattle.std.specs.Io.KnownBytes.{Appends}
use Rattle.adf_model.specs.declared.error.AdfError.{AdfError}
use Rattle.adf_model.specs.declared.error.AdfError.TheVariants.{Memory, ReadFault, Layout}
use Rattle.adf_format.specs.RuleNumbers.{IsRule}
use Rattle.adf_model.specs.Slots.{Files, Devices, slot_at, is_open, is_broken}
use Rattle.adf_model.specs.Steps.{SomeOpenFault, is_query_error}
use Rattle.cg_io.specs.Cause.{Rose}
use Rattle.session.specs.Printed.{AppendsPart}
use Rattle.sids_rules.specs.Rules.{Rule}
use Rattle.sids_rules.specs.SeenNodes.{IsSeen}
use Rattle.sids_rules.specs.Walk.{Visit, has_note, to_come}
use Rattle.sids_rules.specs.Findings.{findings_at, findings_by, lines_at, lines_by, printed_lines, printed_path}
use Rattle.cgns_check.specs.declared.fault.CheckFault.{CheckFault}
use Rattle.cgns_check.specs.declared.fault.CheckFault.TheVariants as fault
use Rattle.cgns_check.specs.declared.item.WalkItem.{WalkItem}
use Rattle.cgns_check.specs.declared.walk.Begun.{Begun}
use Rattle.cgns_check.specs.Levels.{Stage, Starts, Goes, waiting, waiting_at}

-- ---- walks

-- an item is a seen node: its fields, its printed path and its note
pub record IsItem (files : Files) (visit : Visit) (item : WalkItem) : Type 0 where
  pub seen : item.seen ≡ visit.seen
  pub path : item.path ≡ printed_path visit.path
  pub note : item.note ≡ has_note files visit

-- the next of the nodes to come, or none exactly after the last; want of memory and a failed read give nothing
abbrev pub IsNext : Files → List Visit → Result (Option WalkItem) AdfError → List Visit → Type 0
IsNext files before (Ok (Some item)) after = (visit : Visit) × (before ≡ visit ∷ after) × IsItem files visit item
IsNext files before (Ok None) after = (before ≡ []) × (after ≡ [])
IsNext files before (Err Memory) after = after ≡ before
IsNext files before (Err ReadFault) after = after ≡ before
IsNext files before (Err error) after = ⊥

-- what is given may be asked of rules
abbrev pub IsSeenItem : Files → Option WalkItem → Type 0
IsSeenItem files found = IfSome found (λ item. IsSeen files item.seen)

-- a walk may go on: the file that it begins is open and not broken, or each node that waits may be asked of rules
abbrev pub MayGoOn : Files → Stage → Type 0
MayGoOn files (Starts file) = (is_open (slot_at files file) ≡ true) × (is_broken (slot_at files file) ≡ false)
MayGoOn files (Goes levels) = AllByRecursion (λ (visit : Visit). IsSeen files visit.seen) (waiting_at files levels)

-- a first question is answered, or refused for want of memory or a failed read
abbrev pub IsMet : Result Unit AdfError → Type 0
IsMet (Ok done) = Unit {0}
IsMet (Err Memory) = Unit {0}
IsMet (Err ReadFault) = Unit {0}
IsMet (Err error) = ⊥

-- the nodes that a walk has still to come to, in tree order
unfoldable pub still_to_come : Files → Stage → List Visit
still_to_come files stage = to_come files (waiting files stage)

abbrev pub levels_of : Begun → Stage
levels_of begun = Goes (reverse begun.frames.items)

-- the first node of a file was given, and what is left are the nodes below it
abbrev pub IsBegun : Files → ℕ → Result Begun AdfError → Type 0
IsBegun files file (Ok begun) = MayGoOn files (levels_of begun) × IsSeen files begun.item.seen × IsNext files (still_to_come files (Starts file)) (Ok (Some begun.item)) (still_to_come files (levels_of begun))
IsBegun files file (Err Memory) = Unit {0}
IsBegun files file (Err ReadFault) = Unit {0}
IsBegun files file (Err error) = ⊥

-- ---- checks

-- what a refused question is to a check
abbrev pub fault_of : AdfError → CheckFault
fault_of Memory = fault.Memory
fault_of ReadFault = fault.Read
fault_of error = fault.Core error

-- a first part of the lines, which may end in the middle of one
abbrev pub IsPartOf : List (List ℕ) → List ℕ → Type 0
IsPartOf lines text = (rest : List ℕ) × (printed_lines lines ≡ text ++ rest)

-- a number of whole first lines
abbrev pub AreFirstOf : List (List ℕ) → List ℕ → Type 0
AreFirstOf lines text = (n : ℕ) × (text ≡ printed_lines (take n lines))

-- the answer to a check of these lines, by the text that it added: over devices that tell
abbrev pub IsCheck : List (List ℕ) → ℕ → Result ℕ CheckFault → List ℕ → Type 0
IsCheck lines found (Ok n) text = (n ≡ found) × (text ≡ printed_lines lines)
IsCheck lines found (Err fault.Memory) text = IsPartOf lines text
IsCheck lines found (Err fault.Read) text = AreFirstOf lines text
IsCheck lines found (Err fault.Sink) text = IsPartOf lines text
IsCheck lines found (Err (fault.Core error)) text = ⊥

-- the check of a file by some rules, where the sink tells what it took
abbrev pub Checks : List Rule → Files → ℕ → Result ℕ CheckFault → Option (List ℕ) → Option (List ℕ) → Type 0
Checks rules files file result taken now = (text : List ℕ) × Appends taken now text × IsCheck (lines_by rules files file) (length (findings_by rules files file)) result text

-- a refusal of the core is an error of questions, other than want of memory and a failed read
abbrev pub IsCore : AdfError → Type 0
IsCore Memory = ⊥
IsCore ReadFault = ⊥
IsCore (Layout rule place) = IsRule rule
IsCore error = IsTrue (is_query_error error)

-- a failed read has a fault of the device of an open file as its cause, a failed output one of the sink
abbrev pub HasCheckCause : {A : Type 0} → Files → Devices → Devices → ℕ → ℕ → Result A CheckFault → Type 0
HasCheckCause files before now faults later (Ok n) = Unit {0}
HasCheckCause files before now faults later (Err fault.Memory) = Unit {0}
HasCheckCause files before now faults later (Err fault.Read) = SomeOpenFault files before now
HasCheckCause files before now faults later (Err fault.Sink) = Rose faults later
HasCheckCause files before now faults later (Err (fault.Core error)) = IsCore error

-- ---- one node of a check

-- the lines and the number of findings of some seen nodes
abbrev pub lines_of : List Rule → Files → List Visit → List (List ℕ)
lines_of rules files visits = flat_map (λ visit. lines_at rules files visit) visits

abbrev pub count_of : List Rule → Files → List Visit → ℕ
count_of rules files visits = length (flat_map (λ visit. findings_at rules files visit) visits)

-- the lines of the next of the nodes to come are printed, and their findings counted; none exactly after the last; else what is printed is a first part of the lines to come
abbrev pub IsTurn : List Rule → Files → List Visit → Result (Option ℕ) CheckFault → List Visit → List ℕ → Type 0
IsTurn rules files before (Ok (Some n)) after text = (visit : Visit) × (before ≡ visit ∷ after) × (n ≡ length (findings_at rules files visit)) × (text ≡ printed_lines (lines_at rules files visit))
IsTurn rules files before (Ok None) after text = (before ≡ []) × (text ≡ [])
IsTurn rules files before (Err refused) after text = IsCheck (lines_of rules files before) 0 (Err refused) text

-- lines were printed whole; or nothing was, for want of memory; or the sink failed and took a first part of them
abbrev pub Says : List (List ℕ) → Result Unit CheckFault → Option (List ℕ) → Option (List ℕ) → ℕ → ℕ → Type 0
Says lines (Ok done) taken now faults later = Appends taken now (printed_lines lines)
Says lines (Err fault.Memory) taken now faults later = (now ≡ taken)
Says lines (Err fault.Sink) taken now faults later = Rose faults later × AppendsPart taken now (printed_lines lines)
Says lines (Err error) taken now faults later = ⊥
