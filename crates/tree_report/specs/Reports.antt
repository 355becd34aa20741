-- What the lines of a tree add to an output, and how they end.
use Rattle.std.specs.Prelude.{◌≡◌, ℕ, IsTrue, List, [], ◌∷◌, ◌++◌, take, map, Option, Result, Ok, Err}
use Rattle.std.specs.Io.KnownBytes.{Appends}
use Rattle.adf_format.specs.RuleNumbers.{IsRule}
use Rattle.adf_model.specs.declared.error.AdfError.{AdfError}
use Rattle.adf_model.specs.declared.error.AdfError.TheVariants.{Memory, ReadFault, Layout}
use Rattle.adf_model.specs.Slots.{Files, Devices}
use Rattle.adf_model.specs.Steps.{SomeOpenFault, is_query_error}
use Rattle.cg_io.specs.Cause.{Rose}
use Rattle.session.specs.Printed.{AppendsPart}
use Rattle.tree_report.specs.declared.fault.TreeFault.{TreeFault}
use Rattle.tree_report.specs.declared.fault.TreeFault.TheVariants as fault
use Rattle.tree_report.specs.declared.fields.Fields.{Fields}
use Rattle.tree_report.specs.declared.stack.Stop.{Stop}
use Rattle.tree_report.specs.Level.{Level}
use Rattle.tree_report.specs.Levels.{to_come, place_of, still_to_come}
use Rattle.tree_report.specs.Lines.{printed_way, fields_text, line_at, printed_lines}
use Rattle.tree_report.specs.Sights.{tree_in, AllThere}

-- what a refused question is to a report
abbrev pub fault_of : AdfError → TreeFault
fault_of Memory = fault.Memory
fault_of ReadFault = fault.Read
fault_of error = fault.Core error

-- a first part of the lines, which may end in the middle of one
abbrev pub IsPartOf : List (List ℕ) → List ℕ → Type 0
IsPartOf lines text = (rest : List ℕ) × (printed_lines lines ≡ text ++ rest)

-- a number of whole first lines
abbrev pub AreFirstOf : List (List ℕ) → List ℕ → Type 0
AreFirstOf lines text = (n : ℕ) × (text ≡ printed_lines (take n lines))

-- how a report of these lines ends, by the text that it added: over devices that tell
abbrev pub IsReport : List (List ℕ) → Result Unit TreeFault → List ℕ → Type 0
IsReport lines (Ok done) text = text ≡ printed_lines lines
IsReport lines (Err fault.Memory) text = IsPartOf lines text
IsReport lines (Err fault.Read) text = AreFirstOf lines text
IsReport lines (Err fault.Sink) text = IsPartOf lines text
IsReport lines (Err (fault.Core error)) text = ⊥

-- a report of these lines, where the sink tells what it took
abbrev pub Reports : List (List ℕ) → Result Unit TreeFault → Option (List ℕ) → Option (List ℕ) → Type 0
Reports lines result taken now = (text : List ℕ) × Appends taken now text × IsReport lines result text

-- a refusal of the core is an error of questions, other than want of memory and a failed read
abbrev pub IsCore : AdfError → Type 0
IsCore Memory = ⊥
IsCore ReadFault = ⊥
IsCore (Layout rule place) = IsRule rule
IsCore error = IsTrue (is_query_error error)

-- a failed read has a fault of the device of an open file as its cause, a failed output one of the sink
abbrev pub HasTreeCause : Files → Devices → Devices → ℕ → ℕ → Result Unit TreeFault → Type 0
HasTreeCause files before now faults later (Ok done) = Unit {0}
HasTreeCause files before now faults later (Err fault.Memory) = Unit {0}
HasTreeCause files before now faults later (Err fault.Read) = SomeOpenFault files before now
HasTreeCause files before now faults later (Err fault.Sink) = Rose faults later
HasTreeCause files before now faults later (Err (fault.Core error)) = IsCore error

-- ---- one node

-- the line of a node was printed whole; or nothing was, for want of memory; or the sink failed and took a first part of it
abbrev pub Says : List ℕ → Fields → Result Unit TreeFault → Option (List ℕ) → Option (List ℕ) → ℕ → ℕ → Type 0
Says way fields (Ok done) taken now faults later = Appends taken now (printed_way way ++ fields_text fields ++ 10 ∷ [])
Says way fields (Err fault.Memory) taken now faults later = (now ≡ taken)
Says way fields (Err fault.Sink) taken now faults later = Rose faults later × AppendsPart taken now (printed_way way ++ fields_text fields ++ 10 ∷ [])
Says way fields (Err error) taken now faults later = ⊥

-- the line of a node is printed, and its children wait before the others; else what is printed is a first part of the lines to come
abbrev pub Visits : Files → ℕ → Stop → List Level → Result Unit TreeFault → List Level → List ℕ → Type 0
Visits files file stop before (Ok done) after text =
    AllThere files file after
    × (still_to_come (tree_in files file) stop before ≡ place_of stop ∷ to_come (tree_in files file) after)
    × (text ≡ printed_lines (line_at (tree_in files file) (place_of stop) ∷ []))
Visits files file stop before (Err refused) after text =
    IsReport (map (line_at (tree_in files file)) (still_to_come (tree_in files file) stop before)) (Err refused) text
