-- What the reports on a file print, and how they end.
use Rattle.std.specs.Prelude.{◌≡◌, ◌⊎◌, ℕ, Bool, List, [], ◌∷◌, ◌++◌, length, map, take, codes, Option, Some, None}
use Rattle.std.specs.Io.KnownBytes.{Appends}
use Rattle.cg_io.specs.Cause.{Rose}
use Rattle.cg_io.specs.Device.{DeviceState}
use Rattle.session.specs.Printed.{AppendsPart, EndsWith}
use Rattle.adf_format.specs.RuleNumbers.{IsRule}
use Rattle.adf_format.specs.Tree.{Tree, IsTree, IsNumbered}
use Rattle.adf_format.specs.Placement.{Placement}
use Rattle.adf_format.specs.LaysOut.{LaysOut}
use Rattle.adf_format.specs.Verdict.{ListsNodes}
use Rattle.adf_format.specs.declared.types.Extent.{Extent}
use Rattle.adf_format.specs.declared.types.Format.{Format}
use Rattle.adf_model.specs.declared.error.AdfError.{AdfError}
use Rattle.adf_model.specs.declared.error.AdfError.TheVariants as error
use Rattle.layout_lint.specs.declared.verdict.NodePlace as code
use Rattle.layout_lint.specs.Walks.{node_place}
use Rattle.adf_format.specs.FirstFault.{FirstFault}
use Rattle.layout_lint.specs.declared.owners.Owned.{Owned}
use Rattle.layout_lint.specs.declared.verdict.Verdict.{Verdict}
use Rattle.layout_lint.specs.declared.verdict.Verdict.TheVariants as says
use Rattle.cg_io.specs.Answers.{Told}
use Rattle.layout_lint.specs.Owners.{OwnsAll}
use Rattle.layout_lint.specs.Paths.{IsPath, AreNames}
use Rattle.layout_lint.specs.Verdicts.{IsVerdict, NamesRule}
use Rattle.layout_report.specs.Lines.{verdict_line, fault_line, extent_line, part_line, end_line}
use Rattle.layout_report.specs.declared.Report.{Report}
use Rattle.layout_report.specs.declared.Report.TheVariants as ended

abbrev pub read_fault_line : List ℕ
read_fault_line = codes "E02 ReadFault" ++ 10 ∷ []

-- the whole line was taken, and the report ends so; or the sink failed, and took some first bytes of it
abbrev pub Ends : Report → List ℕ → Report → Option (List ℕ) → Option (List ℕ) → ℕ → ℕ → Type 0
Ends wanted line result taken now faults later = EndsWith ended.SinkFault wanted line result taken now faults later

-- ---- the linter's verdict

-- how the report on a verdict ends
abbrev pub verdict_report : Verdict → Report
verdict_report (says.Sound nodes gaps end format wide) = ended.Done
verdict_report (says.Unsound rule place) = ended.Broken

-- What `lint` answers of a file: its verdict, or that a read failed, or nothing for want of memory.
pub data Linted (old new : DeviceState) : Report → List ℕ → Type 0 where
  said : (verdict : Verdict) → NamesRule verdict → Told old.held (λ image. IsVerdict image verdict) → Linted old new (verdict_report verdict) (verdict_line verdict)
  failed : Rose old.faults new.faults → Linted old new ended.DeviceFault read_fault_line
  lacking : Linted old new ended.Memory []

-- How a report ends on a sink: all of its text was taken, or the sink failed and took some first bytes of it.
pub data Says (said : Report → List ℕ → Type 0) (taken now : Option (List ℕ)) (faults later : ℕ) : Report → Type 0 where
  whole : {report : Report} (text : List ℕ) → said report text → Appends taken now text → Says said taken now faults later report
  torn : (report : Report) (text : List ℕ) → said report text → Rose faults later → AppendsPart taken now text → Says said taken now faults later ended.SinkFault

-- ---- the map of a file

-- The line of an extent, with the path of its node where it is a part of one.
pub data IsLine (tree : Tree) (o : Owned) : List ℕ → Type 0 where
  alone : o.owner ≡ None → IsLine tree o (extent_line o.extent)
  part : (node : ℕ) (path : List ℕ) → o.owner ≡ Some node → IsPath tree node path → IsLine tree o (part_line o.extent path)

-- The lines of some extents, one for each.
pub data AreLines (tree : Tree) : List Owned → List ℕ → Type 0 where
  none : AreLines tree [] []
  next : {o : Owned} {os : List Owned} (line text : List ℕ) → IsLine tree o line → AreLines tree os text → AreLines tree (o ∷ os) (line ++ text)

-- A text is the map of an image that lays out a tree: a line for each extent by place, and one for the last byte.
pub record IsMap (image : List ℕ) (text : List ℕ) : Type 0 where
  pub tree : Tree
  pub placement : Placement
  pub laid_out : LaysOut image tree placement
  pub in_order : IsNumbered tree
  pub owned : List Owned
  pub all : OwnsAll tree placement owned
  pub lines : List ℕ
  pub each : AreLines tree owned lines
  pub whole : text ≡ lines ++ end_line placement.heap.end

-- A text is the lines of the first extents of the map of an image.
pub record BeginsMap (image : List ℕ) (lines : List ℕ) : Type 0 where
  pub tree : Tree
  pub placement : Placement
  pub laid_out : LaysOut image tree placement
  pub in_order : IsNumbered tree
  pub owned : List Owned
  pub all : OwnsAll tree placement owned
  pub count : ℕ
  pub each : AreLines tree (take count owned) lines

-- nothing was said, or the first lines of a map
abbrev pub StartsMap : List ℕ → List ℕ → Type 0
StartsMap image lines = (lines ≡ []) ⊎ BeginsMap image lines

-- What `map` answers of a file: its map, or the first lines of it for want of memory; the first rule that it breaks, or one that it
-- breaks since the verdict, which comes only where the device tells no bytes; or that a read failed.
pub data Mapped (old new : DeviceState) : Report → List ℕ → Type 0 where
  whole : {text : List ℕ} → Told old.held (λ image. IsMap image text) → Mapped old new ended.Done text
  broken : (rule place : ℕ) → IsRule rule → Told old.held (λ image. FirstFault image (record { rule = rule; place = place })) → Mapped old new ended.Broken (fault_line rule place)
  changed : (rule place : ℕ) → IsRule rule → Told old.held (λ image. ⊥) → Mapped old new ended.Broken (fault_line rule place)
  failed : Rose old.faults new.faults → Mapped old new ended.DeviceFault read_fault_line
  lacking : {lines : List ℕ} → Told old.held (λ image. StartsMap image lines) → Mapped old new ended.Memory lines

-- What is said of a refusal: the rule that is broken, or that a read failed.
abbrev pub Refuses : AdfError → Report → Option (List ℕ) → Option (List ℕ) → ℕ → ℕ → Type 0
Refuses (error.Layout rule place) result taken now faults later = Ends ended.Broken (fault_line rule place) result taken now faults later
Refuses error.Memory result taken now faults later = ⊥
Refuses other result taken now faults later = Ends ended.DeviceFault read_fault_line result taken now faults later

-- a text is the lines of some extents of each tree whose nodes stand so and are named so
abbrev pub TellsLines : List code.NodePlace → List (List ℕ) → List Owned → List ℕ → Type 0
TellsLines nodes names some lines = (tree : Tree) (p : Placement) → IsTree tree → IsNumbered tree → ListsNodes tree p (map node_place nodes) → AreNames tree names → AreLines tree some lines

-- What is said of some extents: the lines of all of them and of the last byte, or the first lines for want of memory.
pub data Listed (nodes : List code.NodePlace) (names : List (List ℕ)) (owned : List Owned) (end : ℕ) : Report → List ℕ → Type 0 where
  whole : (lines : List ℕ) → TellsLines nodes names owned lines → Listed nodes names owned end ended.Done (lines ++ end_line end)
  lacking : (k : ℕ) {lines : List ℕ} → TellsLines nodes names (take k owned) lines → Listed nodes names owned end ended.Memory lines
