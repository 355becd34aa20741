-- What one edit in work answers, and what it leaves of an open file.
use Rattle.std.specs.Prelude.{◌≡◌, ℕ, ◌+◌, ◌≤◌, true, false, IsTrue, List, [], ◌∷◌, ◌++◌, length, Option, Some, None, IfSome, Result, Ok, Err, IfOk, IfErr, OnOk, ⊤}
use Rattle.adf_format.specs.RuleNumbers.{IsRule}
use Rattle.adf_format.specs.Tree.{Tree}
use Rattle.adf_format.specs.Placement.{Placement}
use Rattle.adf_model.specs.Causes.{may_refuse_edit}
use Rattle.adf_model.specs.Counts.{DeviceState, OnlyReads, Rose}
use Rattle.adf_model.specs.Need.{cost}
use Rattle.adf_model.specs.Placing.{chunk_number}
use Rattle.adf_model.specs.Steps.{is_foreign_to_edits}
use Rattle.adf_model.specs.declared.error.AdfError.{AdfError}
use Rattle.adf_model.specs.declared.error.AdfError.TheVariants as error
use Rattle.adf_model.specs.declared.tree.Edit.{Edit}
use Rattle.adf_model.specs.declared.tree.Edit.TheVariants.{Create, Link}
use Rattle.cg_io.specs.Blocks.{Both}
use Rattle.cg_io.specs.Waits.{how_many}
use Rattle.tree_edits.specs.declared.memory.Core.{Core}
use Rattle.tree_edits.specs.Edits.{Does, Refuses, KeepsCore, memory_of}
use Rattle.tree_edits.specs.Rows.{AreNear, Means}
use Rattle.tree_edits.specs.Waiting.{Reaches}
use Rattle.adf_tree.specs.Files.{FileState, accepted}

-- the serial that an edit draws, where so many were drawn before
abbrev pub drawn_by : Edit → ℕ → Option ℕ
drawn_by (Create at wanted label) n = Some n
drawn_by (Link at wanted file path) n = Some n
drawn_by edit n = None

-- Why an edit is refused, also where bytes are not told: want of memory; a failed read; bytes that are no layout; or an error of
-- its kind, and none of other files, of a walk or of a failed write.
abbrev pub IsStepCause : Edit → ℕ → ℕ → AdfError → Type 0
IsStepCause edit before now error.Memory = ⊤
IsStepCause edit before now error.ReadFault = Rose before now
IsStepCause edit before now (error.Layout rule place) = IsRule rule
IsStepCause edit before now error.Broken = ⊥
IsStepCause edit before now error.WriteFault = ⊥
IsStepCause edit before now error.NotOpen = ⊥
IsStepCause edit before now error.NoSuchFile = ⊥
IsStepCause edit before now error.LinkChain = ⊥
IsStepCause edit before now error.OtherFile = ⊥
IsStepCause edit before now e = (is_foreign_to_edits e ≡ false) × IsTrue (may_refuse_edit edit e)

-- the blocks that wait are more by no more than an edit costs, of each tree and placement that bytes and memory mean
abbrev pub IsWithinCost : Edit → Core → List ℕ → List ℕ → List ℕ → Type 0
IsWithinCost edit was before now image =
    (tree : Tree) (p : Placement) → Means image tree p (memory_of was) → how_many now ≤ how_many before + cost tree (chunk_number p) edit

-- What one edit of these very nodes answers over a space, and what it leaves of that and of the memory.
pub record EditAnswers {S : Type 0} (is_sound : S → Type 0) (image : S → Option (List ℕ)) (state : S → DeviceState) (waiting : S → List ℕ)
    (edit : Edit) (was now : Core) (old new : S) (result : Result (Option ℕ) AdfError) : Type 0 where
  pub sound : is_sound new
  pub done : OnOk result (Both (Does edit was now) (image old) (image new))
  pub serial : IfOk result (λ serial. serial ≡ drawn_by edit (length was.rows.items))
  pub allowed : OnOk result (was.writable ≡ true)
  pub refused : IfErr result (λ e. IfSome (image old) (Refuses edit was e))
  pub kept : KeepsCore was now
  pub near : AreNear now.wide now.rows.items
  pub effect : OnlyReads (state old) (state new)
  pub cost : OnOk result (IfSome (image old) (IsWithinCost edit was (waiting old) (waiting new)))
  pub reached : OnOk result (IfSome (image old) (Reaches edit was now (waiting old) (waiting new)))
  pub cause : IfErr result (IsStepCause edit (state old).faults (state new).faults)

-- ---- a file

-- an edit is done in work: it waits behind those before it
pub record Stepped (edit : Edit) (serial : Option ℕ) (old new : FileState) : Type 0 where
  pub live : old.broken ≡ false
  pub broken : new.broken ≡ false
  pub allowed : old.core.writable ≡ true
  pub steps : new.steps ≡ old.steps ++ edit ∷ []
  pub kept : KeepsCore old.core new.core
  pub device : OnlyReads old.device new.device
  pub done : Both (Does edit old.core new.core) old.image new.image
  pub drawn : serial ≡ drawn_by edit (length old.core.rows.items)
  pub cost : IfSome old.image (IsWithinCost edit old.core old.waiting new.waiting)
  pub reached : IfSome old.image (Reaches edit old.core new.core old.waiting new.waiting)

-- the file as it was last committed, with its device as a call has left it
abbrev pub undone_over : DeviceState → FileState → FileState
undone_over device file = record { device = device; image = device.held; waiting = []; core = accepted file.core; steps = []; broken = file.broken }

-- an edit is refused, and all that waited is dropped
pub record Refused (edit : Edit) (e : AdfError) (old new : FileState) : Type 0 where
  pub live : old.broken ≡ false
  pub why : IfSome old.image (Refuses edit old.core e)
  pub cause : IsStepCause edit old.device.faults new.device.faults e
  pub device : OnlyReads old.device new.device
  pub undone : new ≡ undone_over new.device old

-- a broken file refuses each edit at once
abbrev pub StepEnds : Edit → Result (Option ℕ) AdfError → FileState → FileState → Type 0
StepEnds edit (Ok serial) old new = Stepped edit serial old new
StepEnds edit (Err error.Broken) old new = (old.broken ≡ true) × (new ≡ old)
StepEnds edit (Err e) old new = Refused edit e old new
