-- Runs of calls, and what holds of each state on the way.
use Rattle.std.specs.Prelude.{◌≡◌, ◌≢◌, ◌⊎◌, ℕ, false, IsSome, List, [], ◌∷◌, Some, None, Result, Err}
use Rattle.std.specs.List.{AllByRecursion}
use Rattle.adf_model.specs.declared.error.AdfError.TheVariants.{LinkMissing}
use Rattle.adf_model.specs.declared.error.EditError.{EditError}
use Rattle.adf_model.specs.declared.tree.Edit.{Edit}
use Rattle.adf_model.specs.declared.tree.NodeId.{NodeId}
use Rattle.adf_model.specs.declared.tree.Query.{Query}
use Rattle.adf_model.specs.Edits.{file_group}
use Rattle.adf_model.specs.Slots.{Open, Files, Devices, slot_at, device_at, open_at, IsToldAt, IsTold}
use Rattle.adf_model.specs.Follow.{link_text_at}
use Rattle.adf_model.specs.Answers.{asked_node, goes_through_links, searched}
use Rattle.adf_model.specs.OneFile.{StandsIn}
use Rattle.adf_model.specs.Steps.{IsLaidOutAt, Call, Opened, Closed, Discarded, Asked, Changed, Skipped, Misread, Step}
use Rattle.adf_model.specs.Causes.{Anyway}

-- From one state to the next no device falls silent but where its file is gone, and each tree that was laid out is.
pub record KeepsLayouts (files : Files) (before now : Devices) (after : Files) : Type 0 where
  pub told : (number : ℕ) → IsToldAt (slot_at files number) (device_at before number) → IsToldAt (slot_at after number) (device_at now number)
  pub laid_out : (number : ℕ) → IsLaidOutAt (slot_at files number) (device_at before number) → IsLaidOutAt (slot_at after number) (device_at now number)

-- ---- the devices that a call touches

-- a query that meets no link touches the file of its node alone
abbrev pub MeetsNoLink : Files → Query → Type 0
MeetsNoLink files query = (goes_through_links query ≡ false) ⊎ ((searched query ≡ None) × (link_text_at files (asked_node query) ≡ None))

-- a group of edits of one open file, whose device tells, that meets no link
pub record EditsTold (files : Files) (devices : Devices) (edits : List Edit) : Type 0 where
  pub number : ℕ
  pub opened : Open
  pub live : open_at files number ≡ Some opened
  pub told : IsSome (device_at devices number).held
  pub stands : AllByRecursion (StandsIn number) edits
  pub no_link : (at : ℕ) → file_group opened.writable opened.tree edits ≢ Err (record { at = at; error = LinkMissing })

-- the devices that a call may touch tell what they hold: its own, where it meets no link; else all
abbrev pub IsToldFor : Files → Devices → Call → Type 0
IsToldFor files devices (Opened number opening limit result) = IsToldAt (slot_at files number) (device_at devices number)
IsToldFor files devices (Closed number result) = IsToldAt (slot_at files number) (device_at devices number)
IsToldFor files devices (Discarded number result) = IsToldAt (slot_at files number) (device_at devices number)
IsToldFor files devices (Asked query result) = IsTold files devices ⊎ (IsToldAt (slot_at files (asked_node query).file) (device_at devices (asked_node query).file) × MeetsNoLink files query)
IsToldFor files devices (Changed edits result) = IsTold files devices ⊎ EditsTold files devices edits
IsToldFor files devices Skipped = Unit {0}
IsToldFor files devices (Misread error) = Unit {0}

-- ---- runs

-- One call: a step of the trees where the devices that it touches tell; and what it leaves in any case.
pub record MakesBy (Leaves : Files → Devices → Call → Devices → Files → Type 0) (files : Files) (before : Devices) (call : Call) (now : Devices) (after : Files) : Type 0 where
  pub step : IsToldFor files before call → Leaves files before call now after
  pub layouts : KeepsLayouts files before now after
  pub anyway : Anyway files before call now after

abbrev pub Makes : Files → Devices → Call → Devices → Files → Type 0
Makes files before call now after = MakesBy Step files before call now after

-- A call of any kind of answer that makes this group of edits: its answer goes with one of the group, and it leaves what one call of `edit` may leave.
pub record MakesEdits {A : Type 0} (Goes : Result (List NodeId) EditError → A → Type 0) (files : Files) (before : Devices) (edits : List Edit) (answer : A) (now : Devices) (after : Files) : Type 0 where
  pub given : Result (List NodeId) EditError
  pub goes : Goes given answer
  pub made : Makes files before (Changed edits given) now after

-- calls one after another, from these files and devices to those
abbrev pub Run : Files → Devices → List Call → Devices → Files → Type 0
Run files before [] now after = (now ≡ before) × (after ≡ files)
Run files before (call ∷ calls) now after = (middle : Files) × (between : Devices) × Makes files before call between middle × Run middle between calls now after
