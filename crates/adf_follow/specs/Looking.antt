-- Looks at open files: where these are told, what is found, and why a look fails.
use Rattle.std.specs.Prelude.{◌≡◌, ◌⊎◌, ℕ, true, false, None, IsTrue, Result, Ok, Err}
use Rattle.adf_format.specs.RuleNumbers.{IsRule}
use Rattle.adf_model.specs.declared.error.AdfError.{AdfError}
use Rattle.adf_model.specs.declared.error.AdfError.TheVariants.{Memory, ReadFault, NotOpen, NoSuchFile, LinkMissing, LinkChain, Layout, OtherFile}
use Rattle.adf_model.specs.declared.tree.Edit.{Edit}
use Rattle.adf_model.specs.declared.tree.NodeId.{NodeId}
use Rattle.adf_model.specs.declared.tree.Query.{Query}
use Rattle.adf_model.specs.Counts.{Rose}
use Rattle.adf_model.specs.Slots.{Files, Devices, slot_at, device_at, is_open, IsToldAt, IsTold}
use Rattle.adf_model.specs.Follow.{Spot, link_text_at}
use Rattle.adf_model.specs.Answers.{asked_node, goes_through_links, may_refuse}
use Rattle.adf_model.specs.Steps.{SomeOpenFault, HasReadFault, is_foreign_to_edits}
use Rattle.adf_model.specs.Causes.{SomeBroken, may_refuse_edit}
use Rattle.adf_model.specs.Runs.{MeetsNoLink}
use Rattle.adf_follow.specs.declared.walks.Reached.{Reached}

-- ---- where files are told

-- a file is gone, or its device tells what it holds
abbrev pub IsToldIn : Files → Devices → ℕ → Type 0
IsToldIn files devices number = IsToldAt (slot_at files number) (device_at devices number)

-- the devices that following a node may touch tell what they hold: its own, where it is no link; else all
abbrev pub IsToldFrom : Files → Devices → NodeId → Type 0
IsToldFrom files devices node = IsTold files devices ⊎ (IsToldIn files devices node.file × (link_text_at files node ≡ None))

-- and those that a query may touch
abbrev pub IsToldAsked : Files → Devices → Query → Type 0
IsToldAsked files devices query = IsTold files devices ⊎ (IsToldIn files devices (asked_node query).file × MeetsNoLink files query)

-- ---- what is found

-- What is found is what is wanted, where files are told. Else the look fails under its cause: for want of memory, for a failed read, or, where files are told, with the error that is wanted.
abbrev pub IsFound : {A B : Type 0} → Type 0 → (AdfError → Type 0) → (A → B) → Result B AdfError → Result A AdfError → Type 0
IsFound told Cause view wanted (Ok value) = told → wanted ≡ Ok (view value)
IsFound told Cause view wanted (Err Memory) = Unit {0}
IsFound told Cause view wanted (Err ReadFault) = Cause ReadFault
IsFound told Cause view wanted (Err error) = Cause error × (told → wanted ≡ Err error)

abbrev pub as_is : {A : Type 0} → A → A
as_is a = a

abbrev pub spot_of : Reached → Spot
spot_of reached = record { node = reached.node; left = reached.left }

-- ---- why a look fails

-- the file is open, and a read of its device failed
abbrev pub HasFileFault : Files → ℕ → Devices → Devices → Type 0
HasFileFault files number before now = (is_open (slot_at files number) ≡ true) × Rose (device_at before number).faults (device_at now number).faults

-- a look into one file fails for want of memory, for a failed read, or where bytes are no layout
abbrev pub HasLookCause : Files → ℕ → Devices → Devices → AdfError → Type 0
HasLookCause files number before now Memory = Unit {0}
HasLookCause files number before now ReadFault = HasFileFault files number before now
HasLookCause files number before now (Layout rule place) = IsRule rule
HasLookCause files number before now error = ⊥

-- a walk over files fails as looks do, and where a link leads nowhere or too far, or to a broken file; for a name that no child has with an error of its own
abbrev pub HasWalkCause : AdfError → Files → Devices → Devices → AdfError → Type 0
HasWalkCause missing files before now Memory = Unit {0}
HasWalkCause missing files before now ReadFault = SomeOpenFault files before now
HasWalkCause missing files before now (Layout rule place) = IsRule rule
HasWalkCause missing files before now AdfError.Broken = SomeBroken files
HasWalkCause missing files before now LinkMissing = Unit {0}
HasWalkCause missing files before now LinkChain = Unit {0}
HasWalkCause missing files before now error = error ≡ missing

-- a query that has entered its file fails as its walk does, and with an error of the node that is reached
abbrev pub HasAskCause : Files → Query → Devices → Devices → AdfError → Type 0
HasAskCause files query before now Memory = Unit {0}
HasAskCause files query before now ReadFault = HasReadFault (goes_through_links query) (asked_node query).file files before now
HasAskCause files query before now (Layout rule place) = IsRule rule
HasAskCause files query before now AdfError.Broken = (goes_through_links query ≡ true) × SomeBroken files
HasAskCause files query before now NotOpen = ⊥
HasAskCause files query before now NoSuchFile = ⊥
HasAskCause files query before now error = IsTrue (may_refuse query error)

-- a node that is reached answers as a look does, or with an error of the query that is of no link
abbrev pub HasFieldCause : Files → Query → ℕ → Devices → Devices → AdfError → Type 0
HasFieldCause files query number before now Memory = Unit {0}
HasFieldCause files query number before now ReadFault = HasFileFault files number before now
HasFieldCause files query number before now (Layout rule place) = IsRule rule
HasFieldCause files query number before now AdfError.Broken = ⊥
HasFieldCause files query number before now NotOpen = ⊥
HasFieldCause files query number before now NoSuchFile = ⊥
HasFieldCause files query number before now LinkMissing = ⊥
HasFieldCause files query number before now LinkChain = ⊥
HasFieldCause files query number before now error = IsTrue (may_refuse query error)

-- a step on one file fails as a look does, or with an error of the edit that is of no other file; a link that it names is missing where links are followed
abbrev pub HasStepCause : Files → Edit → ℕ → Devices → Devices → AdfError → Type 0
HasStepCause files edit number before now Memory = Unit {0}
HasStepCause files edit number before now ReadFault = HasFileFault files number before now
HasStepCause files edit number before now (Layout rule place) = IsRule rule
HasStepCause files edit number before now AdfError.Broken = ⊥
HasStepCause files edit number before now NotOpen = ⊥
HasStepCause files edit number before now NoSuchFile = ⊥
HasStepCause files edit number before now OtherFile = ⊥
HasStepCause files edit number before now LinkChain = ⊥
HasStepCause files edit number before now error = (is_foreign_to_edits error ≡ false) × IsTrue (may_refuse_edit edit error)

-- ---- the looks

-- a look into one file finds what is wanted where that file is told
abbrev pub IsSeen : {A B : Type 0} → Files → Devices → ℕ → Devices → (A → B) → Result B AdfError → Result A AdfError → Type 0
IsSeen files before number now view wanted result = IsFound (IsToldIn files before number) (HasLookCause files number before now) view wanted result

-- a walk over files finds what is wanted where these are told
abbrev pub IsWalked : {A B : Type 0} → Type 0 → AdfError → Files → Devices → Devices → (A → B) → Result B AdfError → Result A AdfError → Type 0
IsWalked told missing files before now view wanted result = IsFound told (HasWalkCause missing files before now) view wanted result
