-- A group of edits on one open file by itself, within which no link is followed: what may be answered, and what is left of the file and its device.
use Rattle.std.specs.Prelude.{◌≡◌, ◌≢◌, ◌⊎◌, IsSome, ℕ, ◌+◌, ◌≤◌, Bool, true, false, List, [], ◌∷◌, length, take, slice_get, Some, Result, Ok, Err}
use Rattle.adf_model.specs.declared.error.AdfError.{AdfError}
use Rattle.adf_model.specs.declared.error.AdfError.TheVariants.{ReadFault, WriteFault, NotOpen, NoSuchFile, LinkChain, OtherFile}
use Rattle.adf_model.specs.declared.error.EditError.{EditError}
use Rattle.adf_model.specs.declared.tree.Edit.{Edit}
use Rattle.adf_model.specs.declared.tree.NodeId.{NodeId}
use Rattle.adf_format.specs.Tree.{Tree}
use Rattle.adf_format.specs.Placement.{Placement}
use Rattle.adf_format.specs.LaysOut.{LaysOut}
use Rattle.adf_model.specs.Edits.{Work, file_step, file_group}
use Rattle.adf_model.specs.Placing.{place_group, group_cost}
use Rattle.adf_model.specs.Untouched.{KeepsRest, KeepsTail}
use Rattle.adf_model.specs.Torn.{TornGroup}
use Rattle.adf_model.specs.Slots.{Open, Slot, Standing, Device}
use Rattle.adf_model.specs.Slots.Slot.{Gone, Raw, Saved, Live}
use Rattle.adf_model.specs.Steps.{OnlyRead, NoneFell, WriteFailed, IsMemoryOr, is_foreign_to_edits, IsFileRefusal}
use Rattle.adf_model.specs.Counts.{Rose}
use Rattle.adf_model.specs.Causes.{IsIndex}

-- ---- the edits that are done

abbrev pub done_then : Result Tree AdfError → (Tree → List (Edit × Tree)) → List (Edit × Tree)
done_then (Ok tree) next = next tree
done_then (Err error) next = []

-- the edits of one file that are done before the first that is refused, each with the tree that it leaves
abbrev pub done_by : Bool → Tree → List Edit → List (Edit × Tree)
done_by writable tree [] = []
done_by writable tree (edit ∷ edits) = done_then (file_step writable tree edit)
    (λ (after : Tree). (edit, after) ∷ done_by writable after edits)

abbrev pub done_in : Open → List Edit → List (Edit × Tree)
done_in opened edits = done_by opened.writable opened.tree edits

-- some edits are done and have their places
pub record ArePlacedIn (opened : Open) (p : Placement) (edits : List Edit) : Type 0 where
  pub work : Work
  pub made : file_group opened.writable opened.tree edits ≡ Ok work
  pub placement : Placement
  pub placed : place_group opened.limit opened.tree p (done_in opened edits) ≡ Ok placement

-- ---- what may be answered, and what it leaves

-- on a broken file the first edit is refused
abbrev pub IsBrokenGroup : List Edit → Result (List NodeId) EditError → Type 0
IsBrokenGroup [] result = result ≡ Ok []
IsBrokenGroup (edit ∷ edits) (Ok created) = ⊥
IsBrokenGroup (edit ∷ edits) (Err refusal) = (refusal.at ≡ 0) × IsMemoryOr AdfError.Broken refusal.error

-- a call that leaves the file and its parts, and writes nothing
pub record LeavesFile (slot : Slot) (before now : Device) (after : Slot) : Type 0 where
  pub stands : after ≡ slot
  pub device : OnlyRead before now
  pub placed : now.placement ≡ before.placement

-- the edits before a refused one are done and placed, and it is refused there: with want of memory; a failed read behind its tests at entry; a take that the heap rule refuses, behind all its tests; or as the tree refuses it
pub record FileStops (opened : Open) (before : Device) (edits : List Edit) (at : ℕ) (error : AdfError) (now : Device) (after : Slot) : Type 0 where
  pub so_far : ArePlacedIn opened before.placement (take at edits)
  pub edit : Edit
  pub reached : slice_get edits at ≡ Some edit
  pub refused : IsFileRefusal false opened.writable opened.limit so_far.work.tree so_far.placement edit error
  pub fault : error ≡ ReadFault → Rose before.faults now.faults
  pub leaves : LeavesFile (Live opened) before now after

-- the device is written at most as often as the edits cost, and no count of it falls
pub record IsWritten (opened : Open) (before : Device) (edits : List Edit) (now : Device) : Type 0 where
  pub counts : NoneFell before now
  pub cost : now.writes ≤ before.writes + group_cost opened.limit opened.tree before.placement (done_in opened edits)
  pub told : IsSome before.held → IsSome now.held

-- all edits are done and placed, and the commit failed: the file is broken, and its device holds a first part of what was to be written
pub record FileBreaks (opened : Open) (before : Device) (edits : List Edit) (at : ℕ) (now : Device) (after : Slot) : Type 0 where
  pub all : ArePlacedIn opened before.placement edits
  pub some : edits ≢ []
  pub index : at ≡ length edits
  pub stands : after ≡ Slot.Broken
  pub failed : WriteFailed before now
  pub written : IsWritten opened before edits now
  pub torn : (old new : List ℕ) → before.held ≡ Some old → now.held ≡ Some new
      → TornGroup opened.limit opened.tree before.placement (done_in opened edits) all.work.tree old new

-- all edits are done: where the parts stand, what the device then holds, and what is left of it; a group without edits writes nothing
pub record FileEdited (opened : Open) (before : Device) (edits : List Edit) (created : List NodeId) (now : Device) (after : Slot) : Type 0 where
  pub work : Work
  pub made : file_group opened.writable opened.tree edits ≡ Ok work
  pub nodes : created ≡ work.created
  pub stands : after ≡ Live (record opened { tree = work.tree })
  pub placed : place_group opened.limit opened.tree before.placement (done_in opened edits) ≡ Ok now.placement
  pub written : IsWritten opened before edits now
  pub still : edits ≡ [] → OnlyRead before now
  pub laid_out : (old new : List ℕ) → before.held ≡ Some old → now.held ≡ Some new → LaysOut new work.tree now.placement
  pub rest : (old new : List ℕ) → before.held ≡ Some old → now.held ≡ Some new
      → KeepsRest opened.limit opened.tree before.placement (done_in opened edits) now.placement old new × KeepsTail now.placement.heap.end old new

abbrev pub IsFileGroupRefusal : Open → Device → List Edit → ℕ → AdfError → Device → Slot → Type 0
IsFileGroupRefusal opened before edits at WriteFault now after = FileBreaks opened before edits at now after
IsFileGroupRefusal opened before edits at error now after = FileStops opened before edits at error now after

-- what may be answered to a group of edits on one open file, and what it then leaves of the file and its device
abbrev pub IsFileGroup : Slot → Device → List Edit → Result (List NodeId) EditError → Device → Slot → Type 0
IsFileGroup (Live opened) before edits (Ok created) now after = FileEdited opened before edits created now after
IsFileGroup (Live opened) before edits (Err refusal) now after = IsFileGroupRefusal opened before edits refusal.at refusal.error now after
IsFileGroup Slot.Broken before edits result now after = IsBrokenGroup edits result × LeavesFile Slot.Broken before now after
IsFileGroup Gone before edits result now after = ⊥
IsFileGroup Raw before edits result now after = ⊥
IsFileGroup (Saved tree) before edits result now after = ⊥

-- ---- also where the device tells nothing

-- the errors of files and links, which one file has not
abbrev pub is_of_many_files : AdfError → Bool
is_of_many_files NotOpen = true
is_of_many_files NoSuchFile = true
is_of_many_files LinkChain = true
is_of_many_files OtherFile = true
is_of_many_files error = false

-- a file that is not broken refuses a group under its cause
abbrev pub HasFileCause : Device → Device → AdfError → Type 0
HasFileCause before now ReadFault = Rose before.faults now.faults
HasFileCause before now AdfError.Broken = ⊥
HasFileCause before now error = (is_foreign_to_edits error ≡ false) × (is_of_many_files error ≡ false)

-- a call that leaves how a file stands, and its parts, and writes nothing
pub record LeavesStanding (standing : Standing) (before now : Device) (after : Standing) : Type 0 where
  pub stands : after ≡ standing
  pub device : OnlyRead before now
  pub placed : now.placement ≡ before.placement

-- edits that are done were of a file that may be edited
pub record DoneAnyway (standing : Standing) (before : Device) (edits : List Edit) (now : Device) (after : Standing) : Type 0 where
  pub stands : after ≡ standing
  pub counts : NoneFell before now
  pub may : (edits ≡ []) ⊎ (standing ≡ Standing.Editing)
  pub still : edits ≡ [] → OnlyRead before now

-- and so was one that a failed write has broken
pub record BreaksAnyway (standing : Standing) (before : Device) (edits : List Edit) (now : Device) (after : Standing) : Type 0 where
  pub stands : after ≡ Standing.Failed
  pub counts : NoneFell before now
  pub may : standing ≡ Standing.Editing
  pub some : edits ≢ []
  pub failed : WriteFailed before now

abbrev pub RefusedAnyway : Standing → Device → List Edit → AdfError → Device → Standing → Type 0
RefusedAnyway standing before edits WriteFault now after = BreaksAnyway standing before edits now after
RefusedAnyway standing before edits error now after = HasFileCause before now error × LeavesStanding standing before now after

abbrev pub FileGroupAnyway : Standing → Device → List Edit → Result (List NodeId) EditError → Device → Standing → Type 0
FileGroupAnyway Standing.Failed before edits result now after = IsBrokenGroup edits result × LeavesStanding Standing.Failed before now after
FileGroupAnyway standing before edits (Ok created) now after = DoneAnyway standing before edits now after
FileGroupAnyway standing before edits (Err refusal) now after = IsIndex edits refusal.at refusal.error × RefusedAnyway standing before edits refusal.error now after
