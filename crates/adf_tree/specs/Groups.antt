-- What a group of edits answers, and what it leaves of an open file.
use Rattle.std.specs.Prelude.{◌≡◌, ◌⊎◌, ℕ, true, false, if◌then◌else◌, List, [], ◌∷◌, ◌++◌, length, take, Some, None, Option, IfSome, IsTrue, slice_get, Result, Ok, Err}
use Rattle.adf_format.specs.Tree.{Tree}
use Rattle.adf_format.specs.Placement.{Placement}
use Rattle.adf_model.specs.Causes.{may_refuse_edit}
use Rattle.adf_model.specs.Counts.{OnlyReads}
use Rattle.adf_model.specs.Edits.{Work, file_group}
use Rattle.adf_model.specs.NamedRules.{NamesRule}
use Rattle.adf_model.specs.FileGroup.{FileBreaks, FileEdited, FileStops, FileGroupAnyway}
use Rattle.adf_model.specs.Slots.{Open, Standing, no_device}
use Rattle.adf_model.specs.Slots.Slot.{Broken, Live}
use Rattle.adf_model.specs.declared.error.AdfError.{AdfError}
use Rattle.adf_model.specs.declared.error.AdfError.TheVariants as error
use Rattle.adf_model.specs.declared.error.EditError.{EditError}
use Rattle.adf_model.specs.declared.tree.Edit.{Edit}
use Rattle.adf_model.specs.declared.tree.Edit.TheVariants.{Create, Link}
use Rattle.adf_model.specs.declared.tree.NodeId.{NodeId}
use Rattle.tree_edits.specs.declared.memory.Core.{Core}
use Rattle.tree_edits.specs.Edits.{memory_of}
use Rattle.tree_edits.specs.Rows.{Means}
use Rattle.cg_io.specs.Blocks.{Both}
use Rattle.adf_tree.specs.Files.{FileState, accepted, DoesAll, device_with}
use Rattle.adf_tree.specs.Steps.{Refused, Stepped, drawn_by, undone_over}

-- the node of a serial that an edit drew, in the file of its parent
abbrev pub made_of : Edit → Option ℕ → List NodeId
made_of (Create at wanted label) (Some n) = record { file = at.file; serial = n } ∷ []
made_of (Link at wanted file path) (Some n) = record { file = at.file; serial = n } ∷ []
made_of edit serial = []

-- a node as a list, where there is one
abbrev pub listed : Option NodeId → List NodeId
listed None = []
listed (Some node) = node ∷ []

-- the nodes that an edit makes, where so many serials were drawn before
abbrev pub made_by : Edit → ℕ → List NodeId
made_by edit n = made_of edit (drawn_by edit n)

-- the open file of the model
abbrev pub opened_as : Core → Tree → Open
opened_as core tree = record { tree = tree; writable = core.writable; limit = core.heap.limit }

-- how a file stands
abbrev pub standing_in : FileState → Standing
standing_in file = if file.broken then Standing.Failed else if file.core.writable then Standing.Editing else Standing.Reading

-- ---- of a tree and a placement that bytes and memory mean

-- all edits are done, and the bytes and the memory mean the tree of the group, where the rule of the heap puts it
pub record GroupDone (edits : List Edit) (created : List NodeId) (tree : Tree) (p : Placement) (old new : FileState) : Type 0 where
  pub after : Tree
  pub placement : Placement
  pub made : FileEdited (opened_as old.core tree) (device_with p old.device) edits created (device_with placement new.device) (Live (opened_as old.core after))
  pub means : IfSome new.device.held (λ image. Means image after placement (memory_of new.core))

-- an edit is refused behind those that are done
abbrev pub GroupStops : List Edit → ℕ → AdfError → Tree → Placement → FileState → FileState → Type 0
GroupStops edits at e tree p old new =
    FileStops (opened_as old.core tree) (device_with p old.device) edits at e (device_with p new.device) (Live (opened_as old.core tree))

-- all edits are done, and a write failed: the device holds a first part of what was to be written, up to a block that is torn
abbrev pub GroupBreaks : List Edit → ℕ → Tree → Placement → FileState → FileState → Type 0
GroupBreaks edits at tree p old new =
    FileBreaks (opened_as old.core tree) (device_with p old.device) edits at (device_with p new.device) Broken

abbrev pub GroupRefused : List Edit → ℕ → AdfError → Tree → Placement → FileState → FileState → Type 0
GroupRefused edits at error.WriteFault tree p old new = GroupBreaks edits at tree p old new
GroupRefused edits at e tree p old new = GroupStops edits at e tree p old new

abbrev pub GroupAnswers : List Edit → Result (List NodeId) EditError → Tree → Placement → FileState → FileState → Type 0
GroupAnswers edits (Ok created) tree p old new = GroupDone edits created tree p old new
GroupAnswers edits (Err refusal) tree p old new = GroupRefused edits refusal.at refusal.error tree p old new

-- a file that is not broken answers a group of each tree and placement that its bytes and its memory mean
abbrev pub IsGroupOf : List Edit → Result (List NodeId) EditError → FileState → FileState → List ℕ → Type 0
IsGroupOf edits result old new image =
    (tree : Tree) (p : Placement) → Means image tree p (memory_of old.core) → GroupAnswers edits result tree p old new

-- ---- also where bytes are not told

-- a refusal leaves the file as it was, but for its device; only a failed write breaks it, and that leaves what is in memory
abbrev pub RefusalLeaves : AdfError → FileState → FileState → Type 0
RefusalLeaves error.WriteFault old new = (new.broken ≡ true) × (new.core ≡ old.core)
RefusalLeaves e old new = new ≡ undone_over new.device old

-- what may be answered in any case: as the model has it of one file
abbrev pub GroupAnyway : List Edit → Result (List NodeId) EditError → FileState → FileState → Type 0
GroupAnyway edits result old new =
    FileGroupAnyway (standing_in old) (device_with no_device.placement old.device) edits result (device_with no_device.placement new.device) (standing_in new)

-- the refusal of a group names a rule, and is of the kind of its edit
pub record IsOfKind (edits : List Edit) (refusal : EditError) : Type 0 where
  pub rule : NamesRule refusal.error
  pub kind : (edit : Edit) → slice_get edits refusal.at ≡ Some edit → IsTrue (may_refuse_edit edit refusal.error)

-- ---- a group under way

-- the edits in work lead from what was committed to what is in work
abbrev pub WorkOf : FileState → Type 0
WorkOf file = Both (DoesAll file.steps file.waiting (accepted file.core) file.core) file.device.held file.image

-- the first edits, as many as `at`, are done and wait, and these nodes were made
pub record IsUnderWay (edits : List Edit) (at : ℕ) (created : List NodeId) (old now : FileState) : Type 0 where
  pub steps : now.steps ≡ take at edits
  pub device : OnlyReads old.device now.device
  pub core : accepted now.core ≡ old.core
  pub broken : now.broken ≡ old.broken
  pub live : (at ≡ 0) ⊎ (old.broken ≡ false)
  pub may : (at ≡ 0) ⊎ (old.core.writable ≡ true)
  pub first : at ≡ 0 → now ≡ old
  pub made : IfSome old.device.held (λ image. (tree : Tree) (p : Placement) (work : Work) → Means image tree p (memory_of old.core)
      → file_group old.core.writable tree (take at edits) ≡ Ok work → created ≡ work.created)

-- the next edit is done, and the node that it made is kept; or it is refused, and all that waited is dropped
abbrev pub NextEnds : Edit → Result (Unit {0}) AdfError → List NodeId → List NodeId → FileState → FileState → Type 0
NextEnds edit (Ok done) was now old new = (serial : Option ℕ) × Stepped edit serial old new × (now ≡ was ++ made_by edit (length old.core.rows.items))
NextEnds edit (Err error.Broken) was now old new = (old.broken ≡ true) × (new ≡ old)
NextEnds edit (Err e) was now old new = Refused edit e old new
