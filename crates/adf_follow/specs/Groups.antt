-- A group of edits under way: what waits in open files, and what one edit more makes of it.
use Rattle.std.specs.Prelude.{◌≡◌, ◌≢◌, ◌⊎◌, ℕ, ◌+◌, ◌≤◌, IfSome, IsTrue, is_some, Err, false, IsSome, List, [], ◌∷◌, ◌++◌, take, slice_get, map, Option, Some, None, Result, Ok}
use Rattle.std.specs.List.{AllByRecursion}
use Rattle.adf_format.specs.Tree.{Tree}
use Rattle.adf_format.specs.Placement.{Placement}
use Rattle.adf_format.specs.HeapRule.{place_edit}
use Rattle.adf_model.specs.declared.error.AdfError.{AdfError}
use Rattle.adf_model.specs.declared.error.AdfError.TheVariants.{Memory, ReadFault, LinkMissing, Full}
use Rattle.adf_model.specs.declared.error.EditError.{EditError}
use Rattle.adf_model.specs.declared.tree.Edit.{Edit}
use Rattle.adf_model.specs.declared.tree.NodeId.{NodeId}
use Rattle.adf_model.specs.Tests.{and_then, first_refusal}
use Rattle.adf_model.specs.Edits.{named_nodes, followed, with_followed, created_by, file_step}
use Rattle.adf_model.specs.Need.{cost}
use Rattle.adf_model.specs.Placing.{placed_as, place_group, chunk_number, group_cost}
use Rattle.adf_model.specs.Untouched.{KeepsRest, KeepsTail}
use Rattle.adf_model.specs.Torn.{TornGroup}
use Rattle.adf_model.specs.Slots.{Open, Standing, Files, Device, Devices, AreTrees, slot_at, standing_of, open_at, with_slot, device_at, names_there, standings, IsTold}
use Rattle.adf_model.specs.Slots.Slot.{Live}
use Rattle.adf_model.specs.Follow.{reach}
use Rattle.adf_model.specs.OneFile.{StandsIn}
use Rattle.adf_model.specs.Calls.{Group, tests_of_files, tests_at_entry, resolve, group_step, edit_group}
use Rattle.adf_model.specs.Steps.{OthersOnlyRead, OthersStayPlaced, HasCauseOf, own_file, IsFileRefusal}
use Rattle.adf_model.specs.Causes.{EntersFiles, may_refuse_edit}
use Rattle.adf_model.specs.NamedRules.{NamesRule}
use Rattle.tree_laws.specs.Groups.{tree_left, group_need, AreDone}
use Rattle.adf_follow.specs.Looking.{IsToldIn}

-- ---- what waits

-- the edits that wait in an open file, each with the tree that it left; where they put the parts, and how often they may write the device
pub record FileWork : Type 0 where
  pub done : List (Edit × Tree)
  pub placement : Placement
  pub cost : ℕ

-- what waits in the files by their numbers, and the files with their trees as they were last committed
pub record Pending : Type 0 where
  pub kept : Files
  pub work : ℕ → FileWork

-- nothing waits
abbrev pub at_rest : Device → FileWork
at_rest device = record { done = []; placement = device.placement; cost = 0 }

-- what an edit leaves that waits: all devices but for their reads, where the parts stand on them, and how the files stand
pub record OnlyWaits (files : Files) (before now : Devices) (after : Files) : Type 0 where
  pub devices : OthersOnlyRead None before now
  pub placed : OthersStayPlaced None before now
  pub standing : standings after ≡ standings files
  pub names : names_there after ≡ names_there files

-- one edit of these very nodes is done on the tree in work of its file
pub record IsStep (opened : Open) (edit : Edit) (tree : Tree) (was work : FileWork) : Type 0 where
  pub made : file_step opened.writable opened.tree edit ≡ Ok tree
  pub done : work.done ≡ was.done ++ (edit, tree) ∷ []
  pub placed : place_edit opened.limit opened.tree tree (placed_as edit) was.placement ≡ Ok work.placement
  pub cost : work.cost ≤ was.cost + cost opened.tree (chunk_number was.placement) edit

abbrev pub if_drawn : Option ℕ → List (Option ℕ)
if_drawn None = []
if_drawn (Some serial) = Some serial ∷ []

-- an open file has done one edit of these very nodes, and drawn its serial
pub record IsStepped (before after : Files) (was work : ℕ → FileWork) (number : ℕ) (edit : Edit) (serial : Option ℕ) : Type 0 where
  pub opened : Open
  pub tree : Tree
  pub here : open_at before number ≡ Some opened
  pub step : IsStep opened edit tree (was number) (work number)
  pub left : after ≡ with_slot before number (Live (record opened { tree = tree }))
  pub drawn : map (λ (node : NodeId). Some node.serial) (created_by opened.tree edit) ≡ if_drawn serial

-- why it has not: want of memory; a failed read; a take that the heap rule refuses; else its tree
pub record IsStepRefusal (before : Files) (was : ℕ → FileWork) (number : ℕ) (edit : Edit) (error : AdfError) : Type 0 where
  pub opened : Open
  pub here : open_at before number ≡ Some opened
  pub why : IsFileRefusal false opened.writable opened.limit opened.tree (was number).placement edit error

-- ---- what is committed

-- What waits in a file is committed: its parts stand where they were put, it is written at most as often as that costs, and it keeps what the edits do not touch.
pub record IsCommitted (was : Open) (work : FileWork) (before now : Device) : Type 0 where
  pub cost : now.writes ≤ before.writes + work.cost
  pub placed : now.placement ≡ work.placement
  pub rest : (old new : List ℕ) → before.held ≡ Some old → now.held ≡ Some new
      → KeepsRest was.limit was.tree before.placement work.done work.placement old new × KeepsTail work.placement.heap.end old new

-- Or it is not: the device holds a first part of what was to be written.
pub record IsTornCommit (was : Open) (tree : Tree) (work : FileWork) (before now : Device) : Type 0 where
  pub cost : now.writes ≤ before.writes + work.cost
  pub torn : (old new : List ℕ) → before.held ≡ Some old → now.held ≡ Some new
      → TornGroup was.limit was.tree before.placement work.done tree old new

-- ---- an edit through links

-- the edit of the node that was reached, where links are followed
abbrev pub with_there : Edit → Option NodeId → Edit
with_there edit None = edit
with_there edit (Some there) = with_followed edit there

abbrev pub or_there : NodeId → Option NodeId → NodeId
or_there node None = node
or_there node (Some there) = there

abbrev pub led_from : Files → Option NodeId → Result (Option NodeId) AdfError
led_from files None = Ok None
led_from files (Some node) = and_then (reach files node) (λ there. Ok (Some there))

-- the node that an edit follows, once its links are followed
abbrev pub led_to : Files → Edit → Result (Option NodeId) AdfError
led_to files edit = led_from files (followed edit)

-- the files of these nodes are open
abbrev pub AreOpen : Files → List NodeId → Type 0
AreOpen files nodes = AllByRecursion (λ (node : NodeId). IsSome (open_at files node.file)) nodes

-- an edit that meets no link, of nodes of one file that tells
pub record IsEditTold (files : Files) (devices : Devices) (edit : Edit) : Type 0 where
  pub number : ℕ
  pub opened : Open
  pub live : open_at files number ≡ Some opened
  pub told : IsToldIn files devices number
  pub stands : StandsIn number edit
  pub no_link : file_step opened.writable opened.tree edit ≢ Err LinkMissing

-- the devices that an edit may touch tell what they hold, and what is open are trees
abbrev pub IsToldBy : Files → Devices → Edit → Type 0
IsToldBy files devices edit = (IsTold files devices × AreTrees files) ⊎ IsEditTold files devices edit

-- an edit is done: its entry is passed, its links lead to nodes of the group's file, and that file has done the step
pub record IsDone (before after : Files) (was work : ℕ → FileWork) (group : Option ℕ) (edit : Edit) (number : ℕ) (serial : Option ℕ) : Type 0 where
  pub reached : Edit
  pub entered : first_refusal (tests_at_entry before (named_nodes edit)) ≡ None
  pub leads : resolve before edit ≡ Ok reached
  pub own : (group ≡ None) ⊎ (group ≡ Some number)
  pub stands : StandsIn number reached
  pub stepped : IsStepped before after was work number reached serial

-- an edit that is done, also where files are not told: its own files are open, and its file is the group's, may be edited, and is the one that it names where it follows no link there; the other files stay, and what waits in them
pub record IsDoneAnyway (files after : Files) (was work : ℕ → FileWork) (group : Option ℕ) (edit : Edit) (number : ℕ) : Type 0 where
  pub entered : first_refusal (tests_of_files files (named_nodes edit)) ≡ None
  pub own : (group ≡ None) ⊎ (group ≡ Some number)
  pub editing : standing_of (slot_at files number) ≡ Standing.Editing
  pub named : IfSome (own_file (edit ∷ [])) (λ own. number ≡ own)
  pub left : after ≡ with_slot files number (slot_at after number)
  pub others : (n : ℕ) → n ≢ number → work n ≡ was n

-- ---- why an edit is refused

-- the edit is done on the tree of its file, and the heap rule refuses a take of it
pub record IsFullAt (files : Files) (was : ℕ → FileWork) (group : Option ℕ) (edit : Edit) (asked end : ℕ) : Type 0 where
  pub number : ℕ
  pub reached : Edit
  pub opened : Open
  pub tree : Tree
  pub entered : first_refusal (tests_at_entry files (named_nodes edit)) ≡ None
  pub leads : resolve files edit ≡ Ok reached
  pub own : (group ≡ None) ⊎ (group ≡ Some number)
  pub stands : StandsIn number reached
  pub here : open_at files number ≡ Some opened
  pub made : file_step opened.writable opened.tree reached ≡ Ok tree
  pub over : place_edit opened.limit opened.tree tree (placed_as reached) (was number).placement ≡ Err (record { asked = asked; end = end })

-- want of memory; a failed read, where no refusal at entry comes first; a take that the heap rule refuses; else the refusal of the trees
abbrev pub IsEditRefusal : Files → (ℕ → FileWork) → Option ℕ → Edit → AdfError → Type 0
IsEditRefusal files was group edit Memory = Unit {0}
IsEditRefusal files was group edit ReadFault = first_refusal (tests_at_entry files (named_nodes edit)) ≡ None
IsEditRefusal files was group edit (Full asked end) = IsFullAt files was group edit asked end
IsEditRefusal files was group edit error = (g : Group) → g.files ≡ files → g.file ≡ group → group_step g edit ≡ Err error

-- a refusal also where files are not told: it enters its files, has its cause, and is of its kind
pub record IsRefusedAnyway (files : Files) (before now : Devices) (edit : Edit) (error : AdfError) : Type 0 where
  pub entry : EntersFiles {A = Unit {0}} files (named_nodes edit) (is_some (followed edit)) (Err error)
  pub cause : HasCauseOf files before now error
  pub kind : IsTrue (may_refuse_edit edit error)

-- the refusal of a group of one file names a rule, and is of the kind of its edit
pub record IsOfKind (edits : List Edit) (refusal : EditError) : Type 0 where
  pub rule : NamesRule refusal.error
  pub kind : (edit : Edit) → slice_get edits refusal.at ≡ Some edit → IsTrue (may_refuse_edit edit refusal.error)

-- what waited in the file of the edit is dropped
pub record IsUndone (group : Option ℕ) (files : Files) (was : Pending) (now : Devices) (pending : Pending) (after : Files) : Type 0 where
  pub number : ℕ
  pub own : (group ≡ None) ⊎ (group ≡ Some number)
  pub left : after ≡ with_slot files number (slot_at was.kept number)
  pub kept : pending.kept ≡ was.kept
  pub rest : pending.work number ≡ at_rest (device_at now number)
  pub others : (n : ℕ) → n ≢ number → pending.work n ≡ was.work n

-- a refused edit leaves all as it was, or drops what waited
abbrev pub LeavesUndone : Option ℕ → Files → Pending → Devices → Pending → Files → Type 0
LeavesUndone group files was now pending after = ((after ≡ files) × (pending ≡ was)) ⊎ IsUndone group files was now pending after

-- ---- a group

-- all files are as they were committed but for that of a group
abbrev pub StandBut : Option ℕ → Files → Files → Type 0
StandBut None files kept = files ≡ kept
StandBut (Some number) files kept = with_slot files number (slot_at kept number) ≡ kept

-- what waits, waits in the file of a group; where there is none, nothing waits
pub record WaitsIn (group : Option ℕ) (files : Files) (devices : Devices) (pending : Pending) : Type 0 where
  pub others : StandBut group files pending.kept
  pub rest : (n : ℕ) → Some n ≢ group → pending.work n ≡ at_rest (device_at devices n)

-- the node of a serial that was drawn in a file
abbrev pub made_in : ℕ → Option ℕ → List NodeId
made_in file None = []
made_in file (Some serial) = record { file = file; serial = serial } ∷ []

-- an open file of a group: as it was before the first edit, and what the edits made of it
pub record HasCome (files : Files) (before : Devices) (group : Group) (number : ℕ) (opened : Open) (work : FileWork) : Type 0 where
  pub was : Open
  pub there : open_at files number ≡ Some was
  pub same : opened ≡ record was { tree = tree_left was.tree group.done }
  pub steps : AreDone was.tree group.done
  pub needed : group.needed ≡ group_need was.tree group.done
  pub waits : work.done ≡ group.done
  pub placed : place_group was.limit was.tree (device_at before number).placement group.done ≡ Ok work.placement
  pub cost : work.cost ≤ group_cost was.limit was.tree (device_at before number).placement group.done

-- the first edits of a group, as many as i, are done on the trees in work
pub record IsUnderWay (files : Files) (before : Devices) (edits : List Edit) (i : ℕ) (number : Option ℕ) (created : List NodeId) (work : ℕ → FileWork) (now : Files) : Type 0 where
  pub group : Group
  pub through : edit_group files (take i edits) ≡ Ok group
  pub trees : now ≡ group.files
  pub file : group.file ≡ number
  pub made : created ≡ group.created
  pub come : (n : ℕ) (opened : Open) → (number ≡ None) ⊎ (number ≡ Some n) → open_at now n ≡ Some opened → HasCome files before group n opened (work n)
