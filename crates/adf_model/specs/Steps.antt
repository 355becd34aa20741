-- What each call may answer, and what it leaves.
use Rattle.std.specs.Prelude.{◌≡◌, ◌≢◌, ◌⊎◌, ℕ, ◌+◌, ◌*◌, ◌<◌, ◌≤◌, Bool, true, false, IsTrue, not, List, [], ◌∷◌, length, take, Option, Some, None, IsSome, option_map, Result, Ok, Err, slice_get, IfSome, IfOk}
use Rattle.adf_model.specs.declared.error.AdfError.{AdfError}
use Rattle.adf_model.specs.declared.error.AdfError.TheVariants.{Memory, ReadFault, WriteFault, NotOpen, NoSuchFile, AlreadyOpen, NoSuchNode, NotAChild, NoData, BadRange, LinkMissing, LinkChain, NotALink, Layout, NotEmpty, TooLarge, Full, NotFound, Syntax, LineTooLong}
use Rattle.adf_model.specs.declared.error.EditError.{EditError}
use Rattle.adf_model.specs.declared.tree.Edit.{Edit}
use Rattle.adf_model.specs.declared.tree.Edit.TheVariants.{Delete, Rename, Move}
use Rattle.adf_model.specs.declared.tree.NodeId.{NodeId}
use Rattle.adf_model.specs.declared.tree.Query.{Query}
use Rattle.adf_model.specs.declared.tree.Reply.{Reply}
use Rattle.adf_model.specs.Tests.{Test, first_refusal, checked}
use Rattle.adf_format.specs.Tree.{Tree, fresh_tree, numbered, IsNumbered}
use Rattle.adf_model.specs.Edits.{named_nodes, file_tests_at_entry, file_step}
use Rattle.adf_format.specs.Placement.{Placement}
use Rattle.adf_format.specs.LaysOut.{LaysOut}
use Rattle.adf_format.specs.FirstFault.{FirstFault}
use Rattle.adf_format.specs.RuleNumbers.{IsRule}
use Rattle.adf_format.specs.Fresh.{fresh_block, fresh_placement}
use Rattle.adf_format.specs.HeapRule.{LimitReached, place_edit}
use Rattle.adf_model.specs.Placing.{placed_as, place_group, group_cost}
use Rattle.adf_model.specs.Untouched.{StaysBeside, KeepsRest, KeepsTail, group_touched}
use Rattle.adf_model.specs.Torn.{TornAt, TornGroup}
use Rattle.adf_model.specs.Counts as counts
use Rattle.adf_model.specs.Counts.{Rose, OnlyReads, WriteFails, dropped}
use Rattle.adf_model.specs.Slots.{Open, Slot, Standing, standing_of, Files, slot_at, is_gone, is_open, open_at, with_slot, Device, Devices, device_at, state_of, recorded_end}
use Rattle.adf_model.specs.Slots.Slot.{Gone, Raw, Saved, Live}
use Rattle.adf_model.specs.Calls.{Group, tests_at_entry, edit_group}
use Rattle.adf_model.specs.Answers.{answer, refusal_at_entry, file_answer, asked_node, goes_through_links, may_refuse}

-- the call failed to read from some device
abbrev pub SomeFault : Devices → Devices → Type 0
SomeFault before now = (number : ℕ) × Rose (device_at before number).faults (device_at now number).faults

-- the call failed to read from the device of an open file
abbrev pub SomeOpenFault : Files → Devices → Devices → Type 0
SomeOpenFault files before now = (number : ℕ) × (is_open (slot_at files number) ≡ true) × Rose (device_at before number).faults (device_at now number).faults

-- a device that was not written, and of which no count fell
abbrev pub OnlyRead : Device → Device → Type 0
OnlyRead before now = OnlyReads (state_of before) (state_of now)

-- no count of the device is lower
abbrev pub NoneFell : Device → Device → Type 0
NoneFell before now = counts.NoCountFell (state_of before) (state_of now)

-- no count of any device is lower
abbrev pub NoCountFell : Devices → Devices → Type 0
NoCountFell before now = (number : ℕ) → NoneFell (device_at before number) (device_at now number)

-- no device was written but that of one number
pub record OthersOnlyRead (one : Option ℕ) (before now : Devices) : Type 0 where
  pub count : length now ≡ length before
  pub others : (number : ℕ) → Some number ≢ one → OnlyRead (device_at before number) (device_at now number)
  pub counts : NoCountFell before now

-- the parts of each file stand where they stood, but for those of one number
abbrev pub OthersStayPlaced : Option ℕ → Devices → Devices → Type 0
OthersStayPlaced one before now = (number : ℕ) → Some number ≢ one → (device_at now number).placement ≡ (device_at before number).placement

-- a write of this device failed
abbrev pub WriteFailed : Device → Device → Type 0
WriteFailed before now = WriteFails (state_of before) (state_of now)

-- the one error wanted, or want of memory
abbrev pub IsMemoryOr : AdfError → AdfError → Type 0
IsMemoryOr wanted Memory = Unit {0}
IsMemoryOr wanted given = given ≡ wanted

-- where the files alone decide, the answer is theirs or want of memory
abbrev pub IsRefusedBy : {A : Type 0} → Option AdfError → Result A AdfError → Type 0
IsRefusedBy None result = Unit {0}
IsRefusedBy (Some error) (Ok value) = ⊥
IsRefusedBy (Some error) (Err given) = IsMemoryOr error given

-- want of memory, which is always free; a failed read, where no refusal at entry comes first; else the answer wanted
abbrev pub IsFaultOr : {A : Type 0} → Option AdfError → Result A AdfError → Result A AdfError → Type 0
IsFaultOr at_entry wanted (Err Memory) = Unit {0}
IsFaultOr at_entry wanted (Err ReadFault) = at_entry ≡ None
IsFaultOr at_entry wanted result = result ≡ wanted

-- what may be answered to a query
abbrev pub IsAnswer : Files → Query → Result Reply AdfError → Type 0
IsAnswer files query result = IsFaultOr (refusal_at_entry files query) (answer files query) result

-- the errors of a query: those of the files, of links and of the node asked; a layout that cannot be read, where devices do not tell
abbrev pub is_query_error : AdfError → Bool
is_query_error Memory = true
is_query_error ReadFault = true
is_query_error AdfError.Broken = true
is_query_error NotOpen = true
is_query_error NoSuchFile = true
is_query_error NoSuchNode = true
is_query_error NotAChild = true
is_query_error NoData = true
is_query_error BadRange = true
is_query_error LinkMissing = true
is_query_error LinkChain = true
is_query_error NotALink = true
is_query_error (Layout rule place) = true
is_query_error TooLarge = true
is_query_error NotFound = true
is_query_error error = false

-- an answer of a failed read has a fault of a device as its cause, and a call that only reads has no error of another call
abbrev pub HasReadCause : {A : Type 0} → Devices → Devices → Result A AdfError → Type 0
HasReadCause before now (Ok value) = Unit {0}
HasReadCause before now (Err ReadFault) = SomeFault before now
HasReadCause before now (Err (Layout rule place)) = IsRule rule
HasReadCause before now (Err error) = IsTrue (is_query_error error)

-- a failed read is one of the node's own file, or, where links may be followed, of some open file
abbrev pub HasReadFault : Bool → ℕ → Files → Devices → Devices → Type 0
HasReadFault true file files before now = SomeOpenFault files before now
HasReadFault false file files before now = Rose (device_at before file).faults (device_at now file).faults

-- a query is refused under its cause, and with no error of another call
abbrev pub HasQueryCause : {A : Type 0} → Files → Query → Devices → Devices → Result A AdfError → Type 0
HasQueryCause files query before now (Ok value) = Unit {0}
HasQueryCause files query before now (Err ReadFault) = HasReadFault (goes_through_links query) (asked_node query).file files before now
HasQueryCause files query before now (Err (Layout rule place)) = IsRule rule
HasQueryCause files query before now (Err error) = IsTrue (may_refuse query error)

-- the errors of other calls than a group of edits
abbrev pub is_foreign_to_edits : AdfError → Bool
is_foreign_to_edits AlreadyOpen = true
is_foreign_to_edits NotALink = true
is_foreign_to_edits NotEmpty = true
is_foreign_to_edits NotFound = true
is_foreign_to_edits Syntax = true
is_foreign_to_edits LineTooLong = true
is_foreign_to_edits error = false

-- a failed read in a group is one of an open file
abbrev pub HasCauseOf : Files → Devices → Devices → AdfError → Type 0
HasCauseOf files before now ReadFault = SomeOpenFault files before now
HasCauseOf files before now (Layout rule place) = IsRule rule
HasCauseOf files before now error = is_foreign_to_edits error ≡ false

-- a group is refused under its cause, and with no error of another call
abbrev pub HasGroupCause : {A : Type 0} → Files → Devices → Devices → Result A EditError → Type 0
HasGroupCause files before now (Ok value) = Unit {0}
HasGroupCause files before now (Err refusal) = HasCauseOf files before now refusal.error

-- the file of a group that its first edit names, where that edit follows no link
abbrev pub own_file : List Edit → Option ℕ
own_file [] = None
own_file (Delete node ∷ edits) = Some node.file
own_file (Rename node wanted ∷ edits) = Some node.file
own_file (Move node to ∷ edits) = Some node.file
own_file (edit ∷ edits) = None

-- a group may write this file: it is open for editing, and the one that the first edit names
abbrev pub MayEdit : Files → List Edit → ℕ → Type 0
MayEdit files edits number = (standing_of (slot_at files number) ≡ Standing.Editing) × IfSome (own_file edits) (λ own. number ≡ own)

-- what one file may answer to a query
abbrev pub IsFileAnswer : Bool → Tree → Query → Result Reply AdfError → Type 0
IsFileAnswer broken tree query result =
    IsFaultOr (first_refusal (file_tests_at_entry broken tree (asked_node query ∷ []))) (checked ((broken, AdfError.Broken) ∷ []) (file_answer tree query)) result

-- why one file may refuse an edit: want of memory; a failed read, where no refusal at entry comes first; a take that the heap rule refuses, where no other refusal comes; else that of the tree
abbrev pub IsFileRefusal : Bool → Bool → ℕ → Tree → Placement → Edit → AdfError → Type 0
IsFileRefusal broken writable limit tree p edit Memory = Unit {0}
IsFileRefusal broken writable limit tree p edit ReadFault = first_refusal (file_tests_at_entry broken tree (named_nodes edit)) ≡ None
IsFileRefusal broken writable limit tree p edit (Full asked end) =
    (broken ≡ false) × ((after : Tree) × (file_step writable tree edit ≡ Ok after) × (place_edit limit tree after (placed_as edit) p ≡ Err (record { asked = asked; end = end })))
IsFileRefusal broken writable limit tree p edit error = checked ((broken, AdfError.Broken) ∷ []) (file_step writable tree edit) ≡ Err error

-- the edits before this one are done, and this one is reached
pub record StopsAt (files : Files) (edits : List Edit) (at : ℕ) : Type 0 where
  pub group : Group
  pub before : edit_group files (take at edits) ≡ Ok group
  pub edit : Edit
  pub reached : slice_get edits at ≡ Some edit

-- and no refusal at entry comes first
pub record ReadStops (files : Files) (before now : Devices) (edits : List Edit) (at : ℕ) : Type 0 where
  pub stop : StopsAt files edits at
  pub entered : first_refusal (tests_at_entry stop.group.files (named_nodes stop.edit)) ≡ None
  pub fault : SomeOpenFault files before now

-- this edit is not refused otherwise, and the edits up to it may need more than the limit leaves
pub record RoomStops (files : Files) (devices : Devices) (edits : List Edit) (at : ℕ) : Type 0 where
  pub exists : at < length edits
  pub group : Group
  pub through : edit_group files (take (at + 1) edits) ≡ Ok group
  pub number : ℕ
  pub file : group.file ≡ Some number
  pub opened : Open
  pub live : open_at files number ≡ Some opened
  pub over : opened.limit * 4096 < recorded_end (device_at devices number) + 1 + group.needed

-- all edits are done, and the commit failed: the file is broken
pub record CommitStops (files : Files) (before now : Devices) (edits : List Edit) (at : ℕ) (after : Files) : Type 0 where
  pub group : Group
  pub through : edit_group files edits ≡ Ok group
  pub index : at ≡ length edits
  pub number : ℕ
  pub file : group.file ≡ Some number
  pub broken : after ≡ with_slot files number Slot.Broken
  pub others : OthersOnlyRead (Some number) before now
  pub placed : OthersStayPlaced (Some number) before now
  pub failed : WriteFailed (device_at before number) (device_at now number)
  pub own : MayEdit files edits number
  pub was : Open
  pub entered : open_at files number ≡ Some was
  pub opened : Open
  pub live : open_at group.files number ≡ Some opened

-- and its device holds a first part of what the group makes of it
pub record WriteStops (files : Files) (before now : Devices) (edits : List Edit) (at : ℕ) (after : Files) : Type 0 where
  pub stop : CommitStops files before now edits at after
  pub torn : (old new : List ℕ) → (device_at before stop.number).held ≡ Some old → (device_at now stop.number).held ≡ Some new
      → TornGroup stop.was.limit stop.was.tree (device_at before stop.number).placement stop.group.done stop.opened.tree old new

-- all edits are done
pub record Edited (files : Files) (before now : Devices) (edits : List Edit) (created : List NodeId) (after : Files) : Type 0 where
  pub group : Group
  pub through : edit_group files edits ≡ Ok group
  pub made : created ≡ group.created
  pub trees : after ≡ group.files
  pub others : OthersOnlyRead group.file before now
  pub placed : OthersStayPlaced group.file before now
  pub own : (number : ℕ) → group.file ≡ Some number → MayEdit files edits number
  pub told : (number : ℕ) → group.file ≡ Some number → IsSome (device_at before number).held → IsSome (device_at now number).held

-- a refusal that leaves all files, under its cause
pub record Refused (Cause : Type 0) (files : Files) (before now : Devices) (after : Files) : Type 0 where
  pub cause : Cause
  pub files_stay : after ≡ files
  pub devices_stay : OthersOnlyRead None before now
  pub placed : OthersStayPlaced None before now

abbrev pub IsGroupRefusal : Files → Devices → List Edit → ℕ → AdfError → Devices → Files → Type 0
IsGroupRefusal files before edits at Memory now after = Refused (StopsAt files edits at) files before now after
IsGroupRefusal files before edits at ReadFault now after = Refused (ReadStops files before now edits at) files before now after
IsGroupRefusal files before edits at (Full asked end) now after = Refused (RoomStops files before edits at) files before now after
IsGroupRefusal files before edits at WriteFault now after = WriteStops files before now edits at after
IsGroupRefusal files before edits at error now after = Refused (edit_group files edits ≡ Err (record { at = at; error = error })) files before now after

-- what may be answered to a group of edits, and what it then leaves
abbrev pub IsEdit : Files → Devices → List Edit → Result (List NodeId) EditError → Devices → Files → Type 0
IsEdit files before edits (Ok created) now after = Edited files before now edits created after
IsEdit files before edits (Err refusal) now after = IsGroupRefusal files before edits refusal.at refusal.error now after

-- what the trees alone answer to a group, or want of memory
abbrev pub IsModelEdit : Files → List Edit → Result (List NodeId) EditError → Type 0
IsModelEdit files edits (Ok created) = (group : Group) × (edit_group files edits ≡ Ok group) × (created ≡ group.created)
IsModelEdit files edits (Err refusal) = (refusal.error ≡ Memory) ⊎ (edit_group files edits ≡ Err refusal)

-- no count of faults rose
abbrev pub NoFault : Devices → Devices → Type 0
NoFault before now = (number : ℕ) → Rose (device_at before number).faults (device_at now number).faults → ⊥

-- the needs of the first edits of a group, as many as pass, fit behind the recorded end
abbrev pub IsWithinLimit : Files → Devices → List Edit → Type 0
IsWithinLimit files devices edits = (count number : ℕ) (group : Group) (opened : Open) → edit_group files (take count edits) ≡ Ok group → group.file ≡ Some number → open_at files number ≡ Some opened
    → recorded_end (device_at devices number) + 1 + group.needed ≤ opened.limit * 4096

-- a fact of the edits of a group that is not refused, and of its file as it was before
abbrev pub OfGroup : Files → List Edit → (ℕ → Open → Group → Type 0) → Type 0
OfGroup files edits Fact = IfOk (edit_group files edits) (λ group. IfSome group.file (λ number. IfSome (open_at files number) (λ opened. Fact number opened group)))

-- no take of these edits is refused
abbrev pub HaveRoom : Devices → ℕ → Open → Group → Type 0
HaveRoom before number opened group = (p : Placement) × (place_group opened.limit opened.tree (device_at before number).placement group.done ≡ Ok p)

-- the device is written at most as often as the edits cost
abbrev pub IsWithinCost : Devices → Devices → ℕ → Open → Group → Type 0
IsWithinCost before now number opened group =
    (device_at now number).writes ≤ (device_at before number).writes + group_cost opened.limit opened.tree (device_at before number).placement group.done

-- the heap rule places the edits as the parts now stand
abbrev pub IsPlaced : Devices → Devices → ℕ → Open → Group → Type 0
IsPlaced before now number opened group =
    (place_group opened.limit opened.tree (device_at before number).placement group.done ≡ Ok (device_at now number).placement) × IsWithinCost before now number opened group

-- the heap rule refuses a take of these first edits of a group
pub record HasNoRoom (files : Files) (before : Devices) (edits : List Edit) (count : ℕ) : Type 0 where
  pub group : Group
  pub through : edit_group files (take count edits) ≡ Ok group
  pub number : ℕ
  pub file : group.file ≡ Some number
  pub opened : Open
  pub live : open_at files number ≡ Some opened
  pub full : LimitReached
  pub over : place_group opened.limit opened.tree (device_at before number).placement group.done ≡ Err full

-- the heap rule refuses a take of the edits
abbrev pub IsOverLimit : Devices → ℕ → ℕ → ℕ → Open → Group → Type 0
IsOverLimit before asked end number opened group =
    place_group opened.limit opened.tree (device_at before number).placement group.done ≡ Err (record { asked = asked; end = end })

-- what the edits of the group leave of the file's bytes: the live parts that none of them may touch, with their places; the free bytes of the head, of headers and of tables; and the bytes behind the end
abbrev pub LeavesUntouched : Devices → Devices → ℕ → Open → Group → Type 0
LeavesUntouched before now number opened group =
    let p = (device_at before number).placement in let q = (device_at now number).placement in
    (old new : List ℕ) → (device_at before number).held ≡ Some old → (device_at now number).held ≡ Some new
    → KeepsRest opened.limit opened.tree p group.done q old new × KeepsTail q.heap.end old new

-- what a group that is done leaves of the parts that it does not touch; after a failed write this is told by what it leaves torn
abbrev pub IsUntouchedGroup : Files → Devices → List Edit → Result (List NodeId) EditError → Devices → Type 0
IsUntouchedGroup files before edits (Ok created) now = OfGroup files edits (LeavesUntouched before now)
IsUntouchedGroup files before edits (Err refusal) now = Unit {0}

-- after a failed write these parts stay but for the block that is torn
abbrev pub LeavesBesideBlock : Devices → Devices → ℕ → Open → Group → Type 0
LeavesBesideBlock before now number opened group =
    let p = (device_at before number).placement in
    (old new : List ℕ) (done : Open) → (device_at before number).held ≡ Some old → (device_at now number).held ≡ Some new → open_at group.files number ≡ Some done
    → (torn : TornGroup opened.limit opened.tree p group.done done.tree old new) × StaysBeside torn.file.number (group_touched opened.limit opened.tree p group.done) opened.tree.wide p old new

-- the edits before a refused one fit; the limit is reached exactly where a take of the refused one is refused
abbrev pub IsPlacedRefusal : Files → Devices → List Edit → ℕ → AdfError → Devices → Type 0
IsPlacedRefusal files before edits at (Full asked end) now = OfGroup files (take at edits) (HaveRoom before) × OfGroup files (take (at + 1) edits) (IsOverLimit before asked end)
IsPlacedRefusal files before edits at WriteFault now = OfGroup files edits (IsWithinCost before now) × OfGroup files edits (HaveRoom before)
IsPlacedRefusal files before edits at error now = OfGroup files (take at edits) (HaveRoom before)

-- where the parts stand after a group, and how often its device was written
abbrev pub IsPlacedGroup : Files → Devices → List Edit → Result (List NodeId) EditError → Devices → Type 0
IsPlacedGroup files before edits (Ok created) now = OfGroup files edits (IsPlaced before now)
IsPlacedGroup files before edits (Err refusal) now = IsPlacedRefusal files before edits refusal.at refusal.error now

-- a file that is closed: its tree is numbered as the next opening numbers it
abbrev pub closed : Slot → Slot
closed Gone = Gone
closed Raw = Raw
closed (Saved tree) = Saved tree
closed (Live opened) = Saved (numbered opened.tree)
closed Slot.Broken = Raw

abbrev pub close_tests : Files → ℕ → List Test
close_tests files number = (is_gone (slot_at files number), NoSuchFile) ∷ (not (is_open (slot_at files number)), NotOpen) ∷ []

-- an opening, and a discarding, want a file that is closed
abbrev pub open_tests : Files → ℕ → List Test
open_tests files number = (is_gone (slot_at files number), NoSuchFile) ∷ (is_open (slot_at files number), AlreadyOpen) ∷ []

-- a call that gives one file another state, or is refused by the tests
abbrev pub IsMoved : List Test → Files → Slot → ℕ → Result Unit AdfError → Files → Type 0
IsMoved tests files slot number (Ok done) after = (first_refusal tests ≡ None) × (after ≡ with_slot files number slot)
IsMoved tests files slot number (Err error) after = (first_refusal tests ≡ Some error) × (after ≡ files)

-- what may be answered to a closing
abbrev pub IsClose : Files → ℕ → Result Unit AdfError → Files → Type 0
IsClose files number result after = IsMoved (close_tests files number) files (closed (slot_at files number)) number result after

-- what may be answered to a discarding
abbrev pub IsDiscard : Files → ℕ → Result Unit AdfError → Files → Type 0
IsDiscard files number result after = IsMoved (open_tests files number) files Gone number result after

-- a device that is gone tells nothing any more, and its counts stay
abbrev pub Dropped : Device → Device → Type 0
Dropped before now = state_of now ≡ dropped (state_of before)

-- a discarding drops one device, and leaves all where it is refused
abbrev pub DropsOne : ℕ → Result Unit AdfError → Devices → Devices → Type 0
DropsOne number (Ok done) before now = OthersOnlyRead (Some number) before now × Dropped (device_at before number) (device_at now number)
DropsOne number (Err error) before now = OthersOnlyRead None before now

-- a file is opened as a fresh one, narrow or wide; or as it is, for reading or for editing too
pub data Opening : Type 0 where
  Fresh : Bool → Opening
  Stored : Bool → Opening

-- the first refusal of the tests comes before any other
abbrev pub IsFirstOr : Option AdfError → AdfError → Type 0 → Type 0
IsFirstOr (Some first) error Otherwise = error ≡ first
IsFirstOr None error Otherwise = Otherwise

-- the file whose device an opening may write
abbrev pub written_by : Opening → ℕ → Option ℕ
written_by (Fresh wide) number = Some number
written_by (Stored writable) number = None

-- an opening writes at most once, and at most the device of a fresh file
abbrev pub WritesOnce : Opening → ℕ → Devices → Devices → Type 0
WritesOnce opening number before now = OthersOnlyRead (written_by opening number) before now × ((device_at now number).writes ≤ (device_at before number).writes + 1)

-- a refused opening writes only where its write failed
abbrev pub RefusalWrites : AdfError → Opening → ℕ → Devices → Devices → Type 0
RefusalWrites WriteFault opening number before now = WritesOnce opening number before now
RefusalWrites error opening number before now = OthersOnlyRead None before now

-- a refused opening leaves the files, but for a failed write of the fresh bytes
abbrev pub after_refusal : Files → ℕ → AdfError → Files
after_refusal files number WriteFault = with_slot files number Raw
after_refusal files number error = files

-- the image holds the tree
abbrev pub HasTree : List ℕ → Tree → Type 0
HasTree image tree = (placement : Placement) × LaysOut image tree placement

-- the tree of a slot is laid out by what the device holds, where it tells; an open one at the device's placement
abbrev pub IsLaidOut : Slot → Device → Option (List ℕ) → Type 0
IsLaidOut (Saved tree) device (Some image) = HasTree image tree
IsLaidOut (Live opened) device (Some image) = LaysOut image opened.tree device.placement
IsLaidOut slot device held = Unit {0}

abbrev pub IsLaidOutAt : Slot → Device → Type 0
IsLaidOutAt slot device = IsLaidOut slot device device.held

-- every tree is laid out by what its device holds
abbrev pub AllLaidOut : Files → Devices → Type 0
AllLaidOut files devices = (number : ℕ) → IsLaidOutAt (slot_at files number) (device_at devices number)

-- the tree that a closed file holds, numbered in tree order
abbrev pub HoldsTree : Slot → Option (List ℕ) → Tree → Type 0
HoldsTree (Saved saved) held tree = tree ≡ saved
HoldsTree Raw (Some image) tree = HasTree image tree × IsNumbered tree
HoldsTree Raw None tree = Unit {0}
HoldsTree Gone held tree = ⊥
HoldsTree (Live opened) held tree = ⊥
HoldsTree Slot.Broken held tree = ⊥

-- the tree that an opening gives: the fresh one on a device that holds nothing, or that of the file
abbrev pub Opens : Opening → Slot → Option (List ℕ) → Open → Type 0
Opens (Fresh wide) slot held opened = (opened.tree ≡ fresh_tree wide) × (opened.writable ≡ true) × ((image : List ℕ) → held ≡ Some image → image ≡ [])
Opens (Stored writable) slot held opened = HoldsTree slot held opened.tree × (opened.writable ≡ writable)

-- an opened fresh file: what the device then holds, where it tells, and where the parts stand
abbrev pub LeavesFresh : Opening → Device → Device → Type 0
LeavesFresh (Fresh wide) before now = (now.held ≡ option_map (λ (none : List ℕ). fresh_block wide) before.held) × (now.placement ≡ fresh_placement wide)
LeavesFresh (Stored writable) before now = Unit {0}

-- the cause of a refusal that the files alone do not decide
abbrev pub IsOpenRefusal : Opening → Slot → Device → Device → AdfError → Type 0
IsOpenRefusal opening slot before now Memory = Unit {0}
IsOpenRefusal opening slot before now ReadFault = Rose before.faults now.faults
IsOpenRefusal (Fresh wide) slot before now NotEmpty = (image : List ℕ) → before.held ≡ Some image → image ≢ []
IsOpenRefusal (Fresh wide) slot before now WriteFault =
    WriteFailed before now × ((image : List ℕ) → before.held ≡ Some image → image ≡ [])
    × ((old new : List ℕ) → before.held ≡ Some old → now.held ≡ Some new → TornAt 0 old old new)
IsOpenRefusal (Stored writable) Raw before now (Layout rule place) = IsRule rule × ((image : List ℕ) → before.held ≡ Some image → FirstFault image (record { rule = rule; place = place }))
IsOpenRefusal opening slot before now error = ⊥

-- what may be answered to an opening, and what it leaves
abbrev pub IsOpening : Files → Devices → ℕ → Opening → ℕ → Result Unit AdfError → Devices → Files → Type 0
IsOpening files before number opening limit (Ok done) now after =
    (opened : Open) × (first_refusal (open_tests files number) ≡ None) × (opened.limit ≡ limit)
    × Opens opening (slot_at files number) (device_at before number).held opened × (after ≡ with_slot files number (Live opened))
    × WritesOnce opening number before now × LeavesFresh opening (device_at before number) (device_at now number)
IsOpening files before number opening limit (Err Memory) now after = (after ≡ files) × OthersOnlyRead None before now
IsOpening files before number opening limit (Err error) now after =
    IsFirstOr (first_refusal (open_tests files number)) error (IsOpenRefusal opening (slot_at files number) (device_at before number) (device_at now number) error)
    × (after ≡ after_refusal files number error)
    × RefusalWrites error opening number before now

-- the file whose parts a call may have placed anew: none where the call is refused
abbrev pub placed_anew : Result Unit AdfError → ℕ → Option ℕ
placed_anew (Ok done) number = Some number
placed_anew (Err error) number = None

-- why a line is no call: it is none of the calls, or too long; or memory was wanting to read it
abbrev pub IsLineError : AdfError → Type 0
IsLineError Memory = Unit {0}
IsLineError Syntax = Unit {0}
IsLineError LineTooLong = Unit {0}
IsLineError error = ⊥

-- one call of a library, with its answer; or a line that is no call, skipped or refused
pub data Call : Type 0 where
  Opened : ℕ → Opening → ℕ → Result Unit AdfError → Call
  Closed : ℕ → Result Unit AdfError → Call
  Discarded : ℕ → Result Unit AdfError → Call
  Asked : Query → Result Reply AdfError → Call
  Changed : List Edit → Result (List NodeId) EditError → Call
  Skipped : Call
  Misread : AdfError → Call

-- what a call with this answer may leave of the files and the devices
abbrev pub Step : Files → Devices → Call → Devices → Files → Type 0
Step files before (Opened number opening limit result) now after = IsOpening files before number opening limit result now after × OthersStayPlaced (placed_anew result number) before now
Step files before (Closed number result) now after = IsClose files number result after × OthersOnlyRead None before now × OthersStayPlaced (placed_anew result number) before now
Step files before (Discarded number result) now after = IsDiscard files number result after × DropsOne number result before now × OthersStayPlaced (placed_anew result number) before now
Step files before (Asked query result) now after = IsAnswer files query result × HasQueryCause files query before now result × (after ≡ files) × OthersOnlyRead None before now × OthersStayPlaced None before now
Step files before (Changed edits result) now after = IsEdit files before edits result now after × IsPlacedGroup files before edits result now × IsUntouchedGroup files before edits result now
Step files before Skipped now after = (now ≡ before) × (after ≡ files)
Step files before (Misread error) now after = IsLineError error × (now ≡ before) × (after ≡ files)
