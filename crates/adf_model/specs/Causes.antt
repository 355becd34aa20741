-- What each call may answer and leave also where devices tell nothing: files, names, standings, counts and causes.
use Rattle.std.specs.Prelude.{◌≡◌, ◌⊎◌, ℕ, ◌<◌, Bool, true, false, IsTrue, is_some, if◌then◌else◌, List, [], ◌∷◌, length, slice_get, slice_set, Option, Some, None, IfSome, Result, Ok, Err, IfOk, IfErr, ◌||◌, ◌&&◌}
use Rattle.adf_model.specs.declared.error.AdfError.{AdfError}
use Rattle.adf_model.specs.declared.error.AdfError.TheVariants.{Memory, ReadFault, WriteFault, NotOpen, NoSuchFile, ReadOnly, NoSuchNode, NotAChild, BadName, Duplicate, BadLabel, BadShape, NoData, BadRange, WrongLength, IntoItself, TooDeep, LinkMissing, LinkChain, BadLink, Layout, NotEmpty, TooLarge, TooManyChildren, Full, OtherFile}
use Rattle.adf_model.specs.declared.error.EditError.{EditError}
use Rattle.adf_model.specs.declared.tree.Edit.{Edit}
use Rattle.adf_model.specs.declared.tree.Edit.TheVariants.{Create, Delete, Rename, Move, SetLabel, SetDims, PutAll, PutPart, Link}
use Rattle.adf_model.specs.declared.tree.NodeId.{NodeId}
use Rattle.adf_model.specs.declared.tree.Query.{Query}
use Rattle.adf_model.specs.declared.tree.Reply.{Reply}
use Rattle.adf_format.specs.RuleNumbers.{IsRule}
use Rattle.adf_model.specs.Tests.{Test, first_refusal}
use Rattle.adf_model.specs.Edits.{named_nodes, followed}
use Rattle.adf_model.specs.Slots.{Standing, Files, Device, Devices, standings, slot_at, device_at, is_broken, names_there}
use Rattle.adf_model.specs.Calls.{tests_of_files}
use Rattle.adf_model.specs.Answers.{asked_node, goes_through_links, IsReplyTo}
use Rattle.adf_model.specs.Counts.{Rose}
use Rattle.adf_model.specs.Steps.{WriteFailed, OthersOnlyRead, OthersStayPlaced, IsRefusedBy, HasQueryCause, HasGroupCause, MayEdit, close_tests, open_tests, DropsOne, Opening, Fresh, Stored, IsFirstOr, WritesOnce, RefusalWrites, placed_anew, IsLineError, Call, Opened, Closed, Discarded, Asked, Changed, Skipped, Misread}

-- ---- openings, closings and discardings

-- how a file stands that was opened
abbrev pub standing_by : Opening → Standing
standing_by (Fresh wide) = Standing.Editing
standing_by (Stored writable) = if writable then Standing.Editing else Standing.Reading

-- a done opening opens the file, a refused one leaves all as they stand
abbrev pub OpensStanding : Opening → ℕ → Result Unit AdfError → Files → Files → Type 0
OpensStanding opening number (Ok done) before after = standings after ≡ slice_set (standings before) number (standing_by opening)
OpensStanding opening number (Err error) before after = standings after ≡ standings before

-- why an opening fails that the files alone do not refuse: want of memory; a fault of the file's own device; bytes where there should be none; a layout that cannot be read
abbrev pub IsOpenCause : Opening → Device → Device → AdfError → Type 0
IsOpenCause opening before now Memory = Unit {0}
IsOpenCause opening before now ReadFault = Rose before.faults now.faults
IsOpenCause (Fresh wide) before now WriteFault = WriteFailed before now
IsOpenCause (Fresh wide) before now NotEmpty = Unit {0}
IsOpenCause (Stored writable) before now (Layout rule place) = IsRule rule
IsOpenCause opening before now error = ⊥

-- the files alone refuse an opening first; a done one they do not refuse
abbrev pub HasOpenCause : Files → ℕ → Opening → Devices → Devices → Result Unit AdfError → Type 0
HasOpenCause files number opening before now (Ok done) = first_refusal (open_tests files number) ≡ None
HasOpenCause files number opening before now (Err Memory) = Unit {0}
HasOpenCause files number opening before now (Err error) = IsFirstOr (first_refusal (open_tests files number)) error (IsOpenCause opening (device_at before number) (device_at now number) error)

abbrev pub OpeningWrites : Result Unit AdfError → Opening → ℕ → Devices → Devices → Type 0
OpeningWrites (Ok done) opening number before now = WritesOnce opening number before now
OpeningWrites (Err error) opening number before now = RefusalWrites error opening number before now

pub record OpenedAnyway (files : Files) (before : Devices) (number : ℕ) (opening : Opening) (result : Result Unit AdfError) (now : Devices) (after : Files) : Type 0 where
  pub standing : OpensStanding opening number result files after
  pub names : names_there after ≡ names_there files
  pub cause : HasOpenCause files number opening before now result
  pub writes : OpeningWrites result opening number before now
  pub placed : OthersStayPlaced (placed_anew result number) before now

-- a call that makes a file stand otherwise is done or refused as the tests say, and takes no memory
abbrev pub MovesStanding : List Test → Standing → ℕ → Result Unit AdfError → Files → Files → Type 0
MovesStanding tests standing number (Ok done) before after = (first_refusal tests ≡ None) × (standings after ≡ slice_set (standings before) number standing)
MovesStanding tests standing number (Err error) before after = (first_refusal tests ≡ Some error) × (standings after ≡ standings before)

pub record ClosedAnyway (files : Files) (before : Devices) (number : ℕ) (result : Result Unit AdfError) (now : Devices) (after : Files) : Type 0 where
  pub standing : MovesStanding (close_tests files number) Standing.Closed number result files after
  pub names : names_there after ≡ names_there files
  pub devices : OthersOnlyRead None before now
  pub placed : OthersStayPlaced (placed_anew result number) before now

-- the name of a discarded file is free
abbrev pub names_after : Result Unit AdfError → ℕ → List (Option (List ℕ)) → List (Option (List ℕ))
names_after (Ok done) number names = slice_set names number None
names_after (Err error) number names = names

pub record DiscardedAnyway (files : Files) (before : Devices) (number : ℕ) (result : Result Unit AdfError) (now : Devices) (after : Files) : Type 0 where
  pub standing : MovesStanding (open_tests files number) Standing.Absent number result files after
  pub names : names_there after ≡ names_after result number (names_there files)
  pub devices : DropsOne number result before now
  pub placed : OthersStayPlaced (placed_anew result number) before now

-- ---- queries

-- What a call that only asks leaves: the files with their trees, what the devices hold, the writes, and where the parts stand.
pub record OnlyAsks (files : Files) (before now : Devices) (after : Files) : Type 0 where
  pub files_stay : after ≡ files
  pub devices_stay : OthersOnlyRead None before now
  pub placed : OthersStayPlaced None before now

abbrev pub SomeBroken : Files → Type 0
SomeBroken files = (number : ℕ) × (is_broken (slot_at files number) ≡ true)

-- that there is no such file, or none that is open, comes from the files alone; a broken file is the node's own, or one that links lead to
abbrev pub ComesFromFiles : Files → Option AdfError → Bool → AdfError → Type 0
ComesFromFiles files first linked NoSuchFile = first ≡ Some NoSuchFile
ComesFromFiles files first linked NotOpen = first ≡ Some NotOpen
ComesFromFiles files first linked AdfError.Broken = (first ≡ Some AdfError.Broken) ⊎ ((linked ≡ true) × SomeBroken files)
ComesFromFiles files first linked error = Unit {0}

-- where the files alone refuse a node, the answer is theirs or want of memory; and what they alone tell comes from them
pub record EntersFiles {A : Type 0} (files : Files) (nodes : List NodeId) (linked : Bool) (result : Result A AdfError) : Type 0 where
  pub refused : IsRefusedBy (first_refusal (tests_of_files files nodes)) result
  pub comes : IfErr result (ComesFromFiles files (first_refusal (tests_of_files files nodes)) linked)

pub record AskedAnyway (files : Files) (before : Devices) (query : Query) (result : Result Reply AdfError) (now : Devices) (after : Files) : Type 0 where
  pub leaves : OnlyAsks files before now after
  pub entry : EntersFiles files (asked_node query ∷ []) (goes_through_links query) result
  pub cause : HasQueryCause files query before now result
  pub kind : IfOk result (IsReplyTo query)

-- ---- groups of edits

-- a group that is done has written one file at most, which stays open
pub record WritesFile (files : Files) (before : Devices) (edits : List Edit) (now : Devices) (after : Files) : Type 0 where
  pub one : Option ℕ
  pub own : IfSome one (MayEdit files edits)
  pub others : OthersOnlyRead one before now
  pub placed : OthersStayPlaced one before now
  pub standing : standings after ≡ standings files

-- one whose write failed has broken it
pub record BreaksFile (files : Files) (before : Devices) (edits : List Edit) (now : Devices) (after : Files) : Type 0 where
  pub number : ℕ
  pub own : MayEdit files edits number
  pub others : OthersOnlyRead (Some number) before now
  pub placed : OthersStayPlaced (Some number) before now
  pub failed : WriteFailed (device_at before number) (device_at now number)
  pub standing : standings after ≡ slice_set (standings files) number Standing.Failed

-- and one that is refused otherwise has written none
abbrev pub RefusalLeaves : AdfError → Files → Devices → List Edit → Devices → Files → Type 0
RefusalLeaves WriteFault files before edits now after = BreaksFile files before edits now after
RefusalLeaves error files before edits now after = (standings after ≡ standings files) × OthersOnlyRead None before now × OthersStayPlaced None before now

abbrev pub GroupLeaves : {A : Type 0} → Result A EditError → Files → Devices → List Edit → Devices → Files → Type 0
GroupLeaves (Ok value) files before edits now after = WritesFile files before edits now after
GroupLeaves (Err refusal) files before edits now after = RefusalLeaves refusal.error files before edits now after

-- a refusal stands at an edit of the group, that of a failed write behind them all
abbrev pub IsIndex : List Edit → ℕ → AdfError → Type 0
IsIndex edits at WriteFault = at ≡ length edits
IsIndex edits at error = at < length edits

-- how many edits of a group were not refused by the files alone
abbrev pub entered : {A : Type 0} → Result A EditError → List Edit → ℕ
entered (Ok value) edits = length edits
entered (Err refusal) edits = refusal.at

-- each edit enters its files as a query does: those before the refused one are not refused there
pub record EntersGroup {A : Type 0} (files : Files) (edits : List Edit) (result : Result A EditError) : Type 0 where
  pub passed : (i : ℕ) (edit : Edit) → i < entered result edits → slice_get edits i ≡ Some edit → first_refusal (tests_of_files files (named_nodes edit)) ≡ None
  pub index : IfErr result (λ refusal. IsIndex edits refusal.at refusal.error)
  pub refused : IfErr result (λ refusal. (edit : Edit) → slice_get edits refusal.at ≡ Some edit
      → EntersFiles {A = Unit} files (named_nodes edit) (is_some (followed edit)) (Err refusal.error))

-- an error that any edit may be refused with; no failed write stands at an edit
abbrev pub is_of_edits : AdfError → Bool
is_of_edits Memory = true
is_of_edits ReadFault = true
is_of_edits AdfError.Broken = true
is_of_edits NotOpen = true
is_of_edits NoSuchFile = true
is_of_edits ReadOnly = true
is_of_edits NoSuchNode = true
is_of_edits OtherFile = true
is_of_edits (Layout rule place) = true
is_of_edits error = false

-- an error of links that lead nowhere
abbrev pub is_of_links : AdfError → Bool
is_of_links LinkMissing = true
is_of_links LinkChain = true
is_of_links error = false

-- an error of what an edit of this kind is given, or of its room
abbrev pub is_of_kind : Edit → AdfError → Bool
is_of_kind (Create at wanted label) BadName = true
is_of_kind (Create at wanted label) BadLabel = true
is_of_kind (Create at wanted label) Duplicate = true
is_of_kind (Create at wanted label) TooManyChildren = true
is_of_kind (Create at wanted label) TooDeep = true
is_of_kind (Create at wanted label) TooLarge = true
is_of_kind (Create at wanted label) (Full asked end) = true
is_of_kind (Delete node) NotAChild = true
is_of_kind (Rename node wanted) NotAChild = true
is_of_kind (Rename node wanted) BadName = true
is_of_kind (Rename node wanted) Duplicate = true
is_of_kind (Move node to) NotAChild = true
is_of_kind (Move node to) IntoItself = true
is_of_kind (Move node to) Duplicate = true
is_of_kind (Move node to) TooManyChildren = true
is_of_kind (Move node to) TooDeep = true
is_of_kind (Move node to) (Full asked end) = true
is_of_kind (SetLabel node label) BadLabel = true
is_of_kind (SetDims node shape) BadShape = true
is_of_kind (SetDims node shape) TooLarge = true
is_of_kind (SetDims node shape) (Full asked end) = true
is_of_kind (PutAll node given) NoData = true
is_of_kind (PutAll node given) TooLarge = true
is_of_kind (PutAll node given) (WrongLength want got) = true
is_of_kind (PutAll node given) (Full asked end) = true
is_of_kind (PutPart node selection given) NoData = true
is_of_kind (PutPart node selection given) TooLarge = true
is_of_kind (PutPart node selection given) BadRange = true
is_of_kind (PutPart node selection given) (WrongLength want got) = true
is_of_kind (PutPart node selection given) (Full asked end) = true
is_of_kind (Link at wanted file path) BadName = true
is_of_kind (Link at wanted file path) Duplicate = true
is_of_kind (Link at wanted file path) TooManyChildren = true
is_of_kind (Link at wanted file path) TooDeep = true
is_of_kind (Link at wanted file path) BadLink = true
is_of_kind (Link at wanted file path) TooLarge = true
is_of_kind (Link at wanted file path) (Full asked end) = true
is_of_kind edit error = false

-- an error that an edit may be refused with: those of links only where it follows them
abbrev pub may_refuse_edit : Edit → AdfError → Bool
may_refuse_edit edit error = is_of_edits error || (is_of_links error && is_some (followed edit)) || is_of_kind edit error

pub record ChangedAnyway {A : Type 0} (files : Files) (before : Devices) (edits : List Edit) (result : Result A EditError) (now : Devices) (after : Files) : Type 0 where
  pub leaves : GroupLeaves result files before edits now after
  pub names : names_there after ≡ names_there files
  pub entry : EntersGroup files edits result
  pub cause : HasGroupCause files before now result
  pub kind : IfErr result (λ refusal. (edit : Edit) → slice_get edits refusal.at ≡ Some edit → IsTrue (may_refuse_edit edit refusal.error))

-- ---- all calls

abbrev pub Anyway : Files → Devices → Call → Devices → Files → Type 0
Anyway files before (Opened number opening limit result) now after = OpenedAnyway files before number opening result now after
Anyway files before (Closed number result) now after = ClosedAnyway files before number result now after
Anyway files before (Discarded number result) now after = DiscardedAnyway files before number result now after
Anyway files before (Asked query result) now after = AskedAnyway files before query result now after
Anyway files before (Changed edits result) now after = ChangedAnyway files before edits result now after
Anyway files before Skipped now after = (now ≡ before) × (after ≡ files)
Anyway files before (Misread error) now after = IsLineError error × (now ≡ before) × (after ≡ files)
